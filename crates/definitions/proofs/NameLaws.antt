-- Names where they stand: what the nodes of strings and keys say of them; and a `*` in front of a key.
use Prim.Native.Nat.{ℕ, suc, ◌+◌, ◌-◌, ◌*◌, ◌^◌, ◌≤◌, ◌<◌}
use Prim.Native.Char.{code}
use native.Mathlib.Nat.{add-zero}
use native.Mathlib.Omega.{arith}
use mathlib.Core.Path.{◌≡◌, refl, sym, ap, ap₂, ◌∙◌, subst}
use mathlib.Core.Bool.{Bool, true, false}
use mathlib.Core.List.{List, [], ◌∷◌}
use mathlib.Core.Option.{none, some}
use mir.Val.{bool_byte}
use lib.Dec.{eqb}
use lib.ListN.{length, get_or}
use lib.Seq.{get_or-drop}
use borrow.Author.Tests.{eqb-true, eq-eqb, ne_eqb}
use Rattle.grammar.specs.Grammar.{Chars, Chars.close, Chars.char}
use Rattle.grammar.specs.Limits.{schema_bytes}
use Rattle.grammar.specs.Tree.{Json, start_of, end_of, kind_of}
use Rattle.grammar.specs.Tree.Scalar.{null, bool, num, str}
use Rattle.grammar.specs.Tree.Json.{leaf, arr, obj}
use Rattle.grammar.specs.Tree.Kind.{string}
use Rattle.grammar.specs.SchemaText.{schema_lexis, SchemaChar.plain, SchemaChar.backslash}
use Rattle.grammar.specs.Serving.Machine.Schema.{schema}
use Rattle.grammar.proofs.Booleans.{clash}
use Rattle.strings.specs.Strings.{Means}
use Rattle.text.specs.Nodes.{next, Node, node_end, node_kind, node_start}
use Rattle.text.specs.Readers.{Stands, StandsTold}
use Rattle.lookups.specs.Lookups.{string_kind}
use Rattle.lookups.proofs.NodeLaws.{string_node_lem}
use Rattle.rules.specs.Types.{same_kind}
use Rattle.rules.specs.Definitions.{Name, TypeText, quoted, as_name, starred, keyed_member}
use Rattle.rules.specs.SchemaTable.{flag}
use Rattle.rules.specs.Serving.RawTable.{packed}
use Rattle.definitions.specs.Places.{Held, Keyed, Named, NameWord, NamedRow, Star}

-- a token from place a to e, `skip` bytes of it left out
named-at : {s w : List ℕ} {k kind a e skip : ℕ} {cs : List ℕ} → length s ≤ schema_bytes → skip ≤ 1 → Node w k kind a e → Means schema s a e cs → Named w k skip (quoted (a + skip) e)
named-at {skip = skip} h g x m =
    record { is = ap₂ (λ (i j : ℕ). quoted (i + skip) j) (sym x.has_start) (sym x.has_end); within = omega (arith, m.wide, m.within) }

named-so : {s w : List ℕ} {k kind a e : ℕ} {cs : List ℕ} → length s ≤ schema_bytes → Node w k kind a e → Means schema s a e cs → Named w k 0 (quoted a e)
named-so {w = w} {k} {a = a} {e} h x m = subst (λ (i : ℕ). Named w k 0 (quoted i e)) (add-zero a) (named-at h (omega arith) x m)

-- a value is a name
pub record IsName (w : List ℕ) (j : Json) (k : ℕ) : Type 0 where
  pub name : Name
  pub named : Named w k 0 name
  pub kind : same_kind (kind_of j) string ≡ true
  pub here : name ≡ quoted (start_of j) (end_of j)
  pub is : as_name j ≡ some name
  pub leaf : next w k ≡ suc k

module _ {s w : List ℕ} {k : ℕ} where
  string-named : (j : Json) → Held s w j k → same_kind (kind_of j) string ≡ true → Named w k 0 (quoted (start_of j) (end_of j))
  string-named (leaf a e null) h t = clash t refl
  string-named (leaf a e (bool b)) h t = clash t refl
  string-named (leaf a e (num i x)) h t = clash t refl
  string-named (leaf a e (str cs)) h t = named-so h.small h.holds.0 h.holds.2
  string-named (arr a e js) h t = clash t refl
  string-named (obj a e fs) h t = clash t refl

  string-leaf : (j : Json) → Held s w j k → same_kind (kind_of j) string ≡ true → next w k ≡ suc k
  string-leaf (leaf a e v) h t = h.holds.1
  string-leaf (arr a e js) h t = clash t refl
  string-leaf (obj a e fs) h t = clash t refl

  pub is_name : {j : Json} {r : Bool} → Held s w j k → r ≡ string_kind (node_kind w k) → r ≡ true → IsName w j k
  is_name {j} h e t =
      let q : same_kind (kind_of j) string ≡ true = sym (string_node_lem schema s w j h.level k h.holds) ∙ sym e ∙ t in
      record { name = quoted (start_of j) (end_of j); named = string-named j h q; kind = q; here = refl; is = rw q; leaf = string-leaf j h q }

  pub no_string : {j : Json} {r : Bool} → Held s w j k → r ≡ string_kind (node_kind w k) → r ≡ false → same_kind (kind_of j) string ≡ false
  no_string {j} h e t = sym (string_node_lem schema s w j h.level k h.holds) ∙ sym e ∙ t

  pub no_name : {j : Json} {r : Bool} → Held s w j k → r ≡ string_kind (node_kind w k) → r ≡ false → as_name j ≡ none
  no_name h e t = rw (no_string h e t)

  pub key-named : {x e : ℕ} {key : List ℕ} → Keyed s w k x e key → Named w k 0 (quoted x e)
  key-named h = named-so h.small h.node_is h.means

  -- the name of the member whose key this is
  pub member-named : {x e : ℕ} {key : List ℕ} → Keyed s w k x e key → (t : TypeText) → Named w k (flag (starred key)) (keyed_member x e (starred key) t).name
  member-named {x} {e} {key} h t = go (starred key)
    where
      go : (b : Bool) → Named w k (flag b) (keyed_member x e b t).name
      go true = named-at h.small (omega arith) h.node_is h.means
      go false = key-named h

-- the first code point is a `*` exactly if the first byte is: the only escape is another character
starred-first : {p q : ℕ} {l r cs : List ℕ} → Chars schema_lexis p l q r cs → starred cs ≡ eqb (get_or l 0 0) (code "*")
starred-first (close {b = b} t) = let e : b ≡ code "'" = eqb-true b (code "'") t in rw e
starred-first (char (plain h n m) w) = refl
starred-first (char backslash w) = refl

module _ {s w : List ℕ} {a i : ℕ} where
  first_byte : {x e : ℕ} {key : List ℕ} → i ≡ node_start w a + 1 → Keyed s w a x e key → starred key ≡ eqb (get_or s i 0) (code "*")
  first_byte {x} p h =
      let y : x + 1 ≡ i = sym (p ∙ ap (λ (n : ℕ). n + 1) h.node_is.has_start) in
      starred-first h.means.chars ∙ ap (λ (n : ℕ). eqb n (code "*")) (get_or-drop (x + 1) s 0 0 ∙ ap (λ (n : ℕ). get_or s n 0) (add-zero (x + 1) ∙ y))

  inside : {x e : ℕ} {key : List ℕ} → i ≡ node_start w a + 1 → Keyed s w a x e key → i < length s
  inside p h = omega (arith, h.node_is.has_start, h.means.wide, h.means.within)

  pub star_lem : {r : Bool} → i ≡ node_start w a + 1 → Stands s i (code "*") r → Star s w a r
  star_lem {r} p t = record { told = λ x y key h. go r t.told (inside p h) ∙ sym (first_byte p h) }
    where
      go : (r : Bool) → StandsTold s i (code "*") r → i < length s → r ≡ eqb (get_or s i 0) (code "*")
      go true q h = sym (eq-eqb (get_or s i 0) (code "*") q.1)
      go false q h = sym (ne_eqb (get_or s i 0) (code "*") (q h))

-- words about a name, as the code computes them
module _ {w : List ℕ} {k skip x r : ℕ} (f : x < 2 ^ 32 → r ≡ x) where
  pub start_word : x ≡ node_start w k + skip + 1 → NameWord w k skip (λ n. n.start) r
  start_word e =
      record { told = λ (n : Name) (h : Named w k skip n). let q : n.start ≡ x = ap (λ (m : Name). m.start) h.is ∙ sym e in f (omega (arith, h.within)) ∙ sym q }

  pub size_word : x ≡ node_end w k - (node_start w k + skip) - 2 → NameWord w k skip (λ n. n.size) r
  size_word e =
      record { told = λ (n : Name) (h : Named w k skip n). let q : n.size ≡ x = ap (λ (m : Name). m.size) h.is ∙ sym e in f (omega (arith, h.within)) ∙ sym q }

pub packed-word : {w : List ℕ} {k x r a b : ℕ} → (x < 2 ^ 32 → r ≡ x) → x ≡ schema_bytes * a + b → NameWord w k 0 (λ n. n.start) a → NameWord w k 0 (λ n. n.size) b → NameWord w k 0 packed r
packed-word {w} {k} {a = a} {b} f e g h =
    record {
      told = λ (n : Name) (m : Named w k 0 n).
          let u : a ≡ n.start = g.told n m in
          let v : b ≡ n.size = h.told n m in
          f (omega (arith, m.within)) ∙ e ∙ ap₂ (λ (i j : ℕ). schema_bytes * i + j) u v;
    }

pub named_row_lem : {w : List ℕ} {k skip kind start size : ℕ} → NameWord w k skip (λ n. n.start) start → NameWord w k skip (λ n. n.size) size
    → NamedRow w k skip kind (kind ∷ start ∷ size ∷ 0 ∷ 0 ∷ 0 ∷ 0 ∷ 0 ∷ [])
named_row_lem {kind = kind} f g = record { first = refl; told = λ (m : Name) x. ap₂ (λ (i j : ℕ). kind ∷ i ∷ j ∷ 0 ∷ 0 ∷ 0 ∷ 0 ∷ 0 ∷ []) (f.told m x) (g.told m x) }

-- a truth value as a word
pub flag_word : (b : Bool) → bool_byte b ≡ flag b
flag_word true = refl
flag_word false = refl
