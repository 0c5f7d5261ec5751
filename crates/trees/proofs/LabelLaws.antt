-- A key looked for backwards, byte by byte; which records are alternatives; and how long a label is.
use Prim.Native.Nat.{ℕ, zero, suc, ◌+◌, ◌-◌, ◌≤◌, ◌<◌, min}
use native.Mathlib.Omega.{arith}
use mathlib.Core.Path.{◌≡◌, refl, sym, ap, ◌∙◌}
use mathlib.Core.Bool.{Bool, true, false, cond, not, ◌&&◌}
use mathlib.Core.List.{List, [], ◌∷◌}
use lib.Dec.{eqb, leb}
use lib.ListN.{length, take, drop, get_or}
use lib.Seq.{drop-cons}
use borrow.Author.Tests.{eq-eqb, ne_eqb, lt-leb, le-leb}
use Rattle.std.specs.Prelude.{Option, Some, None}
use Rattle.grammar.specs.Lexis.{blank}
use Rattle.grammar.specs.Notation.{text}
use Rattle.rules.specs.Types.{first_row}
use Rattle.rules.specs.Kinds.{alternate_kind}
use Rattle.rules.specs.Rows.{kind, is_alternate}
use Rattle.walker.specs.declared.records.Record.{Record}
use Rattle.walker.specs.Seeing.{seen_at}
use Rattle.trees.specs.Escapes.{shown}
use Rattle.trees.specs.Backwards.{back, before}
use Rattle.trees.specs.Labelling.{skip_blanks, even_slashes, quote_first, key_back, behind_byte, closed_key, behind_colon, key_before, key_text, alternate_ref, of_alternate, label_text}
use Rattle.trees.specs.Serving.Rooms.{shown_room}
use Rattle.trees.proofs.BackLaws.{back_next}
use Rattle.trees.proofs.ShownLaws.{shown_length}

-- blanks
pub skip_none : skip_blanks [] ≡ []
unfolding skip_blanks
skip_none = refl

by_blank : (b : ℕ) (l : List ℕ) (t : Bool) → blank b ≡ t → skip_blanks (b ∷ l) ≡ elim t [ true ↦ skip_blanks l | false ↦ b ∷ l ]
unfolding skip_blanks
by_blank b l t e = ap (λ (x : Bool). elim x [ true ↦ skip_blanks l | false ↦ b ∷ l ]) e

pub skip_on : (b : ℕ) (l : List ℕ) → blank b ≡ true → skip_blanks (b ∷ l) ≡ skip_blanks l
skip_on b l e = by_blank b l true e

pub skip_stop : (b : ℕ) (l : List ℕ) → blank b ≡ false → skip_blanks (b ∷ l) ≡ b ∷ l
skip_stop b l e = by_blank b l false e

-- backslashes
unfoldable pub turned : Bool → Bool → Bool
turned true x = x
turned false x = not x

pub turned_start : (x : Bool) → turned true x ≡ x
unfolding turned
turned_start x = refl

by_slash : (b : ℕ) (l : List ℕ) (t : Bool) → eqb b 92 ≡ t → even_slashes (b ∷ l) ≡ elim t [ true ↦ not (even_slashes l) | false ↦ true ]
unfolding even_slashes
by_slash b l t e = ap (λ (x : Bool). elim x [ true ↦ not (even_slashes l) | false ↦ true ]) e

pub even_on : (b : ℕ) (l : List ℕ) → b ≡ 92 → even_slashes (b ∷ l) ≡ not (even_slashes l)
even_on b l e = by_slash b l true (eq-eqb b 92 e)

pub even_stop : (b : ℕ) (l : List ℕ) → (b ≡ 92 → ⊥) → even_slashes (b ∷ l) ≡ true
even_stop b l n = by_slash b l false (ne_eqb b 92 n)

pub turned_end : (m : List ℕ) (i : ℕ) (t : Bool) {x : Bool} → i ≤ 0 → turned t (even_slashes (back m i)) ≡ x → t ≡ x
unfolding turned even_slashes back
turned_end m zero true h e = e
turned_end m zero false h e = e
turned_end m (suc i) t h e = absurd (omega arith)

pub turned_true : (t : Bool) → turned t true ≡ t
unfolding turned
turned_true true = refl
turned_true false = refl

pub turned_on : (t x : Bool) → turned t (not x) ≡ turned (not t) x
unfolding turned
turned_on true x = refl
turned_on false true = refl
turned_on false false = refl

-- a quote that opens a key
pub quote_is : (b : ℕ) (l : List ℕ) → b ≡ 34 → quote_first (b ∷ l) ≡ even_slashes l
unfolding quote_first
quote_is b l e = ap (λ (t : Bool). t && even_slashes l) (eq-eqb b 34 e)

pub quote_none : (b : ℕ) (l : List ℕ) → (b ≡ 34 → ⊥) → quote_first (b ∷ l) ≡ false
unfolding quote_first
quote_none b l n = ap (λ (t : Bool). t && even_slashes l) (ne_eqb b 34 n)

-- the key's bytes so far, from a place to its end
abbrev pub span : List ℕ → ℕ → ℕ → List ℕ
span m i e = take (e - i) (drop i m)

pub span_none : (m : List ℕ) (e : ℕ) → span m e e ≡ []
span_none m e = let f : e - e ≡ 0 = omega arith in ap (λ (k : ℕ). take k (drop e m)) f

pub span_more : (m : List ℕ) (i e : ℕ) → i < e → e ≤ length m → span m i e ≡ get_or m i 0 ∷ span m (i + 1) e
span_more m i e h l =
    let f : e - i ≡ suc (e - (i + 1)) = omega arith in
    let g : suc i ≡ i + 1 = omega arith in
    ap (λ (n : ℕ). take n (drop i m)) f ∙ ap (λ (x : List ℕ). take (suc (e - (i + 1))) x) (drop-cons m i 0 (omega arith)) ∙ ap (λ (n : ℕ). get_or m i 0 ∷ take (e - (i + 1)) (drop n m)) g

pub key_none : (k : List ℕ) → key_back k [] ≡ k
unfolding key_back
key_none k = refl

by_quote : (k : List ℕ) (b : ℕ) (l : List ℕ) (t : Bool) → quote_first (b ∷ l) ≡ t → key_back k (b ∷ l) ≡ elim t [ true ↦ k | false ↦ key_back (b ∷ k) l ]
unfolding key_back
by_quote k b l t e = ap (λ (x : Bool). elim x [ true ↦ k | false ↦ key_back (b ∷ k) l ]) e

pub key_stop : (m k : List ℕ) (i : ℕ) → quote_first (back m (i + 1)) ≡ true → key_back k (back m (i + 1)) ≡ k
key_stop m k i e = ap (key_back k) (back_next m i) ∙ by_quote k (get_or m i 0) (back m i) true (ap quote_first (sym (back_next m i)) ∙ e)

pub key_on : (m k : List ℕ) (i : ℕ) → quote_first (back m (i + 1)) ≡ false → key_back k (back m (i + 1)) ≡ key_back (get_or m i 0 ∷ k) (back m i)
key_on m k i e = ap (key_back k) (back_next m i) ∙ by_quote k (get_or m i 0) (back m i) false (ap quote_first (sym (back_next m i)) ∙ e)

-- a byte behind blanks
pub behind_is : (sought b : ℕ) (l : List ℕ) → b ≡ sought → behind_byte sought (b ∷ l) ≡ Some l
behind_is sought b l e = ap (λ (t : Bool). cond t (Some l) None) (eq-eqb b sought e)

pub behind_other : (sought b : ℕ) (l : List ℕ) → (b ≡ sought → ⊥) → behind_byte sought (b ∷ l) ≡ None
behind_other sought b l n = ap (λ (t : Bool). cond t (Some l) None) (ne_eqb b sought n)

pub behind_none : (sought : ℕ) → behind_byte sought [] ≡ None
behind_none sought = refl

-- the key before a value
pub key_is : (l : List ℕ) → key_before l ≡ behind_colon (behind_byte 58 (skip_blanks l))
unfolding key_before
key_is l = refl

-- alternatives
module _ (T : List ℕ) (t f : ℕ) where
  pub an_array : (f ≡ 0 → ⊥) → alternate_ref T t f ≡ false
  an_array h = rw (ne_eqb f 0 h) refl

  pub a_built_in : f ≡ 0 → t < first_row → alternate_ref T t f ≡ false
  a_built_in e h = rw (eq-eqb f 0 e, lt-leb first_row t h) refl

  pub a_row : f ≡ 0 → first_row ≤ t → alternate_ref T t f ≡ eqb (kind T (t - first_row)) alternate_kind
  a_row e h = ap (λ (x : Bool). x && leb first_row t && is_alternate T (t - first_row)) (eq-eqb f 0 e) ∙ ap (λ (x : Bool). x && is_alternate T (t - first_row)) (le-leb first_row t h)

-- the label
key_length : (k : Option (List ℕ)) → length (key_text k) ≤ shown_room
key_length (Some k) = shown_length k
key_length None = omega arith

module _ (T m ws : List ℕ) (start : ℕ) where
  pub label_arguments : label_text T m ws 0 start ≡ text "arguments"
  unfolding label_text
  label_arguments = refl

  by_alternate : (n : ℕ) (t : Bool) → (n ≡ 0 → ⊥) → of_alternate T (seen_at ws (n - 1)) ≡ t → label_text T m ws n start ≡ elim t [ true ↦ text "as" | false ↦ key_text (key_before (before m start)) ]
  unfolding label_text
  by_alternate zero t h e = absurd (h refl)
  by_alternate (suc n) t h e =
      let f : n ≡ suc n - 1 = omega arith in
      ap (λ (x : Bool). elim x [ true ↦ text "as" | false ↦ key_text (key_before (before m start)) ]) (ap (λ (k : ℕ). of_alternate T (seen_at ws k)) f ∙ e)

  pub label_as : (n : ℕ) → (n ≡ 0 → ⊥) → of_alternate T (seen_at ws (n - 1)) ≡ true → label_text T m ws n start ≡ text "as"
  label_as n h e = by_alternate n true h e

  pub label_key : (n : ℕ) → (n ≡ 0 → ⊥) → of_alternate T (seen_at ws (n - 1)) ≡ false → label_text T m ws n start ≡ key_text (key_before (before m start))
  label_key n h e = by_alternate n false h e

  either : (t : Bool) → length (elim t as (λ _. List ℕ) [ true ↦ text "as" | false ↦ key_text (key_before (before m start)) ]) ≤ shown_room
  either true = omega arith
  either false = key_length (key_before (before m start))

  pub label_length : (n : ℕ) → length (label_text T m ws n start) ≤ shown_room
  unfolding label_text
  label_length zero = omega arith
  label_length (suc n) = either (of_alternate T (seen_at ws n))
