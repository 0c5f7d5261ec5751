-- The search for a command, row by row: the rows left decide what all do. A name is compared as it stands; one that is too long for that, by what it means.
use Prim.Native.Nat.{ℕ, suc, ◌+◌, ◌-◌, ◌≤◌, ◌<◌}
use native.Mathlib.Numerals.{add-one}
use native.Mathlib.Decide.{dec_lt}
use native.Mathlib.Omega.{arith}
use mathlib.Core.Path.{◌≡◌, refl, sym, ap, ap₂, ◌∙◌}
use mathlib.Core.Bool.{Bool, true, false, cond, ◌&&◌, and-false}
use mathlib.Core.List.{List}
use mathlib.Core.Option.{some}
use lib.ListN.{length, get_or, take, drop, length-take, get_or-eq_default}
use borrow.Author.Tests.{ne_eqb, eq-eqb}
use Rattle.grammar.specs.Limits.{name_bytes}
use Rattle.grammar.specs.Notation.{same}
use Rattle.grammar.specs.Serving.Machine.Message.{message}
use Rattle.grammar.proofs.Lists.{different}
use Rattle.rules.specs.Kinds.{command_kind}
use Rattle.rules.specs.Rows.{row_count, kind, start, size, is_command, name_of}
use Rattle.rules.specs.Serving.Answers.{command_from}
use Rattle.std.specs.Prelude.{Option, Some, None}
use Rattle.strings.specs.Bytes.{Bytes}
use Rattle.strings.specs.Decoding.{NoBytes}
use Rattle.strings.proofs.Parts.{part-byte}
use Rattle.text.specs.Nodes.{node_kind}
use Rattle.rows.proofs.ListLaws.{same-sym}
use Rattle.lookups.specs.Lookups.{plain_kind, MeaningAt, NodeMeans, InnerBytes, NodeDecodes}
use Rattle.lookups.specs.Lookups.MeaningAt.{a_string}
use Rattle.lookups.proofs.TokenLaws.{meaning_is}
use Rattle.message.specs.declared.commands.Command.{Command}
use Rattle.message.specs.declared.commands.Command.TheVariants.{Row, Unknown}
use Rattle.message.specs.Commands.{as_command, is_named, first_named, NamesLong, FindsLong, FindsCommand}

-- a name is no longer than its row says
name_of-length : (S T : List ℕ) (r : ℕ) → length (name_of S T r) ≤ size T r
unfolding name_of
name_of-length S T r = simp length-take (omega arith)

-- one row
module _ (S T name : List ℕ) (r : ℕ) {i : ℕ} (p : i ≡ kind T r) where
  other_name : (name_of S T r ≡ name → ⊥) → false ≡ is_named S T name r
  unfolding is_named
  other_name n = sym (ap (λ (t : Bool). is_command T r && t) (different (name_of S T r) name n) ∙ and-false (is_command T r))

  pub no_command : (i ≡ command_kind → ⊥) → false ≡ is_named S T name r
  unfolding is_named
  no_command q = rw (ne_eqb (kind T r) command_kind (λ z. q (p ∙ z))) refl

  pub a-command : i ≡ command_kind → {b : Bool} → b ≡ same (name_of S T r) name → b ≡ is_named S T name r
  unfolding is_named
  a-command q e = e ∙ rw (eq-eqb (kind T r) command_kind (sym p ∙ q)) refl

  pub short-name : {n : ℕ} → n ≡ size T r → n < length name → false ≡ is_named S T name r
  short-name {n} f h = other_name (λ e. omega (arith, name_of-length S T r, ap length e))

  pub whole-name : i ≡ command_kind → {a n : ℕ} {known : List ℕ} {b : Bool} → a ≡ start T r → n ≡ size T r → known ≡ take n (drop a S) → b ≡ same known name → b ≡ is_named S T name r
  unfolding name_of
  whole-name q f g k e = a-command q (e ∙ ap (λ (l : List ℕ). same l name) (k ∙ ap₂ (λ (x y : ℕ). take x (drop y S)) g f))

-- the rows from r on are left
pub record CommandLeft (S T name : List ℕ) (r : ℕ) : Type 0 where
  pub left : command_from S T name 0 (row_count T) ≡ command_from S T name r (row_count T - r)

pub command_begin : (S T name : List ℕ) → CommandLeft S T name 0
command_begin S T name = let e : row_count T ≡ row_count T - 0 = omega arith in record { left = ap (command_from S T name 0) e }

module _ {S T name : List ℕ} {r : ℕ} (v : CommandLeft S T name r) where
  pub command-end : row_count T ≤ r → Unknown ≡ first_named S T name
  unfolding first_named
  command-end h = let z : row_count T - r ≡ 0 = omega arith in sym (ap as_command (v.left ∙ ap (command_from S T name r) z))

  module _ (h : r < row_count T) {b : Bool} (g : b ≡ is_named S T name r) where
    -- the first of the rows left, or those after it
    step : (t : Bool) → b ≡ t → command_from S T name 0 (row_count T) ≡ cond t (some r) (command_from S T name (r + 1) (row_count T - (r + 1)))
    unfolding is_named
    step t q =
        let e : row_count T - r ≡ suc (row_count T - (r + 1)) = omega arith in
        v.left
        ∙ ap (command_from S T name r) e
        ∙ ap (λ (i : ℕ). cond (is_named S T name r) (some r) (command_from S T name i (row_count T - (r + 1)))) (sym (add-one r))
        ∙ ap (λ (x : Bool). cond x (some r) (command_from S T name (r + 1) (row_count T - (r + 1)))) (sym g ∙ q)

    pub command_hit : b ≡ true → Row r ≡ first_named S T name
    unfolding first_named
    command_hit t = sym (ap as_command (step true t))

    pub command-on : b ≡ false → CommandLeft S T name (r + 1)
    command-on t = record { left = step false t }

-- the bytes of a name are bytes of the schema
name_of-bytes : (S T : List ℕ) (r : ℕ) → Bytes S → Bytes (name_of S T r)
unfolding name_of
name_of-bytes S T r b x = at (dec_lt x (size T r))
  where
    at : Dec (x < size T r) → get_or (take (size T r) (drop (start T r) S)) x 0 < 256
    at (yes h) = rw (part-byte S (start T r) (size T r) x h) (b (start T r + x))
    at (no h) = rw (get_or-eq_default (take (size T r) (drop (start T r) S)) 0 {n = x} (simp length-take (omega arith))) (omega arith)

-- a name that is too long for a sound table
module _ (S T m w : List ℕ) {k : ℕ} (r : ℕ) {i : ℕ} (p : i ≡ kind T r) where
  pub long_no_command : (i ≡ command_kind → ⊥) → NamesLong S T m w k r false
  long_no_command q = record { told = λ cs u n. no_command S T cs r p q }

  pub long-short : Bytes S → {n : ℕ} → n ≡ size T r → n ≤ name_bytes → NamesLong S T m w k r false
  long-short b {n} f h = record {
    told = λ cs u o. other_name S T cs r p (o.other (name_of S T r) (name_of-bytes S T r b) (omega (arith, name_of-length S T r)));
  }

  pub long-means : i ≡ command_kind → {name : List ℕ} {b : Bool} → name ≡ name_of S T r → NodeMeans message m w k name b → NamesLong S T m w k r b
  long-means q e g = record { told = λ cs u n. a-command S T cs r p q (meaning_is g u ∙ ap (same cs) e ∙ same-sym cs (name_of S T r)) }

pub record LongLeft (S T m w : List ℕ) (k r : ℕ) : Type 0 where
  pub left : (cs : List ℕ) → MeaningAt m w k cs → NoBytes name_bytes cs → CommandLeft S T cs r

pub long_begin : (S T m w : List ℕ) (k : ℕ) → LongLeft S T m w k 0
long_begin S T m w k = record { left = λ cs u n. command_begin S T cs }

module _ {S T m w : List ℕ} {k r : ℕ} (v : LongLeft S T m w k r) where
  pub long-end : row_count T ≤ r → FindsLong S T m w k Unknown
  long-end h = record { told = λ cs u n. command-end (v.left cs u n) h }

  module _ (h : r < row_count T) {b : Bool} (g : NamesLong S T m w k r b) where
    pub long_hit : b ≡ true → FindsLong S T m w k (Row r)
    long_hit t = record { told = λ cs u n. command_hit (v.left cs u n) h (g.told cs u n) t }

    pub long-on : b ≡ false → LongLeft S T m w k (r + 1)
    long-on t = record { left = λ cs u n. command-on (v.left cs u n) h (g.told cs u n) t }

pub decoded_within : {m w bytes : List ℕ} {k n : ℕ} {d : Option ℕ} → NodeDecodes m w k bytes d → d ≡ Some n → n ≤ length bytes
decoded_within g q = rw q at g.fits

-- the name of a message: its bytes, what it was decoded to, or one that is too long
module _ {S T m w : List ℕ} {k : ℕ} {c : Command} where
  pub plain-found : {i : ℕ} {plain : Bool} {bytes : List ℕ} → i ≡ node_kind w k → plain ≡ plain_kind i → plain ≡ true → InnerBytes m w k bytes → c ≡ first_named S T bytes → FindsCommand S T m w k c
  unfolding first_named
  plain-found pk pp t g e = record { told = λ a o l cs h. e ∙ ap (first_named S T) (g.told cs (a_string a o l h) (sym (pp ∙ ap plain_kind pk) ∙ t)) }

  pub decoded_found : {bytes name : List ℕ} {d : Option ℕ} {n : ℕ} → NodeDecodes m w k bytes d → d ≡ Some n → name ≡ take n bytes → c ≡ first_named S T name → FindsCommand S T m w k c
  unfolding first_named
  decoded_found g q p e = record {
    told = λ a o l cs h. e ∙ ap (first_named S T) (p ∙ sym ((rw q at g).told cs (a_string a o l h)));
  }

  pub long-found : {bytes : List ℕ} {d : Option ℕ} → length bytes ≡ name_bytes → NodeDecodes m w k bytes d → d ≡ None → FindsLong S T m w k c → FindsCommand S T m w k c
  unfolding first_named
  long-found f g q e = record { told = λ a o l cs h. e.told cs (a_string a o l h) (rw f at ((rw q at g).told cs (a_string a o l h))) }
