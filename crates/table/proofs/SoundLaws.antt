-- What each return of `is_sound` says: a row of tests, the first that fails decides.
-- `sound` is regrouped into the tests of lengths, the shape and the rules.
use Prim.Native.Nat.{ℕ, ◌+◌, ◌*◌, ◌%◌, ◌≤◌, ◌<◌}
use mathlib.Core.Path.{◌≡◌, sym, ◌∙◌}
use mathlib.Core.Bool.{Bool, true, false, ◌&&◌, and_assoc}
use mathlib.Core.List.{List}
use native.Mathlib.Omega.{arith}
use lib.Dec.{eqb, leb}
use lib.ListN.{length}
use borrow.Author.Tests.{le-leb, lt-leb, eq-eqb, ne_eqb}
use Rattle.grammar.specs.Limits.{row_words, table_rows, schema_bytes}
use Rattle.rules.specs.Rows.{row_count}
use Rattle.rules.specs.Sound.{sound}
use Rattle.table.specs.RuleParts.{names_within, rows_fit, shaped, definitions_fit, keeps_rules}

-- the end of a name against the length of the schema
module _ {x y a b n : ℕ} (p : x ≡ a) (q : y ≡ b) where
  pub name-past : n < x + y → leb (a + b) n ≡ false
  name-past h = lt-leb (a + b) n (omega arith)

  pub name-within : x + y ≤ n → leb (a + b) n ≡ true
  name-within h = le-leb (a + b) n (omega arith)

module _ (S T : List ℕ) where
  sound-parts : sound S T ≡ eqb (length T % row_words) 0 && (leb (row_count T) table_rows && (leb (length S) schema_bytes && (shaped S T && keeps_rules S T)))
  unfolding sound shaped names_within rows_fit definitions_fit keeps_rules
  sound-parts = simp and_assoc

  pub not-whole-rows : (length T % row_words ≡ 0 → ⊥) → false ≡ sound S T
  not-whole-rows n = sym (sound-parts ∙ rw (ne_eqb (length T % row_words) 0 n))

  module _ (z : length T % row_words ≡ 0) where
    pub too_many_rows : table_rows * row_words < length T → false ≡ sound S T
    too_many_rows h = sym (sound-parts ∙ rw (eq-eqb (length T % row_words) 0 z, lt-leb (row_count T) table_rows (omega arith)))

    module _ (h : length T ≤ table_rows * row_words) where
      few_rows : sound S T ≡ leb (length S) schema_bytes && (shaped S T && keeps_rules S T)
      few_rows = sound-parts ∙ rw (eq-eqb (length T % row_words) 0 z, le-leb (row_count T) table_rows (omega arith))

      pub too_long-schema : schema_bytes < length S → false ≡ sound S T
      too_long-schema k = sym (few_rows ∙ rw (lt-leb (length S) schema_bytes k))

      module _ (k : length S ≤ schema_bytes) where
        pub not-shaped : shaped S T ≡ false → false ≡ sound S T
        not-shaped e = sym (few_rows ∙ rw (le-leb (length S) schema_bytes k, e))

        pub sound-is : shaped S T ≡ true → {b : Bool} → b ≡ keeps_rules S T → b ≡ sound S T
        sound-is e f = f ∙ sym (few_rows ∙ rw (le-leb (length S) schema_bytes k, e))
