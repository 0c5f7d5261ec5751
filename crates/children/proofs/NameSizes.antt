-- In a sound table a row's name has as many bytes as its row says.
-- Names lie within the schema; past the last row every word is 0.
use Prim.Native.Nat.{ℕ, ◌+◌, ◌*◌, ◌%◌, ◌≤◌, ◌<◌}
use native.Mathlib.Omega.{arith}
use mathlib.Core.Path.{◌≡◌, refl, sym, ap, ◌∙◌}
use mathlib.Core.Bool.{Bool, true, false}
use mathlib.Core.List.{List}
use lib.Dec.{ltb, leb}
use lib.ListN.{length, take, drop, length-take, length-drop, get_or-eq_default}
use borrow.Author.Tests.{eqb-true, ltb-true, ltb-false, leb-true}
use Rattle.grammar.specs.Limits.{row_words}
use Rattle.grammar.specs.Notation.{same}
use Rattle.rules.specs.Rows.{row_count, start, size, name_of}
use Rattle.rules.specs.Sound.{sound}
use Rattle.rules.proofs.Lists.{and_left, and_right, same_true}
use Rattle.rules.proofs.First.{decided}
use Rattle.rules.proofs.SoundFacts.{every}
use Rattle.children.specs.Children.{RowNamed}

module _ (S T : List ℕ) (h : sound S T ≡ true) where
  within : (r : ℕ) → r < row_count T → start T r + size T r ≤ length S
  unfolding sound
  within r l = leb-true (start T r + size T r) (length S) (every T (λ x. leb (start T x + size T x) (length S)) (search (and_left, and_right) depth 13) r l)

  whole : length T % row_words ≡ 0
  unfolding sound
  whole = eqb-true (length T % row_words) 0 (search (and_left, and_right) depth 13)

  pub name_size : (r : ℕ) → length (name_of S T r) ≡ size T r
  unfolding name_of
  name_size r = go (ltb r (row_count T)) refl
    where
      go : (b : Bool) → ltb r (row_count T) ≡ b → length (take (size T r) (drop (start T r) S)) ≡ size T r
      go true e = simp (length-take, length-drop) (omega (arith, within r (ltb-true r (row_count T) e)))
      go false e =
          let l : row_count T ≤ r = ltb-false r (row_count T) e in
          let z : size T r ≡ 0 = get_or-eq_default T 0 {n = row_words * r + 2} (omega (arith, whole)) in
          rw z refl

-- one row
module _ {S T name : List ℕ} {c n : ℕ} (p : n ≡ size T c) where
  pub named_other : (n ≡ length name → ⊥) → RowNamed S T name c false
  named_other f = record {
    told = λ h. sym (decided (same name (name_of S T c)) (λ t. f (p ∙ sym (name_size S T h c) ∙ ap length (sym (same_true name (name_of S T c) t)))));
  }

  pub named-same : {x : List ℕ} {b : Bool} → x ≡ name_of S T c → b ≡ same name x → RowNamed S T name c b
  named-same q e = record { told = λ h. e ∙ ap (same name) q }
