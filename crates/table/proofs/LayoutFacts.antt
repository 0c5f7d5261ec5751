-- Laws of the layout: children of the right kind, where a definition begins, what is left to lay out, and words that a kind does not use.
-- A table falls into at most as many definitions as it has rows; each takes one row at least, so what is left always suffices.
use Prim.Native.Nat.{ℕ, zero, suc, ◌+◌, ◌-◌, ◌*◌, ◌≤◌, ◌<◌}
use mathlib.Core.Path.{◌≡◌, refl, sym, ◌∙◌}
use mathlib.Core.Bool.{Bool, true, false, not, ◌&&◌, ◌||◌, and-false}
use mathlib.Core.Logic.{⊎_elim}
use mathlib.Core.List.{List, [], ◌∷◌}
use native.Mathlib.Nat.{eq-or-lt_of_le}
use native.Mathlib.Numerals.{add-one}
use native.Mathlib.Omega.{arith}
use lib.Dec.{eqb}
use lib.ListN.{get_or, get_or-eq_default}
use borrow.Author.Tests.{eq-eqb, ne_eqb}
use Rattle.grammar.specs.Limits.{row_words}
use Rattle.grammar.specs.Notation.{all}
use Rattle.rules.specs.Kinds.{enum_kind, struct_kind, union_kind, alternate_kind, command_kind}
use Rattle.rules.specs.Rows.{up_from, row_count, word, kind, owns, past_children}
use Rattle.rules.specs.Rules.{is_definition}
use Rattle.rules.specs.Sound.{children_fit, inline_fits, definition_at, laid_out, words_used, rest_zero}
use Rattle.rules.proofs.TableRows.{past_children-above}
use Rattle.rows.specs.Rows.{Follows}
use Rattle.rows.proofs.Walks.{granted, denied, up_to, up_to_of}

-- kinds of definitions
abbrev pub of_definition : ℕ → Bool
of_definition k = eqb k enum_kind || eqb k struct_kind || eqb k union_kind || eqb k alternate_kind || eqb k command_kind

-- where a definition begins
module _ (T : List ℕ) (r : ℕ) where
  module _ {b : Bool} (o : b ≡ owns T r) where
    pub inline-none : not b ≡ true → true ≡ inline_fits T r
    inline-none t = rw (denied o t)

    pub inline-fit : not b ≡ false → {s : ℕ} {f : Bool} → Follows T r s → f ≡ children_fit T s → f ≡ inline_fits T r
    inline-fit t p q = rw (granted o t, ← p.is) q

  pub definition_no : is_definition T r ≡ false → false ≡ definition_at T r
  definition_no d = rw d

  module _ (d : is_definition T r ≡ true) where
    pub definition_inline : inline_fits T r ≡ false → false ≡ definition_at T r
    definition_inline i = rw (i, and-false)

    pub definition_fit : inline_fits T r ≡ true → {f : Bool} → f ≡ children_fit T r → f ≡ definition_at T r
    definition_fit i q = rw (d, i) q

-- what is left to lay out from row r on
pub record Left (T : List ℕ) (r : ℕ) : Type 0 where
  pub most : ℕ
  pub enough : row_count T ≤ r + most
  pub equal : laid_out T (row_count T) 0 ≡ laid_out T most r

module _ (T : List ℕ) where
  pub left-all : Left T 0
  left-all = record { most = row_count T; enough = omega arith; equal = refl }

  laid_on : (n r : ℕ) → r < row_count T → laid_out T (suc n) r ≡ (definition_at T r && laid_out T n (past_children T r))
  unfolding laid_out
  laid_on n r h = rw (ne_eqb r (row_count T) (λ e. omega arith))

  laid_past : (n r : ℕ) → row_count T < r → laid_out T n r ≡ false
  unfolding laid_out
  laid_past zero r h = ne_eqb r (row_count T) (λ e. omega arith)
  laid_past (suc n) r h = rw (ne_eqb r (row_count T) (λ e. omega arith), laid_past n (past_children T r) (omega (arith, past_children-above T r)), and-false)

  laid_there : (n : ℕ) → laid_out T n (row_count T) ≡ true
  unfolding laid_out
  laid_there zero = eq-eqb (row_count T) (row_count T) refl
  laid_there (suc n) = rw (eq-eqb (row_count T) (row_count T) refl)

  module _ (r : ℕ) (l : Left T r) where
    pub left_stuck : r < row_count T → definition_at T r ≡ false → false ≡ laid_out T (row_count T) 0
    left_stuck h d = sym (l.equal ∙ go l.most l.enough)
      where
        go : (n : ℕ) → row_count T ≤ r + n → laid_out T n r ≡ false
        go zero k = absurd (omega arith)
        go (suc n) k = laid_on n r h ∙ rw d

    pub left-on : (next : ℕ) → next ≡ past_children T r → r < row_count T → definition_at T r ≡ true → Left T next
    left-on next p h d = go l.most l.enough l.equal
      where
        go : (n : ℕ) → row_count T ≤ r + n → laid_out T (row_count T) 0 ≡ laid_out T n r → Left T next
        go zero k e = absurd (omega arith)
        go (suc n) k e = record { most = n; enough = omega (arith, past_children-above T r); equal = e ∙ laid_on n r h ∙ rw (d, p) }

    pub left-none : row_count T ≤ r → eqb r (row_count T) ≡ laid_out T (row_count T) 0
    left-none h = ⊎_elim there (λ (k : row_count T < r). ne_eqb r (row_count T) (λ e. omega arith) ∙ sym (l.equal ∙ laid_past l.most r k)) (eq-or-lt_of_le h)
      where
        there : row_count T ≡ r → eqb r (row_count T) ≡ laid_out T (row_count T) 0
        there e = eq-eqb r (row_count T) (sym e) ∙ sym (l.equal ∙ rw (← e) (laid_there l.most))

-- words that a kind does not use; a number that is none of 1 to n, as a `match` leaves it, is 0 or above n
abbrev pub NoneOf : ℕ → ℕ → Type 0
NoneOf zero k = Unit
NoneOf (suc n) k = NoneOf n k × (k ≡ suc n → ⊥)

above : (n k : ℕ) → NoneOf n k → 0 < k → n < k
above zero k h p = p
above (suc n) k h p = let q : n < k = above n k h.0 p in omega (arith, h.1)

pub none_used : (k : ℕ) → NoneOf command_kind k → 0 ≡ words_used [] k
none_used zero h = refl
none_used (suc k) h = sym (get_or-eq_default (0 ∷ 4 ∷ 3 ∷ 5 ∷ 6 ∷ 6 ∷ 4 ∷ 4 ∷ 4 ∷ 7 ∷ []) 0 (above command_kind (suc k) h (omega arith)))

pub rest-up_to : (T : List ℕ) (r k i : ℕ) → k ≡ kind T r → i ≡ words_used [] k → rest_zero T r ≡ up_to (λ j. eqb (get_or T (row_words * r + j) 0) 0) i row_words
rest-up_to T r k i p q =
    rw (q, p)
    (up_to_of (λ j. eqb (get_or T (row_words * r + j) 0) 0) row_words (λ j. all (λ n. eqb (word T r n) 0) (up_from j (row_words - j)))
    (λ j h. let m : row_words - j ≡ suc (row_words - suc j) = omega arith in rw (add-one, m))
    (λ j h. let m : row_words - j ≡ 0 = omega arith in rw m) (words_used T (kind T r)))
