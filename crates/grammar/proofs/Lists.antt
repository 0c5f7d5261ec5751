-- What the tests on lists say: `same` is equality, `all` holds of every element, `apart` of every two positions.
-- By induction on the lists. Elements are named by membership (`List.Memᴰ`) or by position (`get_or`, with any default).
use Prim.Native.Nat.{ℕ, zero, suc, ◌<◌}
use native.Mathlib.Omega.{arith}
use native.Mathlib.Nat.{le_of_suc-le-suc}
use mathlib.Core.Path.{◌≡◌, refl, sym, ap₂}
use mathlib.Core.Bool.{Bool, true, false, not}
use mathlib.Core.List.{List, [], ◌∷◌, Memᴰ}
use lib.ListN.{length, get_or}
use lib.Dec.{eqb}
use borrow.Author.Tests.{eqb-true, eq-eqb, not-true}
use Rattle.grammar.specs.Notation.{same, all, apart}
use Rattle.grammar.proofs.Booleans.{clash, both}

pub same_true : (x y : List ℕ) → same x y ≡ true → x ≡ y
same_true [] [] e = refl
same_true [] (b ∷ y) e = clash e refl
same_true (a ∷ x) [] e = clash e refl
same_true (a ∷ x) (b ∷ y) e = let h = both (eqb a b) (same x y) e in ap₂ (λ (c : ℕ) (z : List ℕ). c ∷ z) (eqb-true a b h.0) (same_true x y h.1)

pub same_refl : (x : List ℕ) → same x x ≡ true
same_refl [] = refl
same_refl (a ∷ x) = rw (eq-eqb a a refl) (same_refl x)

pub same-is : (x y : List ℕ) → x ≡ y → same x y ≡ true
same-is x y e = rw e (same_refl y)

pub same_false : (x y : List ℕ) → same x y ≡ false → x ≡ y → ⊥
same_false x y f e = clash (same-is x y e) f

pub different : (x y : List ℕ) → (x ≡ y → ⊥) → same x y ≡ false
different x y n = go (same x y) refl
  where
    go : (t : Bool) → same x y ≡ t → t ≡ false
    go true e = absurd (n (same_true x y e))
    go false e = refl

pub same_comm : (x y : List ℕ) → same x y ≡ same y x
same_comm x y = go (same x y) refl
  where
    go : (t : Bool) → same x y ≡ t → t ≡ same y x
    go true e = sym (same-is y x (sym (same_true x y e)))
    go false e = sym (different y x (λ q. same_false x y e (sym q)))

module _ {A : Type 0} (f : A → Bool) where
  pub all_true : (l : List A) → all f l ≡ true → (x : A) → Memᴰ x l → f x ≡ true
  all_true [] e x m = elim m [ ]
  all_true (y ∷ l) e x (Memᴰ.head h) = rw h (both (f y) (all f l) e).0
  all_true (y ∷ l) e x (Memᴰ.tail m) = all_true l (both (f y) (all f l) e).1 x m

  pub all_of : (l : List A) → ((x : A) → Memᴰ x l → f x ≡ true) → all f l ≡ true
  all_of [] h = refl
  all_of (y ∷ l) h = rw (h y (Memᴰ.head refl)) (all_of l (λ x m. h x (Memᴰ.tail m)))

  pub all-at : (d : A) (l : List A) → all f l ≡ true → (a : ℕ) → a < length l → f (get_or l a d) ≡ true
  all-at d [] e a h = absurd (omega arith)
  all-at d (y ∷ l) e zero h = (both (f y) (all f l) e).0
  all-at d (y ∷ l) e (suc a) h = all-at d l (both (f y) (all f l) e).1 a (le_of_suc-le-suc h)

  pub all_of_at : (d : A) (l : List A) → ((a : ℕ) → a < length l → f (get_or l a d) ≡ true) → all f l ≡ true
  all_of_at d [] h = refl
  all_of_at d (y ∷ l) h = rw (h 0 (omega arith)) (all_of_at d l (λ a g. h (suc a) (omega arith)))

module _ {A : Type 0} (f : A → A → Bool) where
  pub apart-true : (d : A) (l : List A) → apart f l ≡ true → (a b : ℕ) → a < b → b < length l → f (get_or l a d) (get_or l b d) ≡ false
  apart-true d [] e a b h g = absurd (omega arith)
  apart-true d (x ∷ l) e zero zero h g = absurd (omega arith)
  apart-true d (x ∷ l) e zero (suc b) h g = not-true (f x (get_or l b d)) (all-at (λ y. not (f x y)) d l (both (all (λ y. not (f x y)) l) (apart f l) e).0 b (le_of_suc-le-suc g))
  apart-true d (x ∷ l) e (suc a) zero h g = absurd (omega arith)
  apart-true d (x ∷ l) e (suc a) (suc b) h g = apart-true d l (both (all (λ y. not (f x y)) l) (apart f l) e).1 a b (le_of_suc-le-suc h) (le_of_suc-le-suc g)

  pub apart_of : (d : A) (l : List A) → ((a b : ℕ) → a < b → b < length l → f (get_or l a d) (get_or l b d) ≡ false) → apart f l ≡ true
  apart_of d [] h = refl
  apart_of d (x ∷ l) h =
      rw (all_of_at (λ y. not (f x y)) d l (λ a g. rw (h 0 (suc a) (omega arith) (omega arith)) refl)) (apart_of d l (λ a b g i. h (suc a) (suc b) (omega arith) (omega arith)))
