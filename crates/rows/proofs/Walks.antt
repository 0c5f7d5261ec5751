-- Loops that test every number from b up to e: each stops, goes on or ends by one law, whatever it tests.
-- What a loop is to find out is the test of every number from the start on, as soon as one step and the end say so (`up_to_of`).
use Prim.Native.Nat.{ℕ, zero, suc, ◌+◌, ◌-◌, ◌≤◌, ◌<◌}
use mathlib.Core.Path.{◌≡◌, refl, sym, ap, ◌∙◌}
use mathlib.Core.Bool.{Bool, true, false, not, ◌&&◌}
use mathlib.Core.List.{List, [], ◌∷◌}
use native.Mathlib.Nat.{sub-zero}
use native.Mathlib.Numerals.{add-one}
use native.Mathlib.Omega.{arith}
use lib.ListN.{length, get_or, drop, drop_of_length-le}
use lib.Seq.{drop-cons}
use borrow.Author.Tests.{not-true, not-false}
use Rattle.grammar.specs.Notation.{all}
use Rattle.rules.specs.Rows.{up_from, row_count}
use Rattle.rules.specs.Rules.{every_row}

-- what a call said, where its result, or that with `!`, was tested
pub so : {A : Type 0} {x y z : A} → x ≡ y → x ≡ z → y ≡ z
so p q = sym p ∙ q

pub granted : {t b : Bool} → t ≡ b → not t ≡ false → b ≡ true
granted {t} p q = sym p ∙ not-false t q

pub denied : {t b : Bool} → t ≡ b → not t ≡ true → b ≡ false
denied {t} p q = sym p ∙ not-true t q

-- the numbers from b up to e
pub up_from-on : (b e : ℕ) → b < e → up_from b (e - b) ≡ b ∷ up_from (b + 1) (e - (b + 1))
up_from-on b e h = let k : e - b ≡ suc (e - (b + 1)) = omega arith in rw (k, add-one)

pub up_from-end : (b e : ℕ) → e ≤ b → up_from b (e - b) ≡ []
up_from-end b e h = let k : e - b ≡ 0 = omega arith in rw k

-- f holds of each of them
unfoldable pub up_to : (ℕ → Bool) → ℕ → ℕ → Bool
up_to f b e = all f (up_from b (e - b))

-- a loop whose answer w is what the numbers from b on say
module _ {w : Bool} (f : ℕ → Bool) (b e : ℕ) (i : w ≡ up_to f b e) where
  pub up_to_hit : b < e → f b ≡ false → false ≡ w
  unfolding up_to
  up_to_hit h q = rw (i, up_from-on b e h, q)

  pub up_to-on : b < e → f b ≡ true → w ≡ up_to f (b + 1) e
  unfolding up_to
  up_to-on h q = rw (i, up_from-on b e h, q)

  pub up_to-end : e ≤ b → true ≡ w
  unfolding up_to
  up_to-end h = rw (i, up_from-end b e h)

module _ (f : ℕ → Bool) (e : ℕ) (w : ℕ → Bool) (step : (i : ℕ) → i < e → w i ≡ (f i && w (i + 1))) (end : (i : ℕ) → e ≤ i → w i ≡ true) where
  pub up_to_of : (i : ℕ) → w i ≡ up_to f i e
  unfolding up_to
  up_to_of i = from (e - i) i refl
    where
      from : (n b : ℕ) → e - b ≡ n → w b ≡ all f (up_from b n)
      from zero b k = end b (omega arith)
      from (suc n) b k = step b (omega arith) ∙ rw add-one (ap (λ t. f b && t) (from n (suc b) (omega arith)))

pub up_to-rows : (f : ℕ → Bool) (T : List ℕ) → every_row T f ≡ up_to f 0 (row_count T)
unfolding up_to
up_to-rows f T = rw (sub-zero (row_count T))

-- every element of l from place i on
pub up_to-list : {A : Type 0} (f : A → Bool) (d : A) (l : List A) (i : ℕ) → all f (drop i l) ≡ up_to (λ k. f (get_or l k d)) i (length l)
up_to-list f d l =
    up_to_of (λ k. f (get_or l k d)) (length l) (λ i. all f (drop i l)) (λ i h. rw (add-one, drop-cons l i d h)) (λ i h. rw (drop_of_length-le l h))
