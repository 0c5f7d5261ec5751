-- A test that holds of each of some numbers, one after the other, so that a fact on them is computed once.
-- By induction on how many there are.
use Prim.Native.Nat.{ℕ, zero, suc, ◌+◌, ◌≤◌, ◌<◌}
use native.Mathlib.Omega.{arith}
use mathlib.Core.Path.{◌≡◌, refl, ap, ◌∙◌}
use mathlib.Core.Bool.{Bool, true, false, ◌&&◌}
use lib.Dec.{eqb}
use borrow.Author.Tests.{eqb-true, eqb-false}
use Rattle.grammar.proofs.Booleans.{both}

-- of n numbers from a on
abbrev pub every : (ℕ → Bool) → ℕ → ℕ → Bool
every f a zero = true
every f a (suc n) = f a && every f (suc a) n

pub every-at : (f : ℕ → Bool) (a n m : ℕ) → every f a n ≡ true → a ≤ m → m < a + n → f m ≡ true
every-at f a zero m h g k = absurd (omega arith)
every-at f a (suc n) m h g k = go (eqb m a) refl (every-at f (suc a) n m)
  where
    go : (t : Bool) → eqb m a ≡ t → (every f (suc a) n ≡ true → suc a ≤ m → m < suc a + n → f m ≡ true) → f m ≡ true
    go true t ih = ap f (eqb-true m a t) ∙ (both (f a) (every f (suc a) n) h).0
    go false t ih = let e = eqb-false m a t in ih (both (f a) (every f (suc a) n) h).1 (omega arith) (omega arith)
