-- A table written out equals the table of its rule, which the checker computes entry by entry; here an entry of the latter is the rule.
-- By the index, the rule moving up by one with each step.
use mathlib.Core.Path.{◌≡◌, sym, ap, ◌∙◌}
use Prim.Native.Nat.{ℕ, zero, suc, ◌+◌, ◌<◌}
use native.Mathlib.Nat.{add-zero, zero-add, not-suc-le-zero, le_of_suc-le-suc}
use native.Mathlib.Omega.{arith}
use lib.ListN.{get_or}
use Rattle.strings.specs.Classes.{tabulate}

module _ {A : Type 0} (f : ℕ → A) where
  from : (n i k : ℕ) (d : A) → k < n → get_or (tabulate f i n) k d ≡ f (i + k)
  from zero i k d h = absurd (not-suc-le-zero h)
  from (suc n) i zero d h = ap f (sym (add-zero i))
  from (suc n) i (suc k) d h = let e : suc i + k ≡ i + suc k = omega arith in from n (suc i) k d (le_of_suc-le-suc h) ∙ ap f e

  pub entry : (n k : ℕ) (d : A) → k < n → get_or (tabulate f 0 n) k d ≡ f k
  entry n k d h = from n 0 k d h ∙ ap f (zero-add k)
