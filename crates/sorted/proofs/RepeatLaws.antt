-- The first number that repeats one before it: whatever tells the numbers apart finds the same.
use Prim.{tt}
use Prim.Native.Nat.{ℕ, suc, ◌≤◌, ◌<◌}
use native.Mathlib.Omega.{arith}
use native.Mathlib.Numerals.{add-one}
use mathlib.Core.Path.{◌≡◌, subst}
use mathlib.Core.Logic.{◌↔◌}
use borrow.Author.Count.{below_more}
use Rattle.std.specs.Prelude.{Option, Some, None, Result, Ok, Err}
use Rattle.sorted.specs.declared.repeats.GivenUp.{GivenUp}
use Rattle.sorted.specs.Repeats.{Repeat, NoneTo, Tells, Finds}

-- two ways to tell the numbers below n apart
module _ {A B : Type 0} {f : ℕ → A} {g : ℕ → B} {n : ℕ} (t : (i j : ℕ) → i < n → j < n → (f i ≡ f j) ↔ (g i ≡ g j)) where
  repeat_as : {i : ℕ} → i < n → Repeat f i → Repeat g i
  repeat_as {i} h r = record { other = r.other; before = r.before; same = (t r.other i (omega (arith, r.before)) h).0 r.same }

  none_as : {m : ℕ} → m ≤ n → NoneTo f m → NoneTo g m
  none_as h v =
      record {
        new = λ i k r. v.new i k (record { other = r.other; before = r.before; same = (t r.other i (omega (arith, r.before)) (omega arith)).1 r.same });
      }

  tells_as : (r : Result (Option ℕ) GivenUp) → Tells f n r → Tells g n r
  tells_as (Ok None) v = none_as (omega arith) v
  tells_as (Ok (Some i)) v = (v.0, repeat_as v.0 v.1, none_as (omega (arith, v.0)) v.2)
  tells_as (Err e) v = tt

  pub finds_as : {r : Result (Option ℕ) GivenUp} → Finds f n r → Finds g n r
  finds_as {r} v = record { told = tells_as r v.told }

module _ {A : Type 0} {f : ℕ → A} where
  pub none-start : NoneTo f 0
  none-start = record { new = λ i h. absurd (omega arith) }

  pub none_more : {i : ℕ} → NoneTo f i → (Repeat f i → ⊥) → NoneTo f (suc i)
  none_more {i} v h = subst (NoneTo f) (add-one i) (record { new = below_more (λ (m : ℕ). Repeat f m → ⊥) i v.new h })

  pub none_end : {i n : ℕ} → n ≤ i → NoneTo f i → NoneTo f n
  none_end h v = record { new = λ m k. v.new m (omega arith) }

  pub finds-nothing : {n : ℕ} → (e : GivenUp) → Finds f n (Err e)
  finds-nothing e = record { told = tt }
