-- Lists of numbers in the order of what they stand for. Number i stands for f i.
use Rattle.std.specs.Prelude.{ℕ, suc, ◌≤◌, ◌<◌, ◌≡◌, cond, List, min, get_or, Option, Some, None, Result, Ok, Err}
use Rattle.std.specs.Ordering.{nat_cmp, ordering_then, is_eq}
use Rattle.std.specs.declared.cmp.Ordering.{Ordering}
use Rattle.std.specs.declared.cmp.Ordering.TheVariants.{Less}
use Rattle.sorted.specs.declared.repeats.GivenUp.{GivenUp}
use Rattle.sorted.specs.Orders.{order}

-- each number below n stands in the list, below n, where its place says
pub record Placed (list : List ℕ) (n : ℕ) (places : List ℕ) : Type 0 where
  pub within : (i : ℕ) → i < n → get_or places i 0 < n
  pub there : (i : ℕ) → i < n → get_or list (get_or places i 0) 0 ≡ i

-- the lesser of two numbers, the second only if it stands for the same as the one before it
abbrev pub least_of : ℕ → Ordering → ℕ → ℕ
least_of best o here = cond (is_eq o) (min best here) best

module _ (f : ℕ → List ℕ) (list : List ℕ) where
  -- the first n numbers are in the order of what they stand for, those that stand for the same in their own
  pub record Ordered (n : ℕ) : Type 0 where
    pub step : (k : ℕ) → suc k < n → ordering_then (order (f (get_or list k 0)) (f (get_or list (suc k) 0))) (nat_cmp (get_or list k 0) (get_or list (suc k) 0)) ≡ Less

  -- the number r stands among the first n, after one that stands for the same
  pub record Paired (n r : ℕ) : Type 0 where
    pub place : ℕ
    pub within : suc place < n
    pub is : get_or list (suc place) 0 ≡ r
    pub same : f (get_or list place 0) ≡ f (get_or list (suc place) 0)

  -- the first n numbers are in order, and r is the least of them that is paired, or `none`
  pub record Least (n none r : ℕ) : Type 0 where
    pub ordered : Ordered n
    pub upto : r ≤ none
    pub found : r < none → Paired n r
    pub least : (m : ℕ) → Paired n m → r ≤ m

  abbrev pub NeighboursTold : ℕ → Result (Option ℕ) GivenUp → Type 0
  NeighboursTold n (Ok None) = Least n n n
  NeighboursTold n (Ok (Some i)) = (i < n) × Least n n i
  NeighboursTold n (Err e) = Unit {0}

  -- what the search among neighbours finds
  pub record Neighbours (n : ℕ) (r : Result (Option ℕ) GivenUp) : Type 0 where
    pub told : NeighboursTold n r
