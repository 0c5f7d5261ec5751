-- The first number that repeats one before it. Number i stands for f i.
use Rattle.std.specs.Prelude.{ℕ, ◌<◌, ◌≡◌, Option, Some, None, Result, Ok, Err}
use Rattle.sorted.specs.declared.repeats.GivenUp.{GivenUp}

module _ {A : Type 0} (f : ℕ → A) where
  -- i stands for what a number before it does
  pub record Repeat (i : ℕ) : Type 0 where
    pub other : ℕ
    pub before : other < i
    pub same : f other ≡ f i

  -- no number below n does
  pub record NoneTo (n : ℕ) : Type 0 where
    pub new : (i : ℕ) → i < n → Repeat i → ⊥

  abbrev pub Tells : ℕ → Result (Option ℕ) GivenUp → Type 0
  Tells n (Ok None) = NoneTo n
  Tells n (Ok (Some i)) = (i < n) × Repeat i × NoneTo i
  Tells n (Err e) = Unit {0}

  -- what a search finds among the numbers below n
  pub record Finds (n : ℕ) (r : Result (Option ℕ) GivenUp) : Type 0 where
    pub told : Tells n r
