-- Serves contracts: what the code finds of a label.
use Rattle.std.specs.Prelude.{ℕ, ◌<◌, List, Option, Some, None}
use Rattle.trees.specs.Backwards.{back}

-- what stands before a place that is found
abbrev pub back_at : List ℕ → Option ℕ → Option (List ℕ)
back_at m (Some i) = Some (back m i)
back_at m None = None

abbrev pub PlaceIn : ℕ → Option ℕ → Type 0
PlaceIn n (Some i) = i < n
PlaceIn n None = Unit {0}
