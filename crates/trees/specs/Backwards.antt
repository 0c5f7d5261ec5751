-- A list seen from a place towards its start.
use Rattle.std.specs.Prelude.{ℕ, zero, suc, min, List, [], ◌∷◌, length, get_or}

-- what stands before a place of the list, the nearest first
unfoldable pub back : List ℕ → ℕ → List ℕ
back l zero = []
back l (suc i) = get_or l i 0 ∷ back l i

-- what stands before a place, or before the end where the place is past it
abbrev pub before : List ℕ → ℕ → List ℕ
before l i = back l (min i (length l))
