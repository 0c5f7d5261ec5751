-- Serves contracts: one ask of the reader, and its line put.
use Rattle.std.specs.Prelude.{ℕ, ◌≡◌, List, ◌++◌}
use Rattle.walker.specs.Seeing.{place_after}
use Rattle.trees.specs.TreeText.{line_at, open_then}

-- over a schema, its table, a message, its record words and the room for ends
module _ (S T m ws : List ℕ) (room : ℕ) where
  -- the line is put, the place is the next, and the record is open; or nothing is seen, and all stays
  pub record One (n : ℕ) (es old new : List ℕ) (next : ℕ) (es' : List ℕ) : Type 0 where
    pub puts : new ≡ old ++ line_at S T m ws room n es
    pub moves : next ≡ place_after ws n
    pub opens : es' ≡ open_then S T m ws room n es
