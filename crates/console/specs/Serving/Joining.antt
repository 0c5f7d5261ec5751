-- Serves contracts: lines over reads, namely what is carried of a line and what the next chunk has of it.
use Rattle.std.specs.Prelude.{ℕ, List, ◌++◌, take}
use Rattle.lines.specs.Lines.{before_lf}

-- the line so far: what is carried, then the bytes of the chunk before LF, as many as the room holds
unfoldable pub line_so_far : ℕ → List ℕ → List ℕ → List ℕ
line_so_far room line chunk = take room (line ++ take (before_lf chunk) chunk)
