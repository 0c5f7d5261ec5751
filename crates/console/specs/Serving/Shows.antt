-- Serves contracts: one ask of the reader, its line put, and whether to ask on.
use Rattle.std.specs.Prelude.{ℕ, ◌+◌, ◌/◌, ◌≤◌, ◌<◌, ◌≡◌, Bool, true, false, ◌⊎◌, List, [], length}
use Rattle.grammar.specs.Limits.{record_words}
use Rattle.trees.specs.Serving.Rooms.{line_room}
use Rattle.trees.specs.Serving.Asks.{One}

-- the line is put after those before it; the lines put stay on the page or are written; after a record there is room for another line, and else no record is left
pub record Shows (S T m ws : List ℕ) (room page n : ℕ) (es old : List ℕ) (next : ℕ) (es' new : List ℕ) (on : Bool) : Type 0 where
  pub lines : List ℕ
  pub one : One S T m ws room n es old lines next es'
  pub kept : (new ≡ lines) ⊎ (new ≡ [])
  pub goes : on ≡ true → (n < length ws / record_words) × (length new + line_room ≤ page)
  pub stops : on ≡ false → length ws / record_words ≤ n
