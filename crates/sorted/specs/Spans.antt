-- Spans of a text, by two words each.
use Rattle.std.specs.Prelude.{ℕ, List, take, drop}
use Rattle.grammar.specs.Notation.{word_of}

-- the bytes of span k: its first word is the start, the second the length
unfoldable pub span_at : List ℕ → List ℕ → ℕ → List ℕ
span_at s w k = take (word_of 2 w k 1) (drop (word_of 2 w k 0) s)
