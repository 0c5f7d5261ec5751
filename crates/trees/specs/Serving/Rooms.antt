-- Serves contracts: the room that a line and its parts take.
use Rattle.std.specs.Prelude.{ℕ, ◌+◌, ◌*◌}
use Rattle.grammar.specs.Limits.{name_bytes}
use Rattle.trees.specs.TreeText.{deepest}

-- what is shown of bytes has room here: the longest name, each byte escaped, and the dots
abbrev pub escape_bytes : ℕ
escape_bytes = 4

abbrev pub shown_room : ℕ
shown_room = escape_bytes * name_bytes + 3

-- a type's name in brackets
abbrev pub type_room : ℕ
type_room = shown_room + 2

-- no line is longer: the indent and the label, then the type, the text and what stands around them
abbrev pub indent_room : ℕ
indent_room = 2 * (1 + deepest)

abbrev pub left_room : ℕ
left_room = indent_room + shown_room

abbrev pub right_room : ℕ
right_room = type_room + shown_room + 6

abbrev pub line_room : ℕ
line_room = left_room + right_room
