-- Serves contracts: the room that what is shown of an answer takes.
use Rattle.std.specs.Prelude.{ℕ, ◌+◌, ◌*◌}
use Rattle.lines.specs.Serving.Rooms.{number_room}
use Rattle.trees.specs.Serving.Rooms.{escape_bytes, shown_room}
use Rattle.wordings.specs.Excerpts.{side_columns}

-- no meaning is longer
abbrev pub longest_meaning : ℕ
longest_meaning = 71

-- a refusal's line, and that of a command's name
abbrev pub refusal_room : ℕ
refusal_room = number_room + longest_meaning + 1

abbrev pub command_room : ℕ
command_room = shown_room + 3

-- the text around a place, each byte escaped, and the line of its line and column
abbrev pub lead_room : ℕ
lead_room = 5 + escape_bytes * side_columns

abbrev pub rest_room : ℕ
rest_room = escape_bytes * side_columns + 3

abbrev pub excerpt_room : ℕ
excerpt_room = 2 * lead_room + rest_room + 3

abbrev pub position_room : ℕ
position_room = 2 * number_room + 16

-- all that is shown of a schema's answer, and of a message's but for the records
abbrev pub schema_head_room : ℕ
schema_head_room = refusal_room + position_room + excerpt_room

abbrev pub message_head_room : ℕ
message_head_room = refusal_room + excerpt_room
