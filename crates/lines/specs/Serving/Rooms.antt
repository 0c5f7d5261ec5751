-- Serves contracts: the room that a number takes.
use Rattle.std.specs.Prelude.{ℕ, ◌+◌}

-- a machine number has at most so many digits, and a word of a table or a record
abbrev pub number_digits : ℕ
number_digits = 20

abbrev pub word_digits : ℕ
word_digits = 10

-- each with a byte before or after it
abbrev pub number_room : ℕ
number_room = number_digits + 1

abbrev pub word_room : ℕ
word_room = word_digits + 1
