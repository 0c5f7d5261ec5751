-- The kinds of nodes, one for each value and each key of a text. A plain string or key has neither a backslash nor a byte above 0x7F.
use Rattle.std.specs.Prelude.{ℕ}

abbrev pub null_node : ℕ
null_node = 1

abbrev pub false_node : ℕ
false_node = 2

abbrev pub true_node : ℕ
true_node = 3

abbrev pub integer_node : ℕ
integer_node = 4

abbrev pub other_number_node : ℕ
other_number_node = 5

abbrev pub plain_string_node : ℕ
plain_string_node = 6

abbrev pub other_string_node : ℕ
other_string_node = 7

abbrev pub array_node : ℕ
array_node = 8

abbrev pub object_node : ℕ
object_node = 9

abbrev pub plain_key_node : ℕ
plain_key_node = 10

abbrev pub other_key_node : ℕ
other_key_node = 11
