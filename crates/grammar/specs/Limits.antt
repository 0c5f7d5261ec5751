-- Reference, Limits: the limits and widths. Each stands here and nowhere else.
use Rattle.std.specs.Prelude.{ℕ}

-- Reference, Schema answers 1 and Sound tables: the most bytes of a schema, in which a table's names lie
abbrev pub schema_bytes : ℕ
schema_bytes = 32768

-- Reference, Message answers 22: the most bytes of a message
abbrev pub message_bytes : ℕ
message_bytes = 16384

-- Reference, Text of schemas: the most levels of brackets; an outermost bracket is level 1 (Structure)
abbrev pub schema_levels : ℕ
schema_levels = 8

-- Reference, Text of messages and Longest starts
abbrev pub message_levels : ℕ
message_levels = 32

-- Reference, Names: the most bytes of a name
abbrev pub name_bytes : ℕ
name_bytes = 63

-- Reference, Rules 5 to 11, rule 8: the most structs in a chain of bases, the first counted
abbrev pub chain_structs : ℕ
chain_structs = 16

-- Reference, Schema answers 12 and Sound tables: the most rows of a table
abbrev pub table_rows : ℕ
table_rows = 1024

-- Reference, Rows: words of a row
abbrev pub row_words : ℕ
row_words = 8

-- Reference, Readings and records: words of a record
abbrev pub record_words : ℕ
record_words = 4
