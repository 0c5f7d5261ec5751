-- Serves contracts: how a run begins, by what was read of the schema file: what is put first, and whether messages follow.
use Rattle.std.specs.Prelude.{ℕ, ◌+◌, ◌*◌, ◌≤◌, min, ◌≡◌, List, [], ◌++◌, length, take, Option, Some, None, Result, Ok, Err}
use Rattle.grammar.specs.Limits.{schema_bytes, row_words}
use Rattle.rules.specs.declared.SchemaAnswer.{SchemaAnswer}
use Rattle.rules.specs.declared.SchemaAnswer.TheVariants.{Accepted, Refused}
use Rattle.rules.specs.Serving.Answers.{schema_result}
use Rattle.console.specs.declared.answers.Style.{Style}
use Rattle.console.specs.Program.{table_room, first_line, later_lines}

-- the file, by what was read of it into a room
abbrev pub file_in : {E : Type 0} → List ℕ → Result ℕ E → Option (List ℕ)
file_in room (Ok n) = Some (take n room)
file_in room (Err x) = None

-- what is read of a file: no more than its first bytes
abbrev pub cut_file : Option (List ℕ) → Option (List ℕ)
cut_file None = None
cut_file (Some S) = Some (take (schema_bytes + 1) S)

abbrev pub ShortFile : Option (List ℕ) → Type 0
ShortFile None = Unit {0}
ShortFile (Some S) = length S ≤ schema_bytes + 1

-- messages follow an accepted schema alone, by the rows counted of so many words lent
abbrev pub table_words : SchemaAnswer → ℕ → Option ℕ
table_words (Accepted n) lent = Some (min (row_words * n) lent)
table_words (Refused x p) lent = None

-- the schema is accepted, and these words are its rows
pub record TableOf (S T : List ℕ) : Type 0 where
  pub count : ℕ
  pub accepted : (schema_result S table_room).answer ≡ Accepted count
  pub rows : T ≡ take (row_words * count) (schema_result S table_room).words

-- a file whose schema has these words as its table
pub record Messages (file : Option (List ℕ)) (rows : List ℕ) (words : ℕ) : Type 0 where
  pub schema : List ℕ
  pub read : file ≡ Some schema
  pub within : words ≤ length rows
  pub table : TableOf schema (take words rows)

-- after the first line nothing follows, whatever the input is; or messages, by the table of the schema that was read
abbrev pub Follows : Style → Option (List ℕ) → List ℕ → Option ℕ → Type 0
Follows s file rows None = (input : List ℕ) → later_lines s file input ≡ []
Follows s file rows (Some words) = Messages file rows words

-- a run begins
pub record Opens (s : Style) (file : Option (List ℕ)) (rows old new : List ℕ) (r : Option ℕ) : Type 0 where
  pub puts : new ≡ old ++ first_line s file
  pub follows : Follows s file rows r
