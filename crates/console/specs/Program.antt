-- Reference, Program: what a program writes, given its schema file and its input, in each style.
use Rattle.std.specs.Prelude.{ℕ, ◌*◌, ◌/◌, true, false, List, [], ◌∷◌, ◌++◌, eqb, take, Option, Some, None}
use Prim.Native.Char.{code}
use Rattle.grammar.specs.Notation.{text}
use Rattle.grammar.specs.Limits.{table_rows, row_words, record_words}
use Rattle.rules.specs.declared.SchemaAnswer.{SchemaAnswer}
use Rattle.rules.specs.declared.SchemaAnswer.TheVariants.{Accepted, Refused}
use Rattle.rules.specs.SchemaAnswers as Schemas
use Rattle.rules.specs.MessageAnswers as Messages
use Rattle.rules.specs.Serving.Answers.{MessageResult, schema_result, message_result}
use Rattle.lines.specs.Text.{line_text}
use Rattle.trees.specs.TreeText.{lines_from}
use Rattle.wordings.specs.Wordings.{schema_head, message_head}
use Rattle.console.specs.declared.answers.Style.{Style}
use Rattle.console.specs.declared.answers.Style.TheVariants.{Numbers, Tree}

-- Reference, Program: a program lends words for 1,024 rows and for 4,096 records
abbrev pub table_room : ℕ
table_room = table_rows * row_words

abbrev pub record_count : ℕ
record_count = 4096

abbrev pub record_room : ℕ
record_room = record_count * record_words

-- the line of a schema: its number, the count of rows and the place
unfoldable pub schema_line : SchemaAnswer → List ℕ
schema_line a = line_text (Schemas.answer_number a) (Schemas.answer_rows a ∷ Schemas.answer_place a ∷ [])

abbrev pub schema_text : Style → List ℕ → SchemaAnswer → List ℕ
schema_text Numbers S a = schema_line a
schema_text Tree S a = schema_head S a

-- four numbers, the place last, and the words of the records counted
unfoldable pub result_line : MessageResult → List ℕ
result_line r =
    line_text (Messages.answer_number r.answer)
    (Messages.answer_row r.answer ∷ Messages.answer_records r.answer ∷ Messages.answer_place r.answer ∷ take (record_words * Messages.answer_records r.answer) r.words)

-- over a schema, its table and the words lent for records
module _ (S T : List ℕ) (room : ℕ) where
  -- a line for each record of these words; as many ends are lent as records
  unfoldable pub tree_lines : List ℕ → List ℕ → List ℕ
  tree_lines m ws = lines_from S T m ws (room / record_words) 0 []

  -- a line of numbers; or the answer in words, with the text around the place of a refusal, then a line for each record counted
  abbrev pub result_text : Style → List ℕ → MessageResult → List ℕ
  result_text Numbers m r = result_line r
  result_text Tree m r = message_head S T m r.answer ++ tree_lines m (take (record_words * Messages.answer_records r.answer) r.words)

  -- what is answered to a message
  unfoldable pub answer_text : Style → List ℕ → List ℕ
  answer_text s m = result_text s m (message_result S T m room)

-- in a style
module _ (s : Style) (S T : List ℕ) (room : ℕ) where
  -- Reference, Program: at the end of the input a line may lack its LF, but has to have a byte
  abbrev pub last_line : List ℕ → List ℕ
  last_line [] = []
  last_line (b ∷ m) = answer_text S T room s (b ∷ m)

  -- the answers to all messages of an input, where m has been read of the first
  unfoldable pub answers_to : List ℕ → List ℕ → List ℕ
  answers_to m [] = last_line m
  answers_to m (b ∷ l) = elim (eqb b (code "\n")) [ true ↦ answer_text S T room s m ++ answers_to [] l | false ↦ answers_to (m ++ (b ∷ [])) l ]

-- a file that can't be opened, or not be read
abbrev pub no_schema : List ℕ
no_schema = text "no schema" ++ (code "\n" ∷ [])

module _ (s : Style) where
  -- what stands first: the schema's line, where there is a file
  abbrev pub first_line : Option (List ℕ) → List ℕ
  first_line None = no_schema
  first_line (Some S) = schema_text s S (schema_result S table_room).answer

  -- a program stops after a refused schema, and answers messages by the rows counted of an accepted one
  abbrev pub message_lines : List ℕ → List ℕ → SchemaAnswer → List ℕ → List ℕ
  message_lines S words (Accepted n) input = answers_to s S (take (row_words * n) words) record_room [] input
  message_lines S words (Refused x p) input = []

  abbrev pub later_lines : Option (List ℕ) → List ℕ → List ℕ
  later_lines None input = []
  later_lines (Some S) input = let o = schema_result S table_room in message_lines S o.words o.answer input

  -- all that a program writes, given the bytes of its schema file, if there is one, and of its input
  unfoldable pub program_text : Option (List ℕ) → List ℕ → List ℕ
  program_text file input = first_line file ++ later_lines file input
