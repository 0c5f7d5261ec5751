-- Serves contracts: the complete outcomes of the calls, in numbers: each is an equation with the answer that `rules` computes, or with a call of a stream's reader.
use Rattle.std.specs.Prelude.{ℕ, ◌≡◌, List, length, get_or}
use Rattle.rules.specs.SchemaAnswers as Schemas
use Rattle.rules.specs.MessageAnswers as Messages
use Rattle.rules.specs.Serving.Answers.{schema_result, message_result}
use Rattle.stream.specs.Stream.{Said, limit_of}
use Rattle.stream.specs.Serving.Feeding.{Standing, call}
use Rattle.stream.specs.Serving.States.{stands_for, Normal}
use Rattle.gateway.specs.Calls.{fresh, said_number, said_bytes}

-- a schema, the lent words before and after, the number, the count of rows and the place
pub record Compiled (S old new : List ℕ) (number rows place : ℕ) : Type 0 where
  pub number_is : number ≡ Schemas.answer_number (schema_result S (length old)).answer
  pub rows_are : rows ≡ Schemas.answer_rows (schema_result S (length old)).answer
  pub place_is : place ≡ Schemas.answer_place (schema_result S (length old)).answer
  pub words_are : new ≡ (schema_result S (length old)).words

-- a schema, a table, a message, the lent words before and after, the number, the command's row, the count of records and the place
pub record Checked (S T m old new : List ℕ) (number row records place : ℕ) : Type 0 where
  pub number_is : number ≡ Messages.answer_number (message_result S T m (length old)).answer
  pub row_is : row ≡ Messages.answer_row (message_result S T m (length old)).answer
  pub records_are : records ≡ Messages.answer_records (message_result S T m (length old)).answer
  pub place_is : place ≡ Messages.answer_place (message_result S T m (length old)).answer
  pub words_are : new ≡ (message_result S T m (length old)).words

-- what the words of a state stand for
abbrev pub standing : List ℕ → Standing
standing state = stands_for (get_or state 0 0) (get_or state 1 0) (get_or state 2 0)

-- a state, the lent buffer and a piece; the state and the buffer after; the number, the bytes taken, those of the message, the place
pub record Streamed (state old piece new_state new : List ℕ) (number taken bytes place : ℕ) : Type 0 where
  pub said : Said
  pub told : call (limit_of (length old)) (standing state) old piece ≡ record { said = said; taken = taken; standing = standing new_state; buffer = new }
  pub number_is : number ≡ said_number said
  pub bytes_are : bytes ≡ said_bytes said
  pub place_is : place ≡ 0
  pub words : length new_state ≡ length fresh
  pub normal : Normal (get_or new_state 0 0) (get_or new_state 1 0) (get_or new_state 2 0)
