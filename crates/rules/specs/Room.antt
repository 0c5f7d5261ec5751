-- Reference, Schema answers and Message answers: what a caller may count on who lends room: how much is never too little, whatever comes.
use Rattle.std.specs.Prelude.{ℕ, ◌*◌, ◌≤◌, ◌≢◌, ◌≡◌, Bool, true, List, length}
use Rattle.grammar.specs.Limits.{table_rows, row_words, record_words}
use Rattle.rules.specs.declared.SchemaRefusal.TheVariants as R
use Rattle.rules.specs.declared.SchemaAnswer.{SchemaAnswer}
use Rattle.rules.specs.declared.SchemaAnswer.TheVariants as SA
use Rattle.rules.specs.declared.MessageRefusal.TheVariants as M
use Rattle.rules.specs.declared.MessageAnswer.{MessageAnswer}
use Rattle.rules.specs.declared.MessageAnswer.TheVariants as MA
use Rattle.rules.specs.Sound.{sound}
use Rattle.rules.specs.SchemaAnswers.{SchemaOutcome}
use Rattle.rules.specs.Envelope.{Asked}
use Rattle.rules.specs.Readings.{Typed, Reads}
use Rattle.rules.specs.MessageAnswers.{AsksIn, MessageOutcome}

-- As many rows as a table may have are never too few.
pub record RowsSuffice (S : List ℕ) : Type 0 where
  pub enough : {room : ℕ} {answer : SchemaAnswer} {words : List ℕ} → row_words * table_rows ≤ room → SchemaOutcome S room answer words → (p : ℕ) → answer ≢ SA.Refused R.NoRoom p

-- As many records as the message has bytes are never too few.
pub record RecordsSuffice (S T m : List ℕ) : Type 0 where
  -- in a sound table a reading of what the message asks for has at most as many, whether or not unknown keys are passed over
  pub few : {passes : Bool} {a : Asked} {ts : List Typed} → sound S T ≡ true → AsksIn S T m a → Reads passes S T a.value a.ref a.array ts → length ts ≤ length m
  -- so where they are lent, the outcome is never that there is too little room
  pub enough : {room : ℕ} {answer : MessageAnswer} {words : List ℕ} → record_words * length m ≤ room → MessageOutcome S T m room answer words → (p : ℕ) → answer ≢ MA.Refused M.NoRoom p
