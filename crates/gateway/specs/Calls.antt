-- Reference, Calls: what each exported call owes its caller, whatever bytes and words come. One record a call of the header; proofs/Promises has each, from the call's contract.
-- `old` are the lent words before the call, `new` those after it. What calls of a stream one after the other owe is in StreamRuns.
use Rattle.std.specs.Prelude.{ℕ, ◌*◌, ◌≤◌, ◌<◌, ◌≢◌, ◌≡◌, Bool, true, false, Some, None, Ok, Err, length, take, drop, replicate}
use mathlib.Core.List.{List, [], ◌∷◌, Memᴰ}
use Rattle.grammar.specs.Limits.{table_rows, row_words, record_words}
use Rattle.rules.specs.declared.SchemaRefusal.{SchemaRefusal}
use Rattle.rules.specs.declared.SchemaRefusal.TheVariants as SR
use Rattle.rules.specs.declared.SchemaAnswer.{SchemaAnswer}
use Rattle.rules.specs.declared.MessageRefusal.{MessageRefusal}
use Rattle.rules.specs.declared.MessageRefusal.TheVariants as MR
use Rattle.rules.specs.declared.MessageAnswer.{MessageAnswer}
use Rattle.rules.specs.Sound.{sound}
use Rattle.rules.specs.Envelope.{Asked}
use Rattle.rules.specs.Readings.{Typed}
use Rattle.rules.specs.SchemaAnswers as Schemas
use Rattle.rules.specs.SchemaAnswers.{SchemaPlace, SchemaOutcome}
use Rattle.rules.specs.MessageAnswers as Messages
use Rattle.rules.specs.MessageAnswers.{MessagePlace, MessageOutcome, Readable, Held}
use Rattle.rules.specs.Demands.{DigitsApart, Gives}
use Rattle.stream.specs.Stream.{OfText, Said, limit_of}

-- windosprio_compile_schema(schema S, rows, count, place): the number, the count of rows, the place
pub record CompileCall (S old new : List ℕ) (number rows place : ℕ) : Type 0 where
  -- the outcome by the table of schema answers, in its numbers
  pub answer : SchemaAnswer
  pub outcome : SchemaOutcome S (length old) answer new
  pub number_is : number ≡ Schemas.answer_number answer
  pub rows_are : rows ≡ Schemas.answer_rows answer
  pub place_is : place ≡ Schemas.answer_place answer
  -- accepted rows are a sound table
  pub sound_rows : number ≡ 0 → sound S (take (row_words * rows) new) ≡ true
  -- a refusal leaves the count and every lent word zero, an acceptance the place
  pub zero : (number ≡ 0 → ⊥) → (rows ≡ 0) × (new ≡ replicate (length old) 0)
  pub no_place : number ≡ 0 → place ≡ 0
  -- the place of a refusal is the one that the reference gives it
  pub placed : (x : SchemaRefusal) → number ≡ Schemas.refusal_number x → SchemaPlace x S place
  -- as many rows as a table may have are never too few
  pub enough : row_words * table_rows ≤ length old → number ≢ Schemas.refusal_number SR.NoRoom

-- windosprio_check_message(table T, schema S, message m, records, row, count, place): the number, the command's row, the count of records, the place
pub record CheckCall (S T m old new : List ℕ) (number row records place : ℕ) : Type 0 where
  -- the outcome by the table of message answers, in its numbers
  pub answer : MessageAnswer
  pub outcome : MessageOutcome S T m (length old) answer new
  pub number_is : number ≡ Messages.answer_number answer
  pub row_is : row ≡ Messages.answer_row answer
  pub records_are : records ≡ Messages.answer_records answer
  pub place_is : place ≡ Messages.answer_place answer
  -- 0 exactly when there is a reading that the room can hold; then its command's row, its length and its records, and zeros after them
  pub accepts : (a : Asked) (ts : List Typed) → Readable S T m a ts → Held (length old) ts → (number ≡ 0) × (row ≡ a.second) × (records ≡ length ts)
  pub gives : number ≡ 0 → Gives S T m (length old) row records new
  -- where all but the room is so, the message asks for one thing, and there is only one reading
  pub only_one : (a b : Asked) (ts us : List Typed) → Readable S T m a ts → Readable S T m b us → (a ≡ b) × (ts ≡ us)
  -- no quoted digits are taken for a number, nor a number for quoted digits
  pub digits_apart : (e : number ≡ 0) (x : Typed) → Memᴰ x (gives e).reading → DigitsApart T x
  -- a refusal leaves the row, the count and every lent word zero, an acceptance the place
  pub zero : (number ≡ 0 → ⊥) → (row ≡ 0) × (records ≡ 0) × (new ≡ replicate (length old) 0)
  pub no_place : number ≡ 0 → place ≡ 0
  -- the place of a refusal is the one that the reference gives it
  pub placed : (x : MessageRefusal) → number ≡ Messages.refusal_number x → MessagePlace x S T m place
  -- as many records as the message has bytes are never too few
  pub enough : record_words * length m ≤ length old → number ≢ Messages.refusal_number MR.NoRoom

-- windosprio_is_sound(schema S, table T)
pub record SoundCall (S T : List ℕ) (answer : Bool) : Type 0 where
  pub is : answer ≡ sound S T
  -- the check call answers 21 exactly where the table is not sound, whatever the message and the room
  pub unsound : {m old new : List ℕ} {number row records place : ℕ} → CheckCall S T m old new number row records place → answer ≡ false → number ≡ Messages.refusal_number MR.UnsoundTable
  pub only_unsound : {m old new : List ℕ} {number row records place : ℕ} → CheckCall S T m old new number row records place → number ≡ Messages.refusal_number MR.UnsoundTable → answer ≡ false

-- windosprio_stream_start(state): the words of a stream of which nothing is read
abbrev pub fresh : List ℕ
fresh = 0 ∷ 0 ∷ 0 ∷ []

-- what a call of a stream hands out, as its number and the bytes of a message: nothing, a message at the start of the buffer, or a refusal
abbrev pub said_number : Said → ℕ
said_number (Ok o) = 0
said_number (Err x) = Messages.refusal_number x

abbrev pub said_bytes : Said → ℕ
said_bytes (Ok None) = 0
said_bytes (Ok (Some n)) = n
said_bytes (Err x) = 0

-- windosprio_stream_feed(state, buffer, piece, taken, message bytes, place): the number; `old` is the buffer before the call, `new` the one after it
pub record FeedCall (old piece new : List ℕ) (number taken bytes place : ℕ) : Type 0 where
  pub said : Said
  pub number_is : number ≡ said_number said
  pub bytes_are : bytes ≡ said_bytes said
  -- a message has a byte at least, so that it is told from nothing, and no more than the limit; a refusal is 22, 23 or 24, at place 0
  pub short : {n : ℕ} → said ≡ Ok (Some n) → (0 < n) × (n ≤ limit_of (length old))
  pub of_text : {x : MessageRefusal} → said ≡ Err x → OfText x
  pub place_is : place ≡ 0
  -- where nothing is handed out the whole piece is taken, else a byte of it at least
  pub all_taken : said ≡ Ok None → taken ≡ length piece
  pub some_taken : (said ≡ Ok None → ⊥) → 0 < taken
  pub within : taken ≤ length piece
  -- bytes of the buffer past the limit stay as they are
  pub same_length : length new ≡ length old
  pub rest_kept : drop (limit_of (length old)) new ≡ drop (limit_of (length old)) old
