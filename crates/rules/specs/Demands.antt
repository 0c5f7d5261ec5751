-- Reference, Calls: what each call owes, of its answer and of the lent words after it, whatever comes as schema, table, message and room.
use Rattle.std.specs.Prelude.{ℕ, ◌+◌, ◌-◌, ◌*◌, ◌≤◌, ◌≡◌, Bool, true, length, take, replicate}
use mathlib.Core.List.{List, ◌++◌, Memᴰ}
use Rattle.grammar.specs.Limits.{row_words}
use Rattle.grammar.specs.Tree.Scalar.{num, str}
use Rattle.grammar.specs.Tree.Json.{leaf}
use Rattle.rules.specs.declared.SchemaAnswer.{SchemaAnswer}
use Rattle.rules.specs.declared.SchemaAnswer.TheVariants as SA
use Rattle.rules.specs.declared.MessageRefusal.{MessageRefusal}
use Rattle.rules.specs.declared.MessageAnswer.{MessageAnswer}
use Rattle.rules.specs.declared.MessageAnswer.TheVariants.{Accepted, Refused}
use Rattle.rules.specs.Kinds.{enum_kind}
use Rattle.rules.specs.Types.{first_row}
use Rattle.rules.specs.Rows.{kind}
use Rattle.rules.specs.Sound.{sound}
use Rattle.rules.specs.SchemaAnswers.{SchemaOutcome}
use Rattle.rules.specs.Envelope.{Asked}
use Rattle.rules.specs.Readings.{Typed, records_of}
use Rattle.rules.specs.MessageAnswers.{MessageOutcome, Readable, Held}

-- Demand 2, of a call that compiles a schema.
pub record Demand2 (S : List ℕ) (room : ℕ) (answer : SchemaAnswer) (words : List ℕ) : Type 0 where
  -- the table of schema answers: the first refusal that applies and all words 0; or none applies, and the words are the table, row for row, and 0 after it
  pub outcome : SchemaOutcome S room answer words
  -- the rows of an acceptance are a sound table
  pub sound_rows : (n : ℕ) → answer ≡ SA.Accepted n → sound S (take (row_words * n) words) ≡ true

-- A value and its type are not quoted digits at a number's type (2 to 12), nor a number at `str` (1) or at an enum.
pub record DigitsApart (T : List ℕ) (x : Typed) : Type 0 where
  pub string_not_number : (a e : ℕ) (cs : List ℕ) → x.value ≡ leaf a e (str cs) → 2 ≤ x.ref → x.ref ≤ 12 → ⊥
  pub number_not_string : (a e : ℕ) (i : Bool) (token : List ℕ) → x.value ≡ leaf a e (num i token) → x.ref ≡ 1 → ⊥
  pub number_not_enum : (a e : ℕ) (i : Bool) (token : List ℕ) (r : ℕ) → x.value ≡ leaf a e (num i token) → x.ref ≡ first_row + r → kind T r ≡ enum_kind → ⊥

-- An acceptance gives the command's row, the number of records in a reading that the room can hold, and that reading as the records, with zeros after it.
pub record Gives (S T m : List ℕ) (room c n : ℕ) (words : List ℕ) : Type 0 where
  pub asked : Asked
  pub reading : List Typed
  pub readable_so : Readable S T m asked reading
  pub held : Held room reading
  pub row : c ≡ asked.second
  pub count : n ≡ length reading
  pub records : words ≡ records_of reading ++ replicate (room - length (records_of reading)) 0

-- Demand 3, of a call that reads a message.
pub record Demand3 (S T m : List ℕ) (room : ℕ) (answer : MessageAnswer) (words : List ℕ) : Type 0 where
  -- the table of message answers
  pub outcome : MessageOutcome S T m room answer words
  -- accepted, if the table is sound, the message is within the limits and proper text with no key repeated, its envelope is proper, it names a command it may use,
  -- and there is a reading that the room can hold
  pub accepts : (a : Asked) (ts : List Typed) → Readable S T m a ts → Held room ts → answer ≡ Accepted a.second (length ts)
  -- and only then
  pub gives : (c n : ℕ) → answer ≡ Accepted c n → Gives S T m room c n words
  -- where all but the room is so, it asks for one thing, and there is only one reading
  pub only_one : (a b : Asked) (ts us : List Typed) → Readable S T m a ts → Readable S T m b us → (a ≡ b) × (ts ≡ us)
  -- no quoted digits are taken for a number, nor a number for quoted digits
  pub digits_apart : (c n : ℕ) (e : answer ≡ Accepted c n) (x : Typed) → Memᴰ x (gives c n e).reading → DigitsApart T x
  -- a refusal leaves every lent word zero
  pub zero : (x : MessageRefusal) (p : ℕ) → answer ≡ Refused x p → words ≡ replicate room 0
