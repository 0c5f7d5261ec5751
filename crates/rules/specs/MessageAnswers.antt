-- Reference, Message answers and Places: when each refusal applies, in which order they are judged, its place, and the whole outcome: the first that applies, the command's row, the count, and every lent word.
use Rattle.std.specs.Prelude.{ℕ, ◌-◌, ◌/◌, ◌≤◌, ◌<◌, ◌≡◌, true, false, List, [], ◌∷◌, ◌++◌, length, replicate}
use Rattle.std.proofs.Math.Option.{none, some}
use Rattle.grammar.specs.Limits.{message_bytes, message_levels, record_words}
use Rattle.grammar.specs.Tree.{Json, start_of}
use Rattle.grammar.specs.MessageText.{MessageText, message_lexis}
use Rattle.grammar.specs.Starts.{Longest, TooDeep}
use Rattle.grammar.specs.Keys.{keys_once, Repeats, Earliest}
use Rattle.rules.specs.declared.MessageRefusal.{MessageRefusal}
use Rattle.rules.specs.declared.MessageRefusal.TheVariants as M
use Rattle.rules.specs.declared.MessageAnswer.{MessageAnswer}
use Rattle.rules.specs.declared.MessageAnswer.TheVariants.{Accepted, Refused}
use Rattle.rules.specs.Sound.{sound}
use Rattle.rules.specs.Envelope.{Envelope, envelope, Names, may_use, Asked, Asks}
use Rattle.rules.specs.Readings.{Typed, strict, Reads, records_of}
use Rattle.rules.specs.Refusals.{FirstOf}

-- the numbers, as they are shown
abbrev pub refusal_number : MessageRefusal → ℕ
refusal_number M.UnsoundTable = 21
refusal_number M.TooLong = 22
refusal_number M.NotText = 23
refusal_number M.TooDeep = 24
refusal_number M.RepeatedKey = 25
refusal_number M.NotEnvelope = 26
refusal_number M.UnknownCommand = 27
refusal_number M.NotOutOfBand = 28
refusal_number M.NoReading = 29
refusal_number M.NoRoom = 30

-- the order in which a message is judged
abbrev pub message_order : List MessageRefusal
message_order =
    M.UnsoundTable ∷ M.TooLong ∷ M.NotText ∷ M.TooDeep ∷ M.RepeatedKey ∷ M.NotEnvelope ∷ M.UnknownCommand ∷ M.NotOutOfBand ∷ M.NoReading
    ∷ M.NoRoom ∷ []

-- the four numbers of an answer: accepted 0, the command's row, the count of records and 0; refused the number, 0, 0 and the place
abbrev pub answer_number : MessageAnswer → ℕ
answer_number (Accepted c n) = 0
answer_number (Refused x p) = refusal_number x

abbrev pub answer_row : MessageAnswer → ℕ
answer_row (Accepted c n) = c
answer_row (Refused x p) = 0

abbrev pub answer_records : MessageAnswer → ℕ
answer_records (Accepted c n) = n
answer_records (Refused x p) = 0

abbrev pub answer_place : MessageAnswer → ℕ
answer_place (Accepted c n) = 0
answer_place (Refused x p) = p

-- the bytes are message text with a proper envelope
pub record Encloses (m : List ℕ) (v : Envelope) : Type 0 where
  pub value : Json
  pub is_text : MessageText m value
  pub proper : envelope value ≡ some v

-- the bytes are message text that asks for a
pub record AsksIn (S T m : List ℕ) (a : Asked) : Type 0 where
  pub value : Json
  pub is_text : MessageText m value
  pub asks : Asks S T value a

-- ts is a reading of what is asked
abbrev pub ReadsAsked : List ℕ → List ℕ → Asked → List Typed → Type 0
ReadsAsked S T a ts = Reads strict S T a.value a.ref a.array ts

-- after the longest start of a valid text stands a byte that opens a level too many
abbrev pub OneTooMany : List ℕ → Type 0
OneTooMany m = (e : ℕ) × TooDeep message_lexis message_levels m e

-- When each number applies to the table T over the schema S, the message m and a room of so many words: the reference's table, row by row.
abbrev pub MessageApplies : MessageRefusal → List ℕ → List ℕ → List ℕ → ℕ → Type 0
MessageApplies M.UnsoundTable S T m room = sound S T ≡ false
MessageApplies M.TooLong S T m room = message_bytes < length m
MessageApplies M.NotText S T m room = ((j : Json) → MessageText m j → ⊥) × (OneTooMany m → ⊥)
MessageApplies M.TooDeep S T m room = OneTooMany m
MessageApplies M.RepeatedKey S T m room = (j : Json) × MessageText m j × (keys_once j ≡ false)
MessageApplies M.NotEnvelope S T m room = (j : Json) × MessageText m j × (envelope j ≡ none)
MessageApplies M.UnknownCommand S T m room = (v : Envelope) × Encloses m v × ((c : ℕ) → Names S T v.name c → ⊥)
MessageApplies M.NotOutOfBand S T m room = (v : Envelope) × Encloses m v × (c : ℕ) × Names S T v.name c × (may_use T c v.out_of_band ≡ false)
MessageApplies M.NoReading S T m room = (a : Asked) × AsksIn S T m a × ((ts : List Typed) → ReadsAsked S T a ts → ⊥)
MessageApplies M.NoRoom S T m room = (a : Asked) × AsksIn S T m a × (ts : List Typed) × ReadsAsked S T a ts × (room / record_words < length ts)

-- Reference, Places: the length of the longest start that some message text within the levels has; the opening quote of the earliest key that repeats one before it in its object; the
-- start of the value that is asked for, 0 where it is absent; any other refusal points nowhere.
abbrev pub MessagePlace : MessageRefusal → List ℕ → List ℕ → List ℕ → ℕ → Type 0
MessagePlace M.UnsoundTable S T m p = p ≡ 0
MessagePlace M.TooLong S T m p = p ≡ 0
MessagePlace M.NotText S T m p = Longest message_lexis message_levels m p
MessagePlace M.TooDeep S T m p = Longest message_lexis message_levels m p
MessagePlace M.RepeatedKey S T m p = (j : Json) × MessageText m j × Earliest (Repeats j) p
MessagePlace M.NotEnvelope S T m p = p ≡ 0
MessagePlace M.UnknownCommand S T m p = p ≡ 0
MessagePlace M.NotOutOfBand S T m p = p ≡ 0
MessagePlace M.NoReading S T m p = (a : Asked) × AsksIn S T m a × (p ≡ start_of a.value)
MessagePlace M.NoRoom S T m p = (a : Asked) × AsksIn S T m a × (p ≡ start_of a.value)

-- The outcome: the answer, and the lent words after the call. The first refusal that applies, with its place, and all words 0; or none, the reading's records, and 0 after them.
pub data MessageOutcome (S T m : List ℕ) (room : ℕ) (answer : MessageAnswer) (words : List ℕ) : Type 0 where
  accepted : {a : Asked} {ts : List Typed} → AsksIn S T m a → ReadsAsked S T a ts
      → ((x : MessageRefusal) → MessageApplies x S T m room → ⊥) → answer ≡ Accepted a.second (length ts)
      → words ≡ records_of ts ++ replicate (room - length (records_of ts)) 0 → MessageOutcome S T m room answer words
  refused : {x : MessageRefusal} {p : ℕ} → FirstOf (λ y. MessageApplies y S T m room) message_order x → MessagePlace x S T m p → answer ≡ Refused x p
      → words ≡ replicate room 0 → MessageOutcome S T m room answer words

-- Demand 3, all but the room: the table is sound, the message within the limits and proper text with no key repeated, its envelope is proper, it names a
-- command that it may use and so asks for a, and ts is a reading of that.
pub record Readable (S T m : List ℕ) (a : Asked) (ts : List Typed) : Type 0 where
  pub sound_table : sound S T ≡ true
  pub short : length m ≤ message_bytes
  pub value : Json
  pub is_text : MessageText m value
  pub each_key_once : keys_once value ≡ true
  pub asks : Asks S T value a
  pub reads : ReadsAsked S T a ts

-- the room can hold it
abbrev pub Held : ℕ → List Typed → Type 0
Held room ts = length ts ≤ room / record_words
