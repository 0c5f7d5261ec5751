-- A reading has at most as many records as its message has bytes, so room for that many is never too little; nor is room for as many rows as a table may have.
-- The idea: a value has a record, and one more at an alternate, and its text a byte of its own and one after it (grammar proofs/Spans); the arguments stand inside the message's object.
use Prim.Native.Nat.{ℕ, ◌+◌, ◌*◌, ◌≤◌}
use native.Mathlib.Omega.{arith}
use mathlib.Core.Logic.{◌≢◌}
use mathlib.Core.Path.{◌≡◌, ap, subst}
use mathlib.Core.Bool.{Bool, true}
use mathlib.Core.List.{List}
use lib.ListN.{length, length-append}
use Rattle.grammar.specs.Limits.{table_rows, row_words, record_words}
use Rattle.grammar.specs.Tree.{Json}
use Rattle.grammar.proofs.Spans.{fewest_bytes, fewest_items, fewest_fields, some_byte, message_fewest}
use Rattle.rules.specs.declared.SchemaRefusal.{SchemaRefusal}
use Rattle.rules.specs.declared.SchemaRefusal.TheVariants as R
use Rattle.rules.specs.declared.SchemaAnswer.{SchemaAnswer}
use Rattle.rules.specs.declared.SchemaAnswer.TheVariants as SA
use Rattle.rules.specs.declared.MessageRefusal.{MessageRefusal}
use Rattle.rules.specs.declared.MessageRefusal.TheVariants as M
use Rattle.rules.specs.declared.MessageAnswer.{MessageAnswer}
use Rattle.rules.specs.declared.MessageAnswer.TheVariants as MA
use Rattle.rules.specs.Rows.{type_ref}
use Rattle.rules.specs.Sound.{sound}
use Rattle.rules.specs.Envelope.{Asked}
use Rattle.rules.specs.Readings.{Typed, Reads}
use Rattle.rules.specs.Readings.Reads.{built_in, enum, struct, no_type, union, alternate, array}
use Rattle.rules.specs.Readings.{ReadsItems.no_item, ReadsItems.one_item, ReadsFields.no_field, ReadsFields.one_field}
use Rattle.rules.specs.Refusals.{FirstOf}
use Rattle.rules.specs.SchemaAnswers.{schema_order, SchemaApplies, SchemaOutcome}
use Rattle.rules.specs.MessageAnswers.{message_order, AsksIn, MessageApplies, MessageOutcome}
use Rattle.rules.specs.MessageAnswers.MessageOutcome.{accepted, refused}
use Rattle.rules.specs.Room.{RowsSuffice, RecordsSuffice}
use Rattle.rules.specs.Serving.Answers.{schema_result, message_result}
use Rattle.rules.proofs.Refusals.{first-has}
use Rattle.rules.proofs.SoundFacts.{SoundFacts, sound-facts}
use Rattle.rules.proofs.ReadingParts.{extra_record, extra_few, extra_alternate, extra_of_kind}
use Rattle.rules.proofs.Arguments.{asked-arguments, arguments-bytes}
use Rattle.rules.proofs.SchemaOutcome.{schema-outcome}
use Rattle.rules.proofs.MessageOutcome.{true_of, message-outcome}
use Rattle.rules.proofs.Lowest.{schema-lowest, message-lowest}

-- a value has at most as many records as its text has bytes, and one more at an alternate
value-records : (S T : List ℕ) → SoundFacts S T → {passes : Bool} {j : Json} {t f : ℕ} {ts : List Typed} → Reads passes S T j t f ts → length ts ≤ fewest_bytes j + extra_record S T t
value-records S T F h =
    elim h as (λ j t f ts d. length ts ≤ fewest_bytes j + extra_record S T t) (λ js t ts d. length ts ≤ fewest_items js) (λ ms fs ts d. length ts ≤ fewest_fields fs) [
      | built_in {j} h ↦ omega (arith, some_byte j)
      | enum r z k v n ↦ omega arith
      | struct r z k g n (h → ih) ↦ omega arith
      | no_type (h → ih) ↦ omega arith
      | union r z k g b q n (h → ih) ↦ omega arith
      | alternate {j} {t} {c} r z k m (h → ih) ↦ let o = F.has_kind r c k m in omega (arith, extra_alternate S T t r z k, extra_of_kind S T o.0 (type_ref T c) o.1)
      | array (h → ih) ↦ omega arith
      | no_item ↦ omega arith
      | one_item {t} {ts = ts} {us} (h → ih) (g → ih') e ↦ omega (arith, extra_few S T t, ap length e, length-append ts us)
      | no_field ↦ omega arith
      | one_field {m = m} {ts = ts} {us} i o (h → ih) (g → ih') e ↦ omega (arith, extra_few S T (type_ref T m), ap length e, length-append ts us)
    ]

module _ (S T m : List ℕ) where
  few-records : {passes : Bool} {a : Asked} {ts : List Typed} → sound S T ≡ true → AsksIn S T m a → Reads passes S T a.value a.ref a.array ts → length ts ≤ length m
  few-records {a = a} s k h =
      omega (arith, value-records S T (sound-facts S T s) h, extra_few S T a.ref, arguments-bytes (asked-arguments k.asks), message_fewest k.is_text)

  enough-records : {room : ℕ} {answer : MessageAnswer} {words : List ℕ} → record_words * length m ≤ room → MessageOutcome S T m room answer words → (p : ℕ) → answer ≢ MA.Refused M.NoRoom p
  enough-records h (accepted k g n e f) p i = let z : ◌≡◌ {A = ℕ} 0 1 = cc in omega arith
  enough-records {room} h (refused {x} o l e f) p i =
      let applies : MessageRefusal → Type 0 = λ y. MessageApplies y S T m room in
      let z : x ≡ M.NoRoom = cc in
      let first = subst (FirstOf applies message_order) z o in
      let ok = true_of (sound S T) (λ n. omega (arith, message-lowest applies M.NoRoom M.UnsoundTable first n)) in
      let (a, k, ts, g, l) = first-has applies message_order first in
      omega (arith, few-records ok k g, l)

  pub records_suffice : RecordsSuffice S T m
  records_suffice = record { few = few-records; enough = enough-records }

module _ (S : List ℕ) where
  enough-rows : {room : ℕ} {answer : SchemaAnswer} {words : List ℕ} → row_words * table_rows ≤ room → SchemaOutcome S room answer words → (p : ℕ) → answer ≢ SA.Refused R.NoRoom p
  enough-rows h (SchemaOutcome.accepted s n e f) p i = let z : ◌≡◌ {A = ℕ} 0 1 = cc in omega arith
  enough-rows {room} h (SchemaOutcome.refused {x} o l e f) p i =
      let applies : SchemaRefusal → Type 0 = λ y. SchemaApplies y S room in
      let z : x ≡ R.NoRoom = cc in
      let first = subst (FirstOf applies schema_order) z o in
      let (ds, s, l) = first-has applies schema_order first in
      omega (arith, schema-lowest applies R.NoRoom R.TooManyRows first (ds, s, omega (arith, l)), l)

  pub rows_suffice : RowsSuffice S
  rows_suffice = record { enough = enough-rows }

-- of the answers as functions, which the calls' contracts cite
pub rows-never-refused : (S : List ℕ) (room : ℕ) → row_words * table_rows ≤ room → (p : ℕ) → (schema_result S room).answer ≢ SA.Refused R.NoRoom p
rows-never-refused S room h = (rows_suffice S).enough h (schema-outcome S room)

pub records-never-refused : (S T m : List ℕ) (room : ℕ) → record_words * length m ≤ room → (p : ℕ) → (message_result S T m room).answer ≢ MA.Refused M.NoRoom p
records-never-refused S T m room h = (records_suffice S T m).enough h (message-outcome S T m room)
