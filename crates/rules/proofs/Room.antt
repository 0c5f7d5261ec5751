-- More room never changes an acceptance: the same answer, and the same words with zeros after them.
-- The idea: of the numbers only `NoRoom` looks at the room, and it applies less where there is more; what is accepted is no longer than the room.
use Prim.Native.Nat.{ℕ, ◌+◌, ◌-◌, ◌*◌, ◌/◌, ◌%◌, ◌≤◌}
use native.Mathlib.Omega.{arith}
use mathlib.Core.Path.{◌≡◌, refl, sym, ap, ◌∙◌}
use mathlib.Core.List.{List, [], ◌∷◌, ◌++◌, append_assoc}
use lib.ListN.{length, replicate, replicate-append-replicate}
use Rattle.grammar.specs.Limits.{row_words, record_words}
use Rattle.rules.specs.declared.SchemaRefusal.{SchemaRefusal}
use Rattle.rules.specs.declared.SchemaRefusal.TheVariants as R
use Rattle.rules.specs.declared.SchemaAnswer.TheVariants as SA
use Rattle.rules.specs.declared.MessageAnswer.TheVariants as MA
use Rattle.rules.specs.Definitions.{Definition}
use Rattle.rules.specs.Rows.{row_count}
use Rattle.rules.specs.SchemaTable.{table}
use Rattle.rules.specs.SchemaAnswers.{Says, SchemaApplies, SchemaOutcome}
use Rattle.rules.specs.SchemaAnswers.SchemaOutcome.{accepted, refused}
use Rattle.rules.specs.Readings.{Typed, records_of}
use Rattle.rules.specs.Serving.Cells.{entries}
use Rattle.rules.specs.Serving.Answers.{schema_result, message_result}
use Rattle.rules.proofs.Lists.{not-less}
use Rattle.rules.proofs.Cells.{table-words, length-words}
use Rattle.rules.proofs.SchemaOutcome.{schema-outcome, schema-outcome-only}
use Rattle.rules.proofs.Acceptance.{one-reading, accepted-gives, more_room}

-- words that fit in the room, with zeros after them, and the same in more room
padded : (words : List ℕ) (room more : ℕ) → length words ≤ room → room ≤ more
    → words ++ replicate (more - length words) 0 ≡ (words ++ replicate (room - length words) 0) ++ replicate (more - room) 0
padded words room more h g =
    let e : more - length words ≡ room - length words + (more - room) = omega arith in
    rw (append_assoc, replicate-append-replicate) (rw e)

-- a table is whole rows
pub whole-rows : (S : List ℕ) (ds : List Definition) → length (table S ds) % row_words ≡ 0
unfolding table
whole-rows S ds =
    let e : length (table S ds) ≡ row_words * length (entries ds) = ap length (table-words _ _ _ 0 ds) ∙ length-words _ _ _ 0 (entries ds) in
    omega arith

-- What acceptance means: the definitions that the schema says, no number that applies, the table and zeros after it.
pub record TableOf (S : List ℕ) (room n : ℕ) (words : List ℕ) : Type 0 where
  pub definitions : List Definition
  pub said : Says S definitions
  pub unrefused : (x : SchemaRefusal) → SchemaApplies x S room → ⊥
  pub rows : n ≡ row_count (table S definitions)
  pub held : length (table S definitions) ≤ room
  pub written : words ≡ table S definitions ++ replicate (room - length (table S definitions)) 0

pub accepted-table : (S : List ℕ) (room n : ℕ) → (schema_result S room).answer ≡ SA.Accepted n → TableOf S room n (schema_result S room).words
accepted-table S room n e = go (schema-outcome S room)
  where
    fits : (ds : List Definition) → Says S ds → (SchemaApplies R.NoRoom S room → ⊥) → length (table S ds) ≤ room
    fits ds s f =
        let w = whole-rows S ds in
        let z : row_count (table S ds) ≤ room / row_words = not-less (λ y. f (ds, s, y)) in
        omega arith

    go : SchemaOutcome S room (schema_result S room).answer (schema_result S room).words → TableOf S room n (schema_result S room).words
    go (accepted {ds} s f p q) =
        let z : n ≡ row_count (table S ds) = cc in
        record { definitions = ds; said = s; unrefused = f; rows = z; held = fits ds s (f R.NoRoom); written = q }
    go (refused h l p q) = let z : ◌≡◌ {A = ℕ} 0 1 = cc in absurd (omega arith)

-- a number that applies to more room applies to less
less-room : (S : List ℕ) (room more : ℕ) → room ≤ more → (x : SchemaRefusal) → SchemaApplies x S more → SchemaApplies x S room
less-room S room more h R.TooLong a = a
less-room S room more h R.NotText a = a
less-room S room more h R.RepeatedKey a = a
less-room S room more h R.NotDefinitions a = a
less-room S room more h R.BadName a = a
less-room S room more h R.RepeatedName a = a
less-room S room more h R.UnknownName a = a
less-room S room more h R.BadChain a = a
less-room S room more h R.BadUnion a = a
less-room S room more h R.BadAlternate a = a
less-room S room more h R.BadReturn a = a
less-room S room more h R.TooManyRows a = a
less-room S room more h R.NoRoom (ds, s, l) = (ds, s, omega arith)

-- an accepted schema is accepted in more room, with the same count of rows and the same words, zeros after them
pub schema-more-room : (S : List ℕ) (room more n : ℕ) → room ≤ more → (schema_result S room).answer ≡ SA.Accepted n
    → ((schema_result S more).answer ≡ SA.Accepted n) × ((schema_result S more).words ≡ (schema_result S room).words ++ replicate (more - room) 0)
schema-more-room S room more n h e =
    let z = accepted-table S room n e in
    let T = table S z.definitions in
    let y = schema-outcome-only S more (SA.Accepted n) (T ++ replicate (more - length T) 0)
    (accepted z.said (λ x a. z.unrefused x (less-room S room more h x a)) (ap SA.Accepted z.rows) refl) in
    (sym y.0, sym y.1 ∙ padded T room more z.held h ∙ ap (λ (l : List ℕ). l ++ replicate (more - room) 0) (sym z.written))

-- the words of a reading's records
pub records-length : (ts : List Typed) → length (records_of ts) ≡ record_words * length ts
records-length [] = refl
records-length (t ∷ ts) = let z = records-length ts in omega arith

-- an accepted message is accepted in more room, with the same row, count and records, zeros after them
pub message-more-room : (S T m : List ℕ) (room more c n : ℕ) → room ≤ more → (message_result S T m room).answer ≡ MA.Accepted c n
    → ((message_result S T m more).answer ≡ MA.Accepted c n) × ((message_result S T m more).words ≡ (message_result S T m room).words ++ replicate (more - room) 0)
message-more-room S T m room more c n h e =
    let a = more_room S T m room more c n h e in
    let z = accepted-gives S T m room c n e in
    let y = accepted-gives S T m more c n a in
    let ts = z.reading in
    let same : y.reading ≡ ts = (one-reading S T m y.readable_so z.readable_so).1 in
    let k : length (records_of ts) ≤ room = omega (arith, z.held, records-length ts) in (
      a,
      y.records ∙ ap (λ (us : List Typed). records_of us ++ replicate (more - length (records_of us)) 0) same
          ∙ padded (records_of ts) room more k h ∙ ap (λ (l : List ℕ). l ++ replicate (more - room) 0) (sym z.records),
    )
