-- The P table holds: every case of it is answered as it says, by the one theorem below.
-- The answers are computed; by SchemaOutcome and MessageOutcome they are the only ones that the reference's tables allow.
use Prim.Native.Nat.{ℕ, ◌*◌}
use mathlib.Core.Path.{◌≡◌, refl}
use mathlib.Core.List.{List, ◌∷◌, ◌++◌, map}
use lib.ListN.{take, replicate}
use Rattle.grammar.specs.Limits.{row_words}
use Rattle.grammar.specs.Notation.{text}
use Rattle.rules.specs.SchemaTable.{concat}
use Rattle.rules.specs.SchemaAnswers as Schema
use Rattle.rules.specs.MessageAnswers as Message
use Rattle.rules.specs.Serving.Answers.{SchemaResult, MessageResult, schema_result, message_result}
use Rattle.rules.specs.Cases.{Answer, Call, Case, cases}

-- the numbers of an answer and then every lent word
abbrev of_schema : SchemaResult → List ℕ
of_schema o = Schema.answer_number o.answer ∷ Schema.answer_rows o.answer ∷ Schema.answer_place o.answer ∷ o.words

abbrev of_message : MessageResult → List ℕ
of_message o = Message.answer_number o.answer ∷ Message.answer_row o.answer ∷ Message.answer_records o.answer ∷ Message.answer_place o.answer ∷ o.words

abbrev written : Answer → List ℕ
written a = a.numbers ++ concat a.words ++ replicate a.zeros 0

-- the rows counted, without the words after them
abbrev table_in : SchemaResult → List ℕ
table_in o = take (row_words * Schema.answer_rows o.answer) o.words

abbrev computed : Case → List (List ℕ)
computed c =
    let o = schema_result (text c.schema) c.lent in
    of_schema o ∷ map (λ (m : Call). of_message (message_result (text c.schema) (table_in o) (text m.message) m.lent)) c.calls

abbrev expected : Case → List (List ℕ)
expected c = written c.answer ∷ map (λ (m : Call). written m.answer) c.calls

pub every_case : map computed cases ≡ map expected cases
unfolding schema_result message_result
every_case = refl
