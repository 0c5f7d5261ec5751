-- An outcome by its parts: the numbers of the answer, and the words.
use Prim.Native.Nat.{ℕ}
use mathlib.Core.Path.{◌≡◌, sym, ap, ◌∙◌}
use mathlib.Core.List.{List}
use Rattle.rules.specs.declared.SchemaAnswer.{SchemaAnswer}
use Rattle.rules.specs.declared.MessageAnswer.{MessageAnswer}
use Rattle.rules.specs.SchemaAnswers as Schemas
use Rattle.rules.specs.MessageAnswers as Messages
use Rattle.rules.specs.Serving.Answers.{SchemaResult, MessageResult}
use Rattle.schema.specs.Stages.{Compiles}
use Rattle.message.specs.Stages.{Answered}
use Rattle.gateway.specs.Serving.Outcomes.{Compiled, Checked}

abbrev schema_answer : SchemaResult → SchemaAnswer
schema_answer x = x.answer

abbrev message_answer : MessageResult → MessageAnswer
message_answer x = x.answer

pub compiled : {S old new : List ℕ} {a : SchemaAnswer} {n k i : ℕ} → Compiles S old new a → n ≡ Schemas.answer_number a → k ≡ Schemas.answer_rows a → i ≡ Schemas.answer_place a
    → Compiled S old new n k i
compiled h p q o =
    let e = sym (ap schema_answer h.told) in
    record {
      number_is = p ∙ ap Schemas.answer_number e;
      rows_are = q ∙ ap Schemas.answer_rows e;
      place_is = o ∙ ap Schemas.answer_place e;
      words_are = sym (ap (λ (x : SchemaResult). x.words) h.told);
    }

pub checked : {S T m old new : List ℕ} {a : MessageAnswer} {n r k i : ℕ} → Answered S T m old new a → n ≡ Messages.answer_number a → r ≡ Messages.answer_row a
    → k ≡ Messages.answer_records a → i ≡ Messages.answer_place a → Checked S T m old new n r k i
checked h p q o g =
    let e = sym (ap message_answer h.told) in
    record {
      number_is = p ∙ ap Messages.answer_number e;
      row_is = q ∙ ap Messages.answer_row e;
      records_are = o ∙ ap Messages.answer_records e;
      place_is = g ∙ ap Messages.answer_place e;
      words_are = sym (ap (λ (x : MessageResult). x.words) h.told);
    }
