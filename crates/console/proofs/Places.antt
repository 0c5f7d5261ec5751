-- What the program prints of a refusal: its number, zeros and its place, and this place is the one that the reference gives the refusal.
-- So what is said of the longest start, of the earliest repeat and of the arguments is said of what is printed.
use Prim.Native.Nat.{ℕ}
use mathlib.Core.Path.{◌≡◌, ap}
use mathlib.Core.List.{List, [], ◌∷◌}
use Rattle.std.specs.Prelude.{Some}
use Rattle.rules.specs.declared.SchemaRefusal.{SchemaRefusal}
use Rattle.rules.specs.declared.SchemaAnswer.TheVariants as SA
use Rattle.rules.specs.declared.MessageRefusal.{MessageRefusal}
use Rattle.rules.specs.declared.MessageAnswer.{MessageAnswer}
use Rattle.rules.specs.declared.MessageAnswer.TheVariants as MA
use Rattle.rules.specs.SchemaAnswers as Schemas
use Rattle.rules.specs.MessageAnswers as Messages
use Rattle.rules.specs.Serving.Answers.{schema_result, message_result}
use Rattle.rules.proofs.SchemaOutcome.{schema-refused_at}
use Rattle.rules.proofs.MessageOutcome.{message-refused_at}
use Rattle.lines.specs.Text.{line_text}
use Rattle.console.specs.declared.answers.Style.TheVariants.{Numbers}
use Rattle.console.specs.Program.{table_room, schema_line, result_line, answer_text, first_line}

pub schema-printed : (S : List ℕ) (x : SchemaRefusal) (p : ℕ) → (schema_result S table_room).answer ≡ SA.Refused x p
    → (first_line Numbers (Some S) ≡ line_text (Schemas.refusal_number x) (0 ∷ p ∷ [])) × Schemas.SchemaPlace x S p
unfolding schema_line
schema-printed S x p e = (ap schema_line e, schema-refused_at S table_room e)

pub message-printed : (S T m : List ℕ) (room : ℕ) (x : MessageRefusal) (p : ℕ) → (message_result S T m room).answer ≡ MA.Refused x p
    → (answer_text S T room Numbers m ≡ line_text (Messages.refusal_number x) (0 ∷ 0 ∷ p ∷ [])) × Messages.MessagePlace x S T m p
unfolding answer_text result_line
message-printed S T m room x p e = (
  ap (λ (a : MessageAnswer). result_line (record { answer = a; words = (message_result S T m room).words })) e,
  message-refused_at S T m room e,
)
