-- Demand 3 (`rules` Demands) of the running call: of the answer r and the words `new` that `check_message` gives, whatever comes.
-- The contract of the call is the answer's definition; of that the rules crate has proved each part.
use Prim.Native.Nat.{ℕ}
use mathlib.Core.Path.{◌≡◌, sym, ap, ◌∙◌, subst, subst₂}
use mathlib.Core.List.{List}
use lib.ListN.{length}
use Rattle.rules.specs.declared.MessageAnswer.{MessageAnswer}
use Rattle.rules.specs.declared.MessageAnswer.TheVariants.{Accepted}
use Rattle.rules.specs.MessageAnswers.{MessageOutcome}
use Rattle.rules.specs.Serving.Answers.{MessageResult, message_result}
use Rattle.rules.specs.Demands.{Gives, Demand3}
use Rattle.rules.proofs.MessageOutcome.{message-outcome}
use Rattle.rules.proofs.Acceptance.{accepted-gives, gives-accepted, one-reading, refused-zero}
use Rattle.rules.proofs.NoQuotedDigits.{digits_apart}
use Rattle.message.specs.Stages.{Answered}

module _ {S T m old new : List ℕ} {r : MessageAnswer} (a : Answered S T m old new r) where
  answer-is : (message_result S T m (length old)).answer ≡ r
  answer-is = ap (λ (x : MessageResult). x.answer) a.told

  words_are : (message_result S T m (length old)).words ≡ new
  words_are = ap (λ (x : MessageResult). x.words) a.told

  given : (c n : ℕ) → r ≡ Accepted c n → Gives S T m (length old) c n new
  given c n e = subst (λ (w : List ℕ). Gives S T m (length old) c n w) words_are (accepted-gives S T m (length old) c n (answer-is ∙ e))

  pub demand_3 : Demand3 S T m (length old) r new
  demand_3 =
      record {
        outcome = subst₂ (λ (y : MessageAnswer) (w : List ℕ). MessageOutcome S T m (length old) y w) answer-is words_are (message-outcome S T m (length old));
        accepts = λ a ts h k. sym answer-is ∙ gives-accepted S T m (length old) h k;
        gives = given;
        only_one = λ a b ts us h k. one-reading S T m h k;
        digits_apart = λ c n e x i. digits_apart S T (given c n e).readable_so.reads x i;
        zero = λ x p e. sym words_are ∙ refused-zero S T m (length old) x p (answer-is ∙ e);
      }
