-- A message that a stream hands out is never answered 22, 23 or 24 by the message call, whatever the table, the schema and the room.
-- It is message text within the limit, so none of the three applies, and a refusal that is given applies.
use Prim.Native.Nat.{ℕ, ◌≤◌}
use native.Mathlib.Omega.{arith}
use mathlib.Core.Path.{◌≡◌, sym, ◌∙◌, subst}
use mathlib.Core.List.{List}
use Rattle.grammar.specs.Limits.{message_bytes}
use Rattle.grammar.proofs.Texts.{message_valid_or_deep}
use Rattle.rules.specs.declared.MessageRefusal.{MessageRefusal}
use Rattle.rules.specs.declared.MessageAnswer.{MessageAnswer}
use Rattle.rules.specs.declared.MessageAnswer.TheVariants.{Refused}
use Rattle.rules.specs.MessageAnswers.{message_order, MessageApplies, MessageOutcome, MessageOutcome.accepted, MessageOutcome.refused}
use Rattle.rules.proofs.Refusals.{first-has}
use Rattle.stream.specs.Stream.{OfText, OfText.too_long, OfText.not_text, OfText.too_deep}
use Rattle.stream.proofs.Messages.{message-value}
use Rattle.stream.proofs.Splits.{Handed}

module _ {limit : ℕ} {m : List ℕ} (h : Handed limit m) (g : limit ≤ message_bytes) (S T : List ℕ) (room : ℕ) where
  never_applies : {x : MessageRefusal} → OfText x → MessageApplies x S T m room → ⊥
  never_applies too_long a = omega (arith, h.short)
  never_applies not_text a = let z = message-value h.whole in a.0 z.0 z.1
  never_applies too_deep a = message_valid_or_deep (message-value h.whole).1 a.1

  pub never-refused : {x : MessageRefusal} {p : ℕ} {a : MessageAnswer} {w : List ℕ} → OfText x → MessageOutcome S T m room a w → a ≡ Refused x p → ⊥
  never-refused o (accepted p q r s t) k = let z : ◌≡◌ {A = ℕ} 0 1 = cc in omega arith
  never-refused o (refused f l s t) k = never_applies o (subst (λ (y : MessageRefusal). MessageApplies y S T m room) (same (sym s ∙ k)) (first-has (λ y. MessageApplies y S T m room) message_order f))
    where
      same : {x y : MessageRefusal} {p q : ℕ} → Refused x p ≡ Refused y q → x ≡ y
      same k = cc
