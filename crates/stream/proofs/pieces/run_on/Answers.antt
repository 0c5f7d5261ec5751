use mathlib.Core.Bool.{true, false}
use mathlib.Core.Logic.{inl, inr}
use Rattle.stream.proofs.pieces.run_on.Goals as goal

pub returns-in-InString : goal.returns-in-InString
returns-in-InString c = elim c.in-InString.is [ inl e ↦ rw e (c.copy_plain.ensures.runs false) | inr e ↦ rw e (c.copy_plain.ensures.runs true) ]
