-- `literals::digits_end` meets its contract: the machine stays in any state out of which digits do not lead.
-- The invariant says so up to `i`.
use native.Mathlib.Omega.{arith}
use mathlib.Core.Path.{sym, ◌∙◌}
use Rattle.tokens.proofs.NumberRuns.{digits_more}
use Rattle.tokens.proofs.literals.digits_end.Goals as goal

pub loop-i-preserved : goal.loop-i-preserved
loop-i-preserved c = digits_more c.loop-i.invariant (omega arith) (sym c.is_digit.ensures ∙ c.if-not-is_digit.false)
