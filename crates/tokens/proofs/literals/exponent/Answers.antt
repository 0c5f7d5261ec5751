-- `literals::exponent` meets its contract: an exponent, or the end of the number.
-- By the first byte.
use native.Mathlib.Omega.{arith}
use mathlib.Core.Path.{sym, ◌∙◌}
use Rattle.strings.proofs.CharRuns.{handed_on}
use Rattle.tokens.proofs.NumberRuns.{exponent-past, exponent-fault, number-ends}
use Rattle.tokens.proofs.literals.exponent.Goals as goal
use Rattle.tokens.proofs.literals.exponent.Goals.{else-from-s-via-then-from-s+else-opens_exponent, else-from-s-via-else-from-s}

pub returns-in_err-end : goal.returns-in_err-end
returns-in_err-end c =
    rw (handed_on c.from_residual.result c.from_residual.ensures.1)
    (exponent-fault c.if-from-s.true (sym c.opens_exponent.ensures ∙ c.if-opens_exponent.true) c.in_err-end.ensures)

pub returns-then-opens_exponent : goal.returns-then-opens_exponent
returns-then-opens_exponent c = exponent-past c.if-from-s.true (sym c.opens_exponent.ensures ∙ c.if-opens_exponent.true) c.in_ok-end.ensures

pub returns : goal.returns
returns c =
    number-ends (elim c.else-from-s.branch [ else-from-s-via-then-from-s+else-opens_exponent w ↦ λ _. sym w.opens_exponent.ensures ∙ w.if-opens_exponent.false | else-from-s-via-else-from-s w ↦ λ h. absurd (omega (arith, w.if-from-s.false)) ])
