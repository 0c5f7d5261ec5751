-- `literals::fraction` meets its contract: a fraction and what `exponent` reads, or that alone.
-- By the first byte.
use Rattle.strings.proofs.CharRuns.{handed_on}
use Rattle.tokens.proofs.NumberRuns.{fraction-past, fraction-fault}
use Rattle.tokens.proofs.literals.fraction.Goals as goal

pub returns-in_err-end : goal.returns-in_err-end
returns-in_err-end c =
    rw (handed_on c.from_residual.result c.from_residual.ensures.1) (fraction-fault c.if-from-s.true c.if-s-from-eq46.true c.in_err-end.ensures)

pub returns-then-s-from-eq46 : goal.returns-then-s-from-eq46
returns-then-s-from-eq46 c = fraction-past c.if-from-s.true c.if-s-from-eq46.true c.in_ok-end.ensures c.exponent.ensures
