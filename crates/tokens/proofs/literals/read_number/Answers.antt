-- `literals::read_number` meets its contract: what `unsigned` reads, after a minus or from the start.
-- By the first byte.
use Rattle.tokens.proofs.NumberRuns.{minus_number, plain-number}
use Rattle.tokens.proofs.literals.read_number.Goals as goal

pub returns-then-source-from-eq45 : goal.returns-then-source-from-eq45
returns-then-source-from-eq45 c = minus_number c.requires c.if-source-from-eq45.true c.unsigned.ensures

pub returns : goal.returns
returns c = plain-number c.if-source-from-eq45.false c.unsigned-2.ensures
