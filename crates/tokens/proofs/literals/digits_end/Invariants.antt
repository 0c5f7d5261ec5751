-- `literals::digits_end` meets its contract: the machine stays in any state out of which digits do not lead.
-- The invariant says so up to `i`.
use Rattle.tokens.proofs.NumberRuns.{DigitsPassed}
use Rattle.tokens.proofs.literals.digits_end.Given as goal

abbrev pub invariant-loop-i : goal.invariant-loop-i
invariant-loop-i l = DigitsPassed l.source.bytes.now l.from l.i
