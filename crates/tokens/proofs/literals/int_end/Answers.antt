-- `literals::int_end` meets its contract: a zero alone, or the digits that `some_digits` reads.
-- By the first byte.
use native.Mathlib.Omega.{arith}
use Rattle.tokens.proofs.NumberRuns.{zero-int, digits-int}
use Rattle.tokens.proofs.literals.int_end.Goals as goal
use Rattle.tokens.proofs.literals.int_end.Goals.{else-from-s-via-then-from-s+else-s-from-eq48, else-from-s-via-else-from-s}

pub returns-then-s-from-eq48 : goal.returns-then-s-from-eq48
returns-then-s-from-eq48 c = zero-int c.if-from-s.true c.if-s-from-eq48.true

pub returns : goal.returns
returns c =
    digits-int (elim c.else-from-s.branch [ else-from-s-via-then-from-s+else-s-from-eq48 w ↦ λ _. w.if-s-from-eq48.false | else-from-s-via-else-from-s w ↦ λ h. absurd (omega (arith, w.if-from-s.false)) ]) c.some_digits.ensures
