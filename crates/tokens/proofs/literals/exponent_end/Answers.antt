-- `literals::exponent_end` meets its contract: digits, or a sign and digits, and then the number ends.
-- By the first byte.
use native.Mathlib.Omega.{arith}
use mathlib.Core.Path.{sym, ◌∙◌}
use Rattle.tokens.proofs.NumberRuns.{power-plain, power-signed}
use Rattle.tokens.proofs.literals.exponent_end.Goals as goal
use Rattle.tokens.proofs.literals.exponent_end.Goals.{else-from-s-via-then-from-s+else-is_sign, else-from-s-via-else-from-s}

pub returns-then-is_sign : goal.returns-then-is_sign
returns-then-is_sign c = power-signed c.if-from-s.true (sym c.is_sign.ensures ∙ c.if-is_sign.true) c.some_digits.ensures

pub returns : goal.returns
returns c =
    power-plain (elim c.else-from-s.branch [ else-from-s-via-then-from-s+else-is_sign w ↦ λ _. sym w.is_sign.ensures ∙ w.if-is_sign.false | else-from-s-via-else-from-s w ↦ λ h. absurd (omega (arith, w.if-from-s.false)) ]) c.some_digits-2.ensures
