-- `literals::some_digits` meets its contract: without a digit at its place the machine stops there, else it goes on over all of them.
-- The first digit is one step; the rest is what `digits_end` ensures.
use native.Mathlib.Omega.{arith}
use mathlib.Core.Path.{sym, ◌∙◌}
use Rattle.tokens.proofs.NumberRuns.{no_digits, some_digits}
use Rattle.tokens.proofs.literals.some_digits.Goals as goal
use Rattle.tokens.proofs.literals.some_digits.Goals.{then-s-from-via-then-s-from, then-s-from-via-else-s-from+then-not-is_digit}

pub returns-then-s-from : goal.returns-then-s-from
returns-then-s-from c =
    no_digits (elim c.then-s-from.branch [
      | then-s-from-via-then-s-from w ↦ λ h. absurd (omega (arith, w.if-s-from.true))
      | then-s-from-via-else-s-from+then-not-is_digit w ↦ λ _. sym w.is_digit.ensures ∙ w.if-not-is_digit.true
    ])

pub returns : goal.returns
returns c = some_digits c.if-s-from.false (sym c.is_digit.ensures ∙ c.if-not-is_digit.false) c.digits_end.ensures
