-- `chars::two_digits` reads two hexadecimal digits.
-- Each way out is a constructor of the contract.
use native.Mathlib.Omega.{arith}
use Rattle.strings.proofs.CharRuns.{handed_on}
use Rattle.strings.proofs.MessageChars.{digit-told, first-missing, second-missing, both-digits}
use Rattle.strings.proofs.chars.two_digits.Goals as goal

pub returns-in_err-a : goal.returns-in_err-a
returns-in_err-a c = rw (handed_on c.from_residual.result c.from_residual.ensures.1) (first-missing c.in_err-a.ensures)

pub overflow_add-i : goal.overflow_add-i
overflow_add-i c = omega (arith, digit-told c.in_ok-a.ensures)

pub returns-in_err-b : goal.returns-in_err-b
returns-in_err-b c =
    rw (handed_on c.from_residual-in_err-b.result c.from_residual-in_err-b.ensures.1) (second-missing c.in_ok-a.ensures c.in_err-b.ensures)

pub overflow_add-result-3 : goal.overflow_add-result-3
overflow_add-result-3 c = omega (arith, digit-told c.in_ok-b.ensures)

pub returns : goal.returns
returns c = both-digits c.in_ok-a.ensures c.in_ok-b.ensures
