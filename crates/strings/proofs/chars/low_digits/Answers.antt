-- `chars::low_digits` goes through the digits of a low surrogate as the machine does.
-- The first two digits are tested one by one; the last two lead to the code point of the pair.
use native.Mathlib.Omega.{arith}
use mathlib.Core.Path.{◌∙◌}
use Rattle.strings.proofs.CharRuns.{handed_on}
use Rattle.strings.proofs.MessageChars.{digit-told, digits-fault, digits-told, leads-low, paired, low-missing, low-other, low_D_missing, low_D_below, low-two}
use Rattle.strings.proofs.chars.low_digits.Goals as goal

pub returns-in_err-a : goal.returns-in_err-a
returns-in_err-a c = handed_on c.from_residual.result c.from_residual.ensures.1 ∙ low-missing _ c.in_err-a.ensures

pub returns-then-a-ne13 : goal.returns-then-a-ne13
returns-then-a-ne13 c = low-other _ c.in_ok-a.ensures c.if-a-ne13.true

pub overflow_add-i : goal.overflow_add-i
overflow_add-i c = omega (arith, digit-told c.in_ok-a.ensures)

pub returns-in_err-b : goal.returns-in_err-b
returns-in_err-b c =
    handed_on c.from_residual-in_err-b.result c.from_residual-in_err-b.ensures.1
    ∙ low_D_missing _ c.in_ok-a.ensures c.if-a-ne13.false c.in_err-b.ensures

pub overflow_add-result : goal.overflow_add-result
overflow_add-result c = omega (arith, digit-told c.in_ok-a.ensures)

pub returns-then-b-lt12 : goal.returns-then-b-lt12
returns-then-b-lt12 c = low_D_below _ c.in_ok-a.ensures c.if-a-ne13.false c.in_ok-b.ensures c.if-b-lt12.true

pub overflow_add-i-2 : goal.overflow_add-i-2
overflow_add-i-2 c = omega (arith, digit-told c.in_ok-b.ensures)

pub returns-in_err-low : goal.returns-in_err-low
returns-in_err-low c =
    handed_on c.from_residual-in_err-low.result c.from_residual-in_err-low.ensures.1
    ∙ digits-fault (leads-low _ _) c.in_err-low.ensures
    ∙ low-two _ c.in_ok-a.ensures c.if-a-ne13.false c.in_ok-b.ensures c.if-b-lt12.false

pub overflow_add-result-3 : goal.overflow_add-result-3
overflow_add-result-3 c = omega (arith, digits-told c.in_ok-low.ensures, digit-told c.in_ok-b.ensures)

pub returns : goal.returns
returns c =
    paired c.in_ok-low.ensures _ ∙ low-two _ c.in_ok-a.ensures c.if-a-ne13.false c.in_ok-b.ensures c.if-b-lt12.false
