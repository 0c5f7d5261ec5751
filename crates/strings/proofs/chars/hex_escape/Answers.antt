-- `chars::hex_escape` goes through the digits of `\u` as the machine does.
-- Two digits that begin no low surrogate, two more, and after a high surrogate its low one.
use native.Mathlib.Omega.{arith}
use mathlib.Core.Path.{◌∙◌}
use Rattle.grammar.proofs.Booleans.Outside.{below, above}
use Rattle.strings.proofs.CharRuns.{handed_on}
use Rattle.strings.proofs.MessageChars.{digits-fault, leads-first, leads-last, low-start, half, high, alone}
use Rattle.strings.proofs.chars.hex_escape.Goals as goal
use Rattle.strings.proofs.chars.hex_escape.Goals.{else-first-ge220-via-then-first-ge220+else-first-le223, else-first-ge220-via-else-first-ge220, else-unit-ge55296-via-then-unit-ge55296+else-unit-le56319, else-unit-ge55296-via-else-unit-ge55296}

pub returns-in_err-first : goal.returns-in_err-first
returns-in_err-first c = handed_on c.from_residual.result c.from_residual.ensures.1 ∙ digits-fault leads-first c.in_err-first.ensures

pub returns-then-first-le223 : goal.returns-then-first-le223
returns-then-first-le223 c = low-start c.in_ok-first.ensures (omega arith) (omega arith)

pub returns-in_err-unit : goal.returns-in_err-unit
returns-in_err-unit c =
    handed_on c.from_residual-in_err-unit.result c.from_residual-in_err-unit.ensures.1
    ∙ digits-fault (leads-last _) c.in_err-unit.ensures
    ∙ half c.in_ok-first.ensures (elim c.else-first-ge220.branch [ else-first-ge220-via-then-first-ge220+else-first-le223 w ↦ above w.if-first-le223.false | else-first-ge220-via-else-first-ge220 w ↦ below w.if-first-ge220.false ])

pub returns-then-unit-le56319 : goal.returns-then-unit-le56319
returns-then-unit-le56319 c =
    c.low_surrogate.ensures
    ∙ high c.in_ok-unit.ensures (omega arith) (omega arith)
    ∙ half c.in_ok-first.ensures (elim c.else-first-ge220.branch [ else-first-ge220-via-then-first-ge220+else-first-le223 w ↦ above w.if-first-le223.false | else-first-ge220-via-else-first-ge220 w ↦ below w.if-first-ge220.false ])

pub returns : goal.returns
returns c =
    alone c.in_ok-unit.ensures (elim c.else-unit-ge55296.branch [ else-unit-ge55296-via-then-unit-ge55296+else-unit-le56319 w ↦ above w.if-unit-le56319.false | else-unit-ge55296-via-else-unit-ge55296 w ↦ below w.if-unit-ge55296.false ])
    ∙ half c.in_ok-first.ensures (elim c.else-first-ge220.branch [ else-first-ge220-via-then-first-ge220+else-first-le223 w ↦ above w.if-first-le223.false | else-first-ge220-via-else-first-ge220 w ↦ below w.if-first-ge220.false ])
