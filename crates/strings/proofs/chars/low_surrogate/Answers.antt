-- `chars::low_surrogate` goes through the escape of a low surrogate as the machine does.
-- A backslash, a `u`, and the digits.
use mathlib.Core.Path.{◌∙◌}
use Rattle.grammar.specs.Serving.Machine.Message.{message}
use Rattle.strings.proofs.CharRuns.{at-end}
use Rattle.strings.proofs.MessageChars.{backslash-other, backslash-end, no_letter_u, letter_u}
use Rattle.strings.proofs.chars.low_surrogate.Goals as goal
use Rattle.strings.proofs.chars.low_surrogate.Goals.{then-s-i-via-then-s-i, then-s-i-via-else-s-i+then-s-i-ne92, then-s-i-2-via-then-s-i-2, then-s-i-2-via-else-s-i-2+then-s-i-ne117}

pub returns-then-s-i : goal.returns-then-s-i
returns-then-s-i c =
    elim c.then-s-i.branch [ then-s-i-via-then-s-i w ↦ at-end message _ _ _ w.if-s-i.true | then-s-i-via-else-s-i+then-s-i-ne92 w ↦ backslash-other _ _ _ w.if-s-i.false w.if-s-i-ne92.true ]

pub returns-then-s-i-2 : goal.returns-then-s-i-2
returns-then-s-i-2 c =
    elim c.then-s-i-2.branch [ then-s-i-2-via-then-s-i-2 w ↦ backslash-end _ _ _ c.if-s-i.false c.if-s-i-ne92.false w.if-s-i-2.true | then-s-i-2-via-else-s-i-2+then-s-i-ne117 w ↦ no_letter_u _ _ _ c.if-s-i.false c.if-s-i-ne92.false w.if-s-i-2.false w.if-s-i-ne117.true ]

pub returns : goal.returns
returns c =
    c.low_digits.ensures ∙ letter_u _ _ _ c.if-s-i.false c.if-s-i-ne92.false c.if-s-i-2.false c.if-s-i-ne117.false
