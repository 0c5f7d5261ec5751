-- `chars::message_char` reads a character of a message string as the machine does.
-- By its first byte.
use native.Mathlib.Omega.{arith}
use mathlib.Core.Path.{refl, ◌∙◌}
use borrow.Author.Tests.{eq-eqb}
use Rattle.grammar.specs.Serving.Machine.Message.{message}
use Rattle.strings.proofs.CharRuns.{none-at-end, none-at-quote}
use Rattle.strings.proofs.MessageChars.{starts-escape, starts-control, starts-plain, starts-utf8}
use Rattle.strings.proofs.chars.message_char.Goals as goal
use Rattle.strings.proofs.chars.message_char.Goals.{then-b-eq34-via-then-b-eq34, then-b-eq34-via-else-b-eq34+then-b-lt32}

pub returns-then-s-i : goal.returns-then-s-i
returns-then-s-i c = none-at-end message _ _ c.if-s-i.true

pub returns-then-b-eq92 : goal.returns-then-b-eq92
returns-then-b-eq92 c = c.escape.ensures ∙ starts-escape _ _ c.if-s-i.false c.if-b-eq92.true

pub returns-then-b-eq34 : goal.returns-then-b-eq34
returns-then-b-eq34 c =
    elim c.then-b-eq34.branch [ then-b-eq34-via-then-b-eq34 w ↦ none-at-quote message _ _ c.if-s-i.false (eq-eqb _ _ w.if-b-eq34.true) | then-b-eq34-via-else-b-eq34+then-b-lt32 w ↦ starts-control _ _ c.if-s-i.false w.if-b-lt32.true ]

pub returns-then-b-lt128 : goal.returns-then-b-lt128
returns-then-b-lt128 c = starts-plain _ _ c.if-s-i.false refl (omega arith) (omega arith) (omega arith) (omega arith)

pub returns : goal.returns
returns c = c.utf8-2.ensures ∙ starts-utf8 _ _ c.if-s-i.false c.if-b-lt128.false
