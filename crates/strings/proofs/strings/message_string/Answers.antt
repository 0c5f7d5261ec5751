-- `strings::message_string` reads a message string.
-- The loop's invariant: the string is read up to `i`, and a byte that is not plain stands before `i` or at it.
use native.Mathlib.Omega.{arith}
use Rattle.strings.specs.declared.dialects.Dialect.TheVariants.{Message}
use Rattle.strings.proofs.CharRuns.{handed_on}
use Rattle.strings.proofs.StringReads.{moves, plain_string_lem, coded-starts, coded-more, coded-string, coded-fault, coded-ends}
use Rattle.strings.proofs.strings.message_string.Goals as goal
use Rattle.strings.proofs.strings.message_string.Goals.{else-i-s-via-then-i-s+else-s-i-eq34, else-i-s-via-else-i-s}

pub returns-then-s-i-eq34 : goal.returns-then-s-i-eq34
returns-then-s-i-eq34 c = plain_string_lem c.requires c.plain_end-i.ensures c.if-i-s.true c.if-s-i-eq34.true

pub loop-i-init : goal.loop-i-init
loop-i-init c = coded-starts c.requires c.plain_end-i.ensures
    (elim c.else-i-s.branch [ else-i-s-via-then-i-s+else-s-i-eq34 w ↦ λ h. w.if-s-i-eq34.false | else-i-s-via-else-i-s w ↦ λ h. absurd (omega (arith, w.if-i-s.false)) ])

pub returns-then-s-i-eq34-2 : goal.returns-then-s-i-eq34-2
returns-then-s-i-eq34-2 c = coded-string c.loop-i.invariant c.loop-i-test.true c.if-s-i-eq34-2.true

pub returns-in_err-c : goal.returns-in_err-c
returns-in_err-c c =
    rw (handed_on c.from_residual.result c.from_residual.ensures.1)
    (coded-fault c.loop-i.invariant c.if-s-i-eq34-2.false c.message_char.ensures c.in_err-c.was)

pub loop-i-smaller : goal.loop-i-smaller
loop-i-smaller c =
    omega (arith, moves Message _ _ c.message_char.ensures c.in_ok-c.was, c.plain_end-i-in-loop-i.ensures.on, c.loop-i-test.true)

pub loop-i-preserved : goal.loop-i-preserved
loop-i-preserved c = coded-more c.loop-i.invariant c.message_char.ensures c.in_ok-c.was c.plain_end-i-in-loop-i.ensures

pub returns : goal.returns
returns c = coded-ends c.loop-i.invariant c.loop-i-test.false
