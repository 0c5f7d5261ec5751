-- `meanings::codes_mean` compares the code points of a string with a name.
-- The loop's invariant: what is left of both says what the whole says.
use native.Mathlib.Omega.{arith}
use Rattle.strings.proofs.StringReads.{moves}
use Rattle.strings.proofs.Codes.{name-ended, name-short, name-differs, matching_more, name-past}
use Rattle.strings.proofs.meanings.codes_mean.Goals as goal
use Rattle.strings.proofs.meanings.codes_mean.Goals.{then-name-j-via-then-name-j, then-name-j-via-else-name-j+then-c-name}

pub returns-in_default : goal.returns-in_default
returns-in_default c = name-ended c.args.dialect c.loop-i.invariant c.next_char.ensures c.in_default.is

pub returns-then-name-j : goal.returns-then-name-j
returns-then-name-j c =
    elim c.then-name-j.branch [
      | then-name-j-via-then-name-j w ↦ name-short c.args.dialect c.loop-i.invariant c.next_char.ensures c.in-Ok.is w.if-name-j.true
      | then-name-j-via-else-name-j+then-c-name w ↦ name-differs c.args.dialect c.loop-i.invariant c.next_char.ensures c.in-Ok.is w.if-name-j.false w.if-c-name.true
    ]

pub loop-i-smaller : goal.loop-i-smaller
loop-i-smaller c = omega (arith, moves c.args.dialect _ _ c.next_char.ensures c.in-Ok.is, c.loop-i-test.true)

pub loop-i-preserved : goal.loop-i-preserved
loop-i-preserved c =
    matching_more c.args.dialect c.loop-i.invariant c.next_char.ensures c.in-Ok.is c.if-name-j.false c.if-c-name.false

pub returns : goal.returns
returns c = name-past c.args.dialect c.loop-i.invariant c.loop-i-test.false
