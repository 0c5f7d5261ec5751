-- `meanings::codes_same` compares the code points of two strings.
-- The loop's invariant: what is left of both says what the whole says.
use native.Mathlib.Omega.{arith}
use Rattle.strings.proofs.StringReads.{moves}
use Rattle.strings.proofs.Codes.{pair-past, both-ended, first_ended, second_ended, pair-differs, pairing_more}
use Rattle.strings.proofs.meanings.codes_same.Goals as goal

pub returns-in-Err-Err : goal.returns-in-Err-Err
returns-in-Err-Err c =
    both-ended c.args.dialect c.loop-i.invariant c.next_char-x.ensures c.next_char-y.ensures c.in-Err-Err.is-0 c.in-Err-Err.is-1

pub returns-in_default : goal.returns-in_default
returns-in_default c =
    second_ended c.args.dialect c.loop-i.invariant c.next_char-x.ensures c.next_char-y.ensures c.in_default.is-0 c.in_default.is-1

pub returns-in_default-2 : goal.returns-in_default-2
returns-in_default-2 c =
    first_ended c.args.dialect c.loop-i.invariant c.next_char-x.ensures c.next_char-y.ensures c.in_default.is-0 c.in_default.is-1

pub returns-then-c-d : goal.returns-then-c-d
returns-then-c-d c =
    pair-differs c.args.dialect c.loop-i.invariant c.next_char-x.ensures c.next_char-y.ensures c.in-Ok-Ok.is-0 c.in-Ok-Ok.is-1 c.if-c-d.true

pub loop-i-smaller : goal.loop-i-smaller
loop-i-smaller c = omega (arith, moves c.args.dialect _ _ c.next_char-x.ensures c.in-Ok-Ok.is-0, c.loop-i-test.true)

pub loop-i-preserved : goal.loop-i-preserved
loop-i-preserved c =
    pairing_more c.args.dialect c.loop-i.invariant c.next_char-x.ensures c.next_char-y.ensures c.in-Ok-Ok.is-0 c.in-Ok-Ok.is-1 c.if-c-d.false

pub returns : goal.returns
returns c = pair-past c.args.dialect c.loop-i.invariant c.loop-i-test.false
