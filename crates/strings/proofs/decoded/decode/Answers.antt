-- `decoded::decode` meets its contract: the bytes so far and what is left are the whole. The measure is the bytes of the text left.
use native.Mathlib.Omega.{arith}
use lib.ListN.{length-set}
use Rattle.strings.proofs.StringReads.{moves}
use Rattle.strings.proofs.DecodingLaws.{decoding_ends, too_many, no_byte, decoding_more, decoding_past}
use Rattle.strings.proofs.decoded.decode.Goals as goal
use Rattle.strings.proofs.decoded.decode.Goals.{then-bytes-n-via-then-bytes-n, then-bytes-n-via-else-bytes-n+then-c-gt255}

pub returns-in_default : goal.returns-in_default
returns-in_default c = decoding_ends c.args.dialect c.loop-i.invariant.1 c.next_char.ensures c.in_default.is

pub returns-then-bytes-n : goal.returns-then-bytes-n
returns-then-bytes-n c =
    elim c.then-bytes-n.branch [
      | then-bytes-n-via-then-bytes-n w ↦ too_many c.args.dialect c.loop-i.invariant.1 c.next_char.ensures c.in-Ok.is w.if-bytes-n.true
      | then-bytes-n-via-else-bytes-n+then-c-gt255 w ↦ no_byte c.args.dialect c.loop-i.invariant.1 c.next_char.ensures c.in-Ok.is w.if-c-gt255.true
    ]

pub loop-i-smaller : goal.loop-i-smaller
loop-i-smaller c = omega (arith, moves c.args.dialect _ _ c.next_char.ensures c.in-Ok.is, c.loop-i-test.true)

pub loop-i-preserved : goal.loop-i-preserved
loop-i-preserved c = (simp length-set c.loop-i.invariant.0, decoding_more c.args.dialect c.loop-i.invariant.1 c.next_char.ensures c.in-Ok.is (omega arith))

pub returns : goal.returns
returns c = decoding_past c.args.dialect c.loop-i.invariant.1 c.loop-i-test.false
