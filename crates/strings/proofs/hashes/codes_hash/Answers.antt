-- `hashes::codes_hash` gives the hash of a string's code points.
-- The invariant: what is left, from the hash so far, has the hash of the whole. The measure is the bytes left.
use native.Mathlib.Omega.{arith}
use Rattle.strings.proofs.StringReads.{moves}
use Rattle.strings.proofs.HashLaws.{codes-start, codes-end, codes-more, codes-past}
use Rattle.strings.proofs.hashes.codes_hash.Goals as goal

pub loop-i-init : goal.loop-i-init
loop-i-init c = codes-start _ _ _

pub returns-in_default : goal.returns-in_default
returns-in_default c = codes-end c.args.dialect c.loop-i.invariant c.next_char.ensures c.in_default.is

pub loop-i-smaller : goal.loop-i-smaller
loop-i-smaller c = omega (arith, moves c.args.dialect _ _ c.next_char.ensures c.in-Ok.is, c.loop-i-test.true)

pub loop-i-preserved : goal.loop-i-preserved
loop-i-preserved c = codes-more c.args.dialect c.loop-i.invariant c.next_char.ensures c.in-Ok.is c.mix-hash.ensures

pub returns : goal.returns
returns c = codes-past c.args.dialect c.loop-i.invariant c.loop-i-test.false
