-- `decoded::decode` meets its contract: the bytes so far and what is left are the whole. The measure is the bytes of the text left.
use Prim.Native.Nat.{◌-◌}
use mathlib.Core.Path.{◌≡◌}
use lib.ListN.{length}
use Rattle.strings.specs.Strings.{grammar_of}
use Rattle.strings.proofs.DecodingLaws.{DecodedSoFar}
use Rattle.strings.proofs.decoded.decode.Given as goal

abbrev pub invariant-loop-i : goal.invariant-loop-i
invariant-loop-i l = (length l.bytes ≡ length l.initial.bytes) × DecodedSoFar (grammar_of l.dialect) l.s l.a l.bytes l.n l.i

abbrev pub decreases-loop-i : goal.decreases-loop-i
decreases-loop-i l = length l.s - l.i
