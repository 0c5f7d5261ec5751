-- `hashes::codes_hash` gives the hash of a string's code points.
-- The invariant: what is left, from the hash so far, has the hash of the whole. The measure is the bytes left.
use Prim.Native.Nat.{◌-◌}
use lib.ListN.{length}
use Rattle.strings.specs.Strings.{grammar_of}
use Rattle.strings.proofs.HashLaws.{HashedCodes}
use Rattle.strings.proofs.hashes.codes_hash.Given as goal

abbrev pub invariant-loop-i : goal.invariant-loop-i
invariant-loop-i l = HashedCodes (grammar_of l.dialect) l.s l.a l.hash l.i

abbrev pub decreases-loop-i : goal.decreases-loop-i
decreases-loop-i l = length l.s - l.i
