-- `hashes::name_hash` gives the hash of a name.
-- The invariant: what is left, from the hash so far, has the hash of the whole. The measure is the bytes left.
use Prim.Native.Nat.{◌-◌}
use lib.ListN.{length}
use Rattle.children.proofs.HashLaws.{BytesLeft}
use Rattle.children.proofs.hashes.name_hash.Given as goal

abbrev pub invariant-loop-i : goal.invariant-loop-i
invariant-loop-i l = BytesLeft l.name l.hash l.i

abbrev pub decreases-loop-i : goal.decreases-loop-i
decreases-loop-i l = length l.name - l.i
