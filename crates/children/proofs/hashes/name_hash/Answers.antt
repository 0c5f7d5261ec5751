-- `hashes::name_hash` gives the hash of a name.
-- The invariant: what is left, from the hash so far, has the hash of the whole. The measure is the bytes left.
use mathlib.Core.Path.{refl}
use native.Mathlib.Omega.{arith}
use Rattle.children.proofs.HashLaws.{bytes-start, bytes-more, bytes-end}
use Rattle.children.proofs.hashes.name_hash.Goals as goal

pub loop-i-init : goal.loop-i-init
loop-i-init c = bytes-start _

pub loop-i-preserved : goal.loop-i-preserved
loop-i-preserved c = bytes-more c.loop-i.invariant (omega arith) refl c.mix-hash.ensures

pub returns : goal.returns
returns c = bytes-end c.loop-i.invariant (omega arith)
