-- `hashes::bytes_hash` gives the hash of a string's bytes.
-- The invariant: what is left, from the hash so far, has the hash of the whole.
use mathlib.Core.Path.{refl}
use Rattle.strings.specs.Hashes.{hash_of}
use Rattle.strings.proofs.hashes.bytes_hash.Goals as goal

pub loop-b-init : goal.loop-b-init
unfolding hash_of
loop-b-init c = refl
