-- `hashes::bytes_hash` gives the hash of a string's bytes.
-- The invariant: what is left, from the hash so far, has the hash of the whole.
use mathlib.Core.Path.{◌≡◌}
use lib.ListN.{drop}
use Rattle.strings.specs.Hashes.{hash_of, hash_from}
use Rattle.strings.proofs.hashes.bytes_hash.Given as goal

abbrev pub invariant-loop-b : goal.invariant-loop-b
invariant-loop-b l = hash_of l.bytes ≡ hash_from l.hash (drop l.b-index l.bytes)
