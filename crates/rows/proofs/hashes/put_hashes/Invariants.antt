-- The hashes of the rows before the loop's row are written.
use Rattle.std.proofs.Common.{length}
use Rattle.rows.proofs.HashLaws.{HashesTo}
use Rattle.rows.proofs.hashes.put_hashes.Given as goal

abbrev pub invariant-loop-r : goal.invariant-loop-r
invariant-loop-r l = HashesTo l.schema l.rows l.hashes (length l.initial.hashes) l.r
