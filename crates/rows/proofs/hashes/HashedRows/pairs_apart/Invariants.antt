-- What is left decides.
use Rattle.std.proofs.Common.{◌≡◌}
use Rattle.rows.proofs.HashLaws.{names_apart}
use Rattle.rows.proofs.hashes.HashedRows.pairs_apart.Given as goal

abbrev pub invariant-loop-r : goal.invariant-loop-r
invariant-loop-r l = names_apart l.self.schema.now l.self.rows.now l.initial.left ≡ names_apart l.self.schema.now l.self.rows.now l.left
