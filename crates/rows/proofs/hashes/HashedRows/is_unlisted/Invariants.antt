-- The rows left of the chain decide what all do.
use Rattle.std.proofs.Common.{◌-◌}
use Rattle.rows.proofs.IndexLaws.{NameWalk}
use Rattle.rows.proofs.hashes.HashedRows.is_unlisted.Given as goal

abbrev pub invariant-loop : goal.invariant-loop
invariant-loop l = NameWalk l.self.schema.now l.self.rows.now l.links l.name.name.now l.head l.word (l.end - l.counter)
