-- A row of another hash has another name.
use Rattle.rows.proofs.HashLaws.{other_name}
use Rattle.rows.proofs.hashes.HashedRows.is_named.Goals as goal

pub returns-then-is_other : goal.returns-then-is_other
returns-then-is_other c = other_name _ c.args.self.hashed c.is_other.ensures c.if-is_other.true c.args.name.hashed
