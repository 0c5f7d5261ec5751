-- A row of another hash has a name that does not clash.
use Rattle.rows.proofs.HashLaws.{no_clash_lem}
use Rattle.rows.proofs.hashes.HashedRows.clashes.Goals as goal

pub returns-then-is_other : goal.returns-then-is_other
returns-then-is_other c = no_clash_lem _ c.args.self.hashed c.is_other.ensures c.if-is_other.true c.args.name.hashed
