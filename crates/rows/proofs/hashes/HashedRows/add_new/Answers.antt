-- A row is looked up by its name, and comes into the index.
use Rattle.std.proofs.Common.{◌∙◌}
use Rattle.rows.proofs.IndexLaws.{entered-not, entered}
use Rattle.rows.proofs.hashes.HashedRows.add_new.Goals as goal

pub returns-then-not-is_unlisted : goal.returns-then-not-is_unlisted
returns-then-not-is_unlisted c = entered-not c.args.r (c.of-name.ensures ∙ c.name_of.ensures) c.of-name.result.hashed c.first-head.ensures c.is_unlisted.ensures c.if-not-is_unlisted.true

pub returns : goal.returns
returns c = entered c.args.r (c.of-name.ensures ∙ c.name_of.ensures) c.of-name.result.hashed c.first-head.ensures c.is_unlisted.ensures c.if-not-is_unlisted.false c.requires.0 c.add.ensures
