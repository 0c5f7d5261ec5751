-- `table::names::index_row` adds a row to an index if it is a definition.
use Rattle.table.proofs.DistinctLaws.{row-entered, row-left}
use Rattle.table.proofs.names.index_row.Goals as goal

pub returns-then-is_definition : goal.returns-then-is_definition
returns-then-is_definition c = row-entered c.args.r c.is_definition.ensures c.if-is_definition.true c.name_of.ensures c.hash_of.ensures c.requires.0 c.add.ensures

pub returns-else-is_definition : goal.returns-else-is_definition
returns-else-is_definition c = row-left c.args.r c.is_definition.ensures c.if-is_definition.false
