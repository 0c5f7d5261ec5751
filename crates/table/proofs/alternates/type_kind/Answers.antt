-- A built-in by its number, and a row by its kind.
use Rattle.table.proofs.KindLaws.{built_in-type, row-type}
use Rattle.table.proofs.alternates.type_kind.Goals as goal

pub returns-then-t-lt-FIRST_ROW : goal.returns-then-t-lt-FIRST_ROW
returns-then-t-lt-FIRST_ROW c = built_in-type c.args.rows.now c.if-t-lt-FIRST_ROW.true c.built_in_kind.ensures

pub returns : goal.returns
returns c = row-type c.args.rows.now c.if-t-lt-FIRST_ROW.false c.word.ensures c.row_kind.ensures
