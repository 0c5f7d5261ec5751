-- A law for each return: nothing, a built-in, or the kind of the row.
use Rattle.table.proofs.KindLaws.{return_nothing, return_built_in}
use Rattle.table.proofs.returns.return_fits.Goals as goal

pub returns-then-t-eq0 : goal.returns-then-t-eq0
returns-then-t-eq0 c = return_nothing c.args.rows.now c.if-t-eq0.true

pub returns-then-t-lt-FIRST_ROW : goal.returns-then-t-lt-FIRST_ROW
returns-then-t-lt-FIRST_ROW c = return_built_in c.args.rows.now c.if-t-eq0.false c.if-t-lt-FIRST_ROW.true
