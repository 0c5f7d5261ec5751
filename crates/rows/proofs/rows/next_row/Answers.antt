-- `rows::rows::next_row` gives the row after another.
use Rattle.rows.proofs.RowFacts.{follows-one}
use Rattle.rows.proofs.rows.next_row.Goals as goal

pub returns : goal.returns
returns c = follows-one _
