-- `rows::rows::past_children` gives the row after all that belongs to a row.
use Rattle.rows.proofs.ChildLaws.{children-room, children-past}
use Rattle.rows.proofs.rows.past_children.Goals as goal

pub past_rows-requires : goal.past_rows-requires
past_rows-requires c = children-room c.first_child.ensures c.child_count.ensures

pub returns : goal.returns
returns c = children-past c.first_child.ensures c.child_count.ensures c.past_rows.ensures.0
