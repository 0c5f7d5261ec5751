use Rattle.std.proofs.Common.{sym, ◌∙◌}
use Rattle.rows.proofs.ChildLaws.{children-walk}
use Rattle.rows.proofs.walk.children.Goals as goal

pub returns : goal.returns
returns c = c.walk_from.ensures ∙ sym (children-walk c.first_child.ensures c.child_count.ensures)
