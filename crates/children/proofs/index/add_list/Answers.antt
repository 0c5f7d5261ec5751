-- `index::add_list` meets its contract: a long list comes in and is counted, a short one needs nothing.
use Rattle.children.proofs.FillLaws.{list-long, list-short}
use Rattle.children.proofs.index.add_list.Goals as goal

pub returns-then-is_long : goal.returns-then-is_long
returns-then-is_long c = list-long c.requires.0 c.requires.1 c.add_children.ensures c.put_count.ensures

pub returns-else-is_long : goal.returns-else-is_long
returns-else-is_long c = list-short c.is_long.ensures c.if-is_long.false
