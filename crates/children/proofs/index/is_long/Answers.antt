-- `index::is_long` meets its contract: the test is that of the definition.
use Rattle.children.specs.Index.{is_long}
use Rattle.children.proofs.index.is_long.Goals as goal

pub returns : goal.returns
unfolding is_long
returns c = rw c.child_count.ensures.is
