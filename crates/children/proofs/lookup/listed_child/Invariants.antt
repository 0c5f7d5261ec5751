-- `lookup::listed_child` meets its contract: the rows left of the chain decide.
-- The measure is the count that falls.
use Rattle.children.specs.Index.{links_of, owners_of}
use Rattle.children.proofs.LookupLaws.{ChildWalk}
use Rattle.children.proofs.lookup.listed_child.Given as goal

abbrev pub invariant-loop-left : goal.invariant-loop-left
invariant-loop-left l = ChildWalk l.schema l.rows l.m l.nodes (links_of l.index) (owners_of l.index) l.head l.r l.k l.word l.left

abbrev pub decreases-loop-left : goal.decreases-loop-left
decreases-loop-left l = l.left
