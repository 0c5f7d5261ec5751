-- `lists::put_children` meets its contract: the children passed are put, those left decide the rest.
-- The measure is the nodes left.
use Prim.Native.Nat.{◌+◌, ◌-◌}
use Rattle.definitions.proofs.ListLaws.{ChildrenLeft}
use Rattle.definitions.proofs.lists.put_children.Given as goal

abbrev pub invariant-loop-a : goal.invariant-loop-a
invariant-loop-a l = ChildrenLeft l.source.bytes.now l.source.nodes.now l.kind l.initial.rows l.rows l.n (l.k + 1) l.a l.end l.m

abbrev pub decreases-loop-a : goal.decreases-loop-a
decreases-loop-a l = l.end - l.a
