-- `lists::scanned_child` meets its contract: of the children, those left to look at.
use Rattle.rows.specs.Rows.{Room}
use Rattle.children.proofs.ScanLaws.{ChildLeft}
use Rattle.children.proofs.lists.scanned_child.Given as goal

abbrev pub invariant-loop-left : goal.invariant-loop-left
invariant-loop-left l = Room l.c l.left × ChildLeft l.schema l.rows l.m l.nodes l.r l.k l.c l.left

abbrev pub decreases-loop-left : goal.decreases-loop-left
decreases-loop-left l = l.left
