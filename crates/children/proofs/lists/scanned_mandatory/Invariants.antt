-- `lists::scanned_mandatory` meets its contract: of the children, those left to look at.
use Rattle.rows.specs.Rows.{Room}
use Rattle.children.proofs.CountLaws.{CountLeft}
use Rattle.children.proofs.lists.scanned_mandatory.Given as goal

abbrev pub invariant-loop-left : goal.invariant-loop-left
invariant-loop-left l = Room l.c l.left × CountLeft l.rows l.r l.n l.c l.left

abbrev pub decreases-loop-left : goal.decreases-loop-left
decreases-loop-left l = l.left
