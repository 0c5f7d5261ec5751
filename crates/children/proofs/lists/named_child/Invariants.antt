-- `lists::named_child` meets its contract: of the children, those left to look at.
use Rattle.rows.specs.Rows.{Room}
use Rattle.children.proofs.ScanLaws.{NameLeft}
use Rattle.children.proofs.lists.named_child.Given as goal

abbrev pub invariant-loop-left : goal.invariant-loop-left
invariant-loop-left l = Room l.c l.left × NameLeft l.schema l.rows l.name l.r l.c l.left

abbrev pub decreases-loop-left : goal.decreases-loop-left
decreases-loop-left l = l.left
