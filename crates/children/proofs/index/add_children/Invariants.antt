-- `index::add_children` meets its contract: the children before c are in the index.
use Rattle.rows.specs.Rows.{Room}
use Rattle.children.proofs.FillLaws.{RunAdded}
use Rattle.children.proofs.index.add_children.Given as goal

abbrev pub invariant-loop-left : goal.invariant-loop-left
invariant-loop-left l = Room l.c l.left × RunAdded l.schema l.rows l.initial.index l.r l.c l.left l.index

abbrev pub decreases-loop-left : goal.decreases-loop-left
decreases-loop-left l = l.left
