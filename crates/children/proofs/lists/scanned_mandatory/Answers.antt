-- `lists::scanned_mandatory` meets its contract: of the children, those left to look at.
use Rattle.rows.proofs.LoopLaws.{room_next}
use Rattle.rows.proofs.ChildLaws.{children-room}
use Rattle.children.proofs.CountLaws.{count-start, count-on, count-end, count_fits}
use Rattle.children.proofs.lists.scanned_mandatory.Goals as goal

pub loop-left-init : goal.loop-left-init
loop-left-init c = (children-room c.first_child-c.ensures c.child_count-left.ensures, count-start c.first_child-c.ensures c.child_count-left.ensures)

pub overflow_add-n : goal.overflow_add-n
overflow_add-n c = count_fits c.loop-left.invariant.1 c.mandatory_one-n.ensures c.loop-left-test.true

pub loop-left-preserved : goal.loop-left-preserved
loop-left-preserved c =
    let l = c.loop-left-test.true in
    let f = c.next_row-c.ensures in
    (room_next c.loop-left.invariant.0 l f, count-on c.loop-left.invariant.1 l c.mandatory_one-n.ensures f)

pub returns : goal.returns
returns c = count-end c.loop-left.invariant.1 c.loop-left-test.false
