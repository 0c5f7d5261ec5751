-- `lists::scanned_child` meets its contract: of the children, those left to look at.
use Rattle.rows.proofs.LoopLaws.{room_next}
use Rattle.rows.proofs.ChildLaws.{children-room}
use Rattle.children.proofs.ScanLaws.{child-start, child_hit, child-on, child-end}
use Rattle.children.proofs.lists.scanned_child.Goals as goal

pub loop-left-init : goal.loop-left-init
loop-left-init c = (children-room c.first_child-c.ensures c.child_count-left.ensures, child-start _ _ _ _ c.first_child-c.ensures c.child_count-left.ensures)

pub returns-then-node_means : goal.returns-then-node_means
returns-then-node_means c = child_hit c.loop-left.invariant.1 c.loop-left-test.true c.name_of.ensures c.node_means.ensures c.if-node_means.true

pub loop-left-preserved : goal.loop-left-preserved
loop-left-preserved c =
    let l = c.loop-left-test.true in
    let f = c.next_row-c.ensures in
    (room_next c.loop-left.invariant.0 l f, child-on c.loop-left.invariant.1 l c.name_of.ensures c.node_means.ensures c.if-node_means.false f)

pub returns : goal.returns
returns c = child-end c.loop-left.invariant.1 c.loop-left-test.false
