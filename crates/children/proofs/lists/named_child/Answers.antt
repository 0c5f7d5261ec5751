-- `lists::named_child` meets its contract: of the children, those left to look at.
use Rattle.rows.proofs.LoopLaws.{room_next}
use Rattle.rows.proofs.ChildLaws.{children-room}
use Rattle.children.proofs.ScanLaws.{name_start, name_hit, name-on, name_end}
use Rattle.children.proofs.lists.named_child.Goals as goal

pub loop-left-init : goal.loop-left-init
loop-left-init c = (children-room c.first_child-c.ensures c.child_count-left.ensures, name_start _ _ _ c.first_child-c.ensures c.child_count-left.ensures)

pub returns-then-is_named : goal.returns-then-is_named
returns-then-is_named c = name_hit c.loop-left.invariant.1 c.loop-left-test.true c.is_named.ensures c.if-is_named.true

pub loop-left-preserved : goal.loop-left-preserved
loop-left-preserved c =
    let l = c.loop-left-test.true in
    let f = c.next_row-c.ensures in
    (room_next c.loop-left.invariant.0 l f, name-on c.loop-left.invariant.1 l c.is_named.ensures c.if-is_named.false f)

pub returns : goal.returns
returns c = name_end c.loop-left.invariant.1 c.loop-left-test.false
