-- `index::add_children` meets its contract: the children before c are in the index.
use mathlib.Core.Path.{◌∙◌}
use native.Mathlib.Omega.{arith}
use Rattle.rules.proofs.TableRows.{past_children-above}
use Rattle.rows.proofs.LoopLaws.{room_next}
use Rattle.rows.proofs.ChildLaws.{children-room}
use Rattle.children.proofs.FillLaws.{run-start, run-within, run_more, run_end}
use Rattle.children.proofs.PartLaws.{put-room}
use Rattle.children.proofs.index.add_children.Goals as goal

pub first_child-c-requires : goal.first_child-c-requires
first_child-c-requires c = omega (arith, c.requires.1, past_children-above c.args.rows.now c.args.r)

pub loop-left-init : goal.loop-left-init
loop-left-init c = (children-room c.first_child-c.ensures c.child_count-left.ensures, run-start c.first_child-c.ensures c.child_count-left.ensures)

pub put_child-requires : goal.put_child-requires
put_child-requires c =
    (c.loop-left.invariant.1.room ∙ c.requires.0, run-within c.loop-left.invariant.1 c.loop-left-test.true c.requires.1)

pub put_owner-requires : goal.put_owner-requires
put_owner-requires c =
    (put-room (run-within c.loop-left.invariant.1 c.loop-left-test.true c.requires.1) c.put_child.ensures ∙ c.loop-left.invariant.1.room ∙ c.requires.0, run-within c.loop-left.invariant.1 c.loop-left-test.true c.requires.1, omega (arith, c.requires.1, past_children-above c.args.rows.now c.args.r))

pub loop-left-preserved : goal.loop-left-preserved
loop-left-preserved c =
    let l = c.loop-left-test.true in
    let f = c.next_row-c.ensures in
    (room_next c.loop-left.invariant.0 l f, run_more c.loop-left.invariant.1 l c.requires.1 c.name_of.ensures c.name_hash.ensures c.owner_hash-hash.ensures c.put_child.ensures c.put_owner.ensures f)

pub returns : goal.returns
returns c = run_end c.loop-left.invariant.1 c.loop-left-test.false
