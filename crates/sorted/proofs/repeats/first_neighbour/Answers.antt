-- `repeats::first_neighbour` meets its contract: the list is in order so far, and the best is the least so far.
use Rattle.sorted.proofs.ListLaws.{least_start, least_found, least_none, least_more}
use Rattle.sorted.proofs.repeats.first_neighbour.Goals as goal

pub loop-k-init : goal.loop-k-init
loop-k-init c = least_start _

pub loop-k-preserved : goal.loop-k-preserved
loop-k-preserved c =
    least_more c.loop-k.k c.loop-k.auto.k c.loop-k.invariant c.order-order.ensures (rw (← c.cmp.ensures, ← c.then.ensures, ← c.is_ge.ensures) c.if-is_ge.false)
    c.least_of-best.ensures

pub returns-then-best-list : goal.returns-then-best-list
returns-then-best-list c = least_found c.loop-k.k c.loop-k-test.false c.loop-k.auto.k-end c.loop-k.invariant c.if-best-list.true

pub returns : goal.returns
returns c = least_none c.loop-k.k c.loop-k-test.false c.loop-k.auto.k-end c.loop-k.invariant c.if-best-list.false
