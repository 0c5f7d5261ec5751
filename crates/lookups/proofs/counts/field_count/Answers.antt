-- `counts::field_count` meets its contract: the fields passed are counted, the others are left.
-- The measure is the nodes left.
use native.Mathlib.Omega.{arith}
use borrow.Author.Rules.{rules}
use Rattle.lookups.proofs.KeyCounts.{count_begin, count-on, count-end, count_stuck, count_none}
use Rattle.lookups.proofs.counts.field_count.Goals as goal

pub returns-then-end-k : goal.returns-then-end-k
returns-then-end-k c = count_none c.node_number-end.ensures c.if-end-k.true

pub loop-a-init : goal.loop-a-init
loop-a-init c = count_begin c.args.nodes.now c.args.k _

pub returns-then-n-a : goal.returns-then-n-a
returns-then-n-a c = count_stuck c.node_number-end.ensures c.loop-a.invariant (search rules) c.node_number-n.ensures c.if-n-a.true

pub overflow_add-count : goal.overflow_add-count
overflow_add-count c = omega (arith, c.loop-a.invariant.few)

pub loop-a-preserved : goal.loop-a-preserved
loop-a-preserved c = count-on c.loop-a.invariant (search rules) c.node_number-n.ensures c.if-n-a.false

pub returns : goal.returns
returns c = count-end c.node_number-end.ensures c.loop-a.invariant (search rules)
