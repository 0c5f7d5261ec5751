-- `comparisons::is_new_key` meets its contract: the keys passed are others.
-- The measure is the nodes left.
use borrow.Author.Rules.{rules}
use Rattle.text.proofs.PairLaws.{passed_start, passed_hit, passed_on, passed_stuck, passed-end}
use Rattle.text.proofs.comparisons.is_new_key.Goals as goal

pub loop-i-init : goal.loop-i-init
loop-i-init c = passed_start

pub returns-then-same_key : goal.returns-then-same_key
returns-then-same_key c = passed_hit c.loop-i.invariant (search rules) c.same_key.ensures c.if-same_key.true

pub returns-then-n-i : goal.returns-then-n-i
returns-then-n-i c = passed_stuck c.loop-i.invariant (search rules) c.node_number-n.ensures c.if-n-i.true

pub loop-i-preserved : goal.loop-i-preserved
loop-i-preserved c = passed_on c.loop-i.invariant (search rules) c.same_key.ensures c.if-same_key.false c.node_number-n.ensures

pub returns : goal.returns
returns c = passed-end c.loop-i.invariant (search rules)
