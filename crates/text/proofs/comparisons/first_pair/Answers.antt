-- `comparisons::first_pair` meets its contract: the keys passed repeat none.
-- The measure is the nodes left.
use borrow.Author.Rules.{rules}
use Rattle.text.proofs.PairLaws.{turned-start, turned_hit, turned_on, turned_stuck, turned-end}
use Rattle.text.proofs.comparisons.first_pair.Goals as goal

pub loop-i-init : goal.loop-i-init
loop-i-init c = turned-start

pub returns-then-not-is_new_key : goal.returns-then-not-is_new_key
returns-then-not-is_new_key c = turned_hit c.loop-i.invariant (search rules) c.is_new_key.ensures (c.if-not-is_new_key.true)

pub returns-then-n-i : goal.returns-then-n-i
returns-then-n-i c = turned_stuck c.loop-i.invariant (search rules) c.node_number-n.ensures c.if-n-i.true

pub loop-i-preserved : goal.loop-i-preserved
loop-i-preserved c = turned_on c.loop-i.invariant (search rules) c.is_new_key.ensures (c.if-not-is_new_key.false) c.node_number-n.ensures

pub returns : goal.returns
returns c = turned-end c.loop-i.invariant (search rules)
