-- `keys::least_node` meets its contract: the nodes passed are searched.
use native.Mathlib.Omega.{arith}
use Rattle.text.proofs.SearchLaws.{search-start, search-on, search-ends}
use Rattle.text.proofs.keys.least_node.Goals as goal

pub loop-at-init : goal.loop-at-init
loop-at-init c = search-start _

pub returns-then-best-at : goal.returns-then-best-at
returns-then-best-at c = search-ends c.loop-at.invariant c.if-best-at.true

pub loop-at-preserved : goal.loop-at-preserved
loop-at-preserved c = search-on c.loop-at.invariant (omega arith) c.first_at-found.ensures c.lesser_of-best.ensures

pub returns : goal.returns
returns c = search-ends c.loop-at.invariant (omega (arith, c.loop-at.invariant.upto))
