-- `lookup::listed_child` meets its contract: the rows left of the chain decide.
-- The measure is the count that falls.
use borrow.Author.Rules.{rules}
use Rattle.children.specs.Index.{links_of, owners_of}
use Rattle.children.proofs.LookupLaws.{child-walk, listed_hit, listed-on, listed-end, listed_out}
use Rattle.children.proofs.lookup.listed_child.Goals as goal

pub loop-left-init : goal.loop-left-init
loop-left-init c = child-walk

pub returns-then-word-eq0 : goal.returns-then-word-eq0
returns-then-word-eq0 c = listed-end c.loop-left.invariant c.if-word-eq0.true

pub returns-then-is_meant : goal.returns-then-is_meant
unfolding links_of owners_of
returns-then-is_meant c = listed_hit c.loop-left.invariant (search rules) c.is_meant.ensures c.if-is_meant.true

pub loop-left-preserved : goal.loop-left-preserved
unfolding links_of owners_of
loop-left-preserved c = listed-on c.loop-left.invariant (search rules) c.is_meant.ensures c.if-is_meant.false c.number_at-word.ensures

pub returns : goal.returns
returns c = listed_out c.loop-left.invariant (search rules)
