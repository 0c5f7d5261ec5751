-- `references::find::find` finds the first definition that fits and has the name.
-- The loop keeps what is left to look at; the measure is the count that falls.
use borrow.Author.Rules.{rules}
use Rattle.references.proofs.FindLaws.{left-start, left_end, left-small, left_hit, left-on, left_out}
use Rattle.references.proofs.find.find.Goals as goal

pub loop-left-init : goal.loop-left-init
loop-left-init c = left-start

pub returns-then-link-eq0 : goal.returns-then-link-eq0
returns-then-link-eq0 c = left_end c.hash_of.ensures c.first-link.ensures c.loop-left.invariant c.if-link-eq0.true

pub returns-then-is_named : goal.returns-then-is_named
returns-then-is_named c =
    left_hit c.hash_of.ensures c.first-link.ensures c.loop-left.invariant (left-small c.args.names.now.schema.now c.args.rows.now c.args.structs c.args.name.now c.requires c.is_named.ensures c.if-is_named.true) (search rules) c.is_named.ensures c.if-is_named.true

pub loop-left-preserved : goal.loop-left-preserved
loop-left-preserved c = left-on c.loop-left.invariant (search rules) c.is_named.ensures c.if-is_named.false c.next-link.ensures

pub returns : goal.returns
returns c = left_out c.hash_of.ensures c.first-link.ensures c.loop-left.invariant (search rules)
