-- `values::value_at` meets its contract: the fields left decide what all do.
-- The measure is the nodes left.
use borrow.Author.Rules.{rules}
use Rattle.strings.specs.Strings.{grammar_of}
use Rattle.lookups.proofs.FieldLaws.{value_begin, value_hit, value_on, value_stuck, value-end, value_none}
use Rattle.lookups.proofs.values.value_at.Goals as goal

pub returns-then-end-k : goal.returns-then-end-k
returns-then-end-k c = value_none (grammar_of c.args.dialect) c.args.s.now c.args.nodes.now c.args.name.now (search rules) c.if-end-k.true

pub loop-a-init : goal.loop-a-init
loop-a-init c = value_begin (grammar_of c.args.dialect) c.args.s.now c.args.nodes.now c.args.name.now _ _

pub returns-then-node_means : goal.returns-then-node_means
returns-then-node_means c = value_hit (grammar_of c.args.dialect) c.args.s.now c.args.nodes.now (search rules) c.loop-a.invariant (search rules) c.node_means.ensures c.if-node_means.true

pub returns-then-n-a : goal.returns-then-n-a
returns-then-n-a c = value_stuck (grammar_of c.args.dialect) c.args.s.now c.args.nodes.now _ (search rules) c.loop-a.invariant (search rules) c.node_number-n.ensures c.if-n-a.true

pub loop-a-preserved : goal.loop-a-preserved
loop-a-preserved c = value_on (grammar_of c.args.dialect) c.args.s.now c.args.nodes.now _ c.loop-a.invariant (search rules) c.node_means.ensures c.if-node_means.false c.node_number-n.ensures

pub returns : goal.returns
returns c = value-end (grammar_of c.args.dialect) c.args.s.now c.args.nodes.now (search rules) c.loop-a.invariant (search rules)
