-- `lists::put_children` meets its contract: the children passed are put, those left decide the rest.
-- The measure is the nodes left.
use mathlib.Core.Path.{◌∙◌}
use native.Mathlib.Omega.{arith}
use borrow.Author.Rules.{rules}
use Rattle.definitions.proofs.Stores.{refused, passed_on}
use Rattle.definitions.proofs.ListLaws.{children_begin, children-on, children_fail, children_stuck, children-all, children-list}
use Rattle.definitions.proofs.lists.put_children.Goals as goal

pub loop-a-init : goal.loop-a-init
loop-a-init c = children_begin (search rules)

pub put_child-requires : goal.put_child-requires
put_child-requires c = (omega (arith, c.loop-a.invariant.small), omega (arith, c.loop-a.invariant.few, c.loop-a.invariant.small))

pub returns-in_err-more : goal.returns-in_err-more
returns-in_err-more c =
    passed_on c.from_residual.ensures.0 (c.put_child.ensures.same_length ∙ c.loop-a.invariant.same_length) (λ o v.
    children_fail c.loop-a.invariant c.loop-a-test.true c.put_child.ensures c.in_err-more.was o
    (children-list c.in-Some.is c.node_word.ensures c.list_kind.ensures c.if-node_word-list_kind.false c.node_word-end.ensures o v).1)

pub returns-then-next-a : goal.returns-then-next-a
returns-then-next-a c =
    refused (c.put_child.ensures.same_length ∙ c.loop-a.invariant.same_length) (λ o v.
    children_stuck c.loop-a.invariant c.loop-a-test.true c.put_child.ensures c.node_word-next.ensures c.if-next-a.true o
    (children-list c.in-Some.is c.node_word.ensures c.list_kind.ensures c.if-node_word-list_kind.false c.node_word-end.ensures o v).1)

pub loop-a-preserved : goal.loop-a-preserved
loop-a-preserved c =
    children-on c.loop-a.invariant c.loop-a-test.true c.put_child.ensures c.in_ok-more.was c.node_word-next.ensures (search rules) (search rules)

pub returns : goal.returns
returns c =
    record {
      same_length = c.loop-a.invariant.same_length;
      few = (c.loop-a.invariant.from, omega (arith, c.loop-a.invariant.few, c.loop-a.invariant.small));
      told = λ o v.
          children-all c.loop-a.invariant (search rules) o
          (children-list c.in-Some.is c.node_word.ensures c.list_kind.ensures c.if-node_word-list_kind.false c.node_word-end.ensures o v).1;
    }
