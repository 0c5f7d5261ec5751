-- `definitions::put_definitions` meets its contract: the definitions passed are put, those left decide the rest.
-- The measure is the nodes left. Rows never outnumber the nodes passed.
use mathlib.Core.Path.{◌∙◌}
use borrow.Author.Rules.{rules}
use Rattle.definitions.proofs.TableLaws.{put_failed, definitions_fail, definitions_stuck, definitions-over, definitions-on, definitions-all}
use Rattle.definitions.proofs.definitions.put_definitions.Goals as goal

pub returns-in_err-m : goal.returns-in_err-m
returns-in_err-m c =
    put_failed c.from_residual.ensures.0 (c.put_definition.ensures.same_length ∙ c.loop-k.invariant.same_length)
    (definitions_fail c.loop-k.invariant (search rules) c.put_definition.ensures c.in_err-m.was)

pub returns-then-next-k : goal.returns-then-next-k
returns-then-next-k c =
    record {
      same_length = c.put_definition.ensures.same_length ∙ c.loop-k.invariant.same_length;
      told = definitions_stuck c.loop-k.invariant (search rules) c.put_definition.ensures c.node_number-next.ensures c.if-next-k.true;
    }

pub returns-then-next-m : goal.returns-then-next-m
returns-then-next-m c =
    record {
      same_length = c.put_definition.ensures.same_length ∙ c.loop-k.invariant.same_length;
      told = definitions-over c.loop-k.invariant (search rules) c.put_definition.ensures c.in_ok-m.was c.node_number-next.ensures c.if-next-m.true;
    }

pub loop-k-preserved : goal.loop-k-preserved
loop-k-preserved c =
    definitions-on c.loop-k.invariant (search rules) c.put_definition.ensures c.in_ok-m.was c.node_number-next.ensures c.if-next-m.false

pub returns : goal.returns
returns c = record { same_length = c.loop-k.invariant.same_length; told = definitions-all c.loop-k.invariant (search rules) }
