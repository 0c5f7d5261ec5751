-- `built_in` meets its contract: the names before the loop's number are not the one asked for.
use Rattle.builtins.proofs.NameLaws.{unmet_start, unmet_hit, unmet_on, unmet_end}
use Rattle.builtins.proofs.names.built_in.Goals as goal

pub loop-b-init : goal.loop-b-init
loop-b-init c = unmet_start

pub returns-then-same_bytes : goal.returns-then-same_bytes
returns-then-same_bytes c = unmet_hit c.loop-b.invariant c.loop-b-test.true c.name_in.ensures c.same_bytes.ensures c.if-same_bytes.true

pub loop-b-preserved : goal.loop-b-preserved
loop-b-preserved c = unmet_on c.loop-b.invariant c.loop-b-test.true c.name_in.ensures c.same_bytes.ensures c.if-same_bytes.false

pub returns : goal.returns
returns c = unmet_end c.loop-b.invariant c.loop-b-test.false
