-- `contents::content_at` meets its contract.
-- At a built-in by grid and range, elsewhere by the kind of the node.
use Rattle.readings.proofs.ContentLaws.{built_in_misfits, built_in-alone, content_array, content_object, content_scalar}
use Rattle.readings.proofs.contents.content_at.Goals as goal

pub returns-then-not-built_in_takes : goal.returns-then-not-built_in_takes
returns-then-not-built_in_takes c = built_in_misfits c.at_built_in.ensures c.if-at_built_in.true c.wide.ensures c.built_in_takes.ensures (c.if-not-built_in_takes.true)

pub returns-then-at_built_in : goal.returns-then-at_built_in
returns-then-at_built_in c = built_in-alone c.at_built_in.ensures c.if-at_built_in.true c.wide.ensures c.built_in_takes.ensures (c.if-not-built_in_takes.false)

pub returns-in-8 : goal.returns-in-8
returns-in-8 c = content_array _ _ _ _ c.at_built_in.ensures c.if-at_built_in.false c.node_word.ensures c.in-8.is c.array_content.ensures

pub returns-in-9 : goal.returns-in-9
returns-in-9 c = content_object _ _ _ _ c.at_built_in.ensures c.if-at_built_in.false c.node_word.ensures c.in-9.is c.object_content.ensures

pub returns-in_default : goal.returns-in_default
returns-in_default c = content_scalar _ _ _ _ c.at_built_in.ensures c.if-at_built_in.false c.node_word.ensures c.in_default.in_default-own.rest.0.1 c.in_default.in_default-own.rest.1 c.scalar_content.ensures
