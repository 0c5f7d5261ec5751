-- Of the alternatives, those left to look at.
use Rattle.std.proofs.Common.{sym, ap, ◌∙◌}
use Rattle.rules.specs.Serving.ReadingOf.{of_kind}
use Rattle.builtins.specs.Kinds.{kind_in}
use Rattle.readings.proofs.types.alternative.Goals as goal

pub loop-i-init : goal.loop-i-init
loop-i-init c = ap (of_kind c.args.rows.now (kind_in c.args.k)) (sym (c.into_iter-i-iterator.ensures.into_iter_gives ∙ c.children-i-items.ensures))

pub returns : goal.returns
returns c = let e = c.loop-i.invariant in let n = c.in-None.ensures.steps.0 in rw (e, n)
