-- Every child is compared.
use Rattle.std.proofs.Common.{rules, eqb, ap, ◌∙◌}
use Rattle.rules.specs.Rules.{any}
use Rattle.rows.proofs.WalkRuns.{any-run}
use Rattle.table.proofs.chains.is_child.Goals as goal

pub returns : goal.returns
returns c = any-run _ (eqb c.args.m) c.any.ensures.ran (λ x b k h. search rules) ∙ ap (any (eqb c.args.m)) c.children.ensures
