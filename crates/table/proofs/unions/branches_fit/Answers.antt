-- At each branch its rule is asked.
use Rattle.std.proofs.Common.{rules, ap, ◌∙◌}
use Rattle.grammar.specs.Notation.{all}
use Rattle.table.specs.RuleParts.{branch_new}
use Rattle.rows.proofs.WalkRuns.{all-run}
use Rattle.table.proofs.unions.branches_fit.Goals as goal

pub returns : goal.returns
returns c =
    all-run _ (branch_new c.args.table.schema.now c.args.table.rows.now c.args.e c.args.base) c.all.ensures.ran (λ b t k h. search rules)
    ∙ ap (all (branch_new c.args.table.schema.now c.args.table.rows.now c.args.e c.args.base)) c.children.ensures
