-- Every child is tested, by its name.
use Rattle.std.proofs.Common.{rules, ℕ, List, sym, ap, ◌∙◌}
use Rattle.rules.specs.Names.{same_name}
use Rattle.rules.specs.Rows.{children, name_of}
use Rattle.rules.specs.Rules.{any, names_of}
use Rattle.rows.proofs.ListLaws.{any-map}
use Rattle.rows.proofs.WalkRuns.{any-run}
use Rattle.table.specs.Chains.{has_child}
use Rattle.table.proofs.chains.has_child.Goals as goal

pub returns : goal.returns
unfolding has_child
returns c =
    let named : ℕ → List ℕ = name_of c.args.table.schema.now c.args.table.rows.now in
    any-run _ (λ i. same_name c.of-name.result.name.now (named i)) c.any.ensures.ran (λ i b k h. search rules)
    ∙ ap (any (λ i. same_name c.of-name.result.name.now (named i))) c.children.ensures
    ∙ sym (any-map named (same_name c.of-name.result.name.now) (children c.args.table.rows.now c.args.r))
    ∙ ap (λ x. any (same_name x) (names_of c.args.table.schema.now c.args.table.rows.now (children c.args.table.rows.now c.args.r))) (c.of-name.ensures ∙ c.name_of.ensures)
