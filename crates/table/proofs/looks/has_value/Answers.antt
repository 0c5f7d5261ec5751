-- Every value is looked at, by its name.
use Rattle.std.proofs.Common.{rules, sym, ap, ◌∙◌}
use Rattle.rules.specs.Rows.{children, name_of}
use Rattle.rules.specs.Rules.{any}
use Rattle.rows.proofs.ListLaws.{any-map}
use Rattle.rows.proofs.WalkRuns.{any-run}
use Rattle.table.specs.Looks.{looks_like, enum_looks}
use Rattle.table.proofs.looks.has_value.Goals as goal

pub returns : goal.returns
unfolding enum_looks
returns c =
    any-run _ (λ v. looks_like c.args.like (name_of c.args.schema.now c.args.rows.now v)) c.any.ensures.ran (λ v b k h. search rules)
    ∙ ap (any (λ v. looks_like c.args.like (name_of c.args.schema.now c.args.rows.now v))) c.children.ensures
    ∙ sym (any-map (name_of c.args.schema.now c.args.rows.now) (looks_like c.args.like) (children c.args.rows.now c.args.e))
