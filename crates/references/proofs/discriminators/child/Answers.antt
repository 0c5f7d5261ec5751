-- `references::discriminators::child` compares names child by child.
use Prim.Native.Nat.{ℕ}
use mathlib.Core.Bool.{Bool}
use mathlib.Core.Path.{◌∙◌, ap}
use borrow.Author.Rules.{rules}
use Rattle.rules.specs.Names.{same_name}
use Rattle.rules.specs.Rows.{name_of, children}
use Rattle.rows.proofs.WalkRuns.{first_that, find-run}
use Rattle.references.proofs.DiscriminatorLaws.{child_named}
use Rattle.references.proofs.discriminators.child.Goals as goal

pub returns : goal.returns
returns c =
    let f : ℕ → Bool = λ m. same_name c.args.name.now (name_of c.args.s.now c.args.rows.now m) in
    find-run _ f _ c.find.ensures.ran (λ x b k h. search rules) ∙ ap (first_that f) c.children.ensures ∙ child_named c.args.s.now c.args.rows.now c.args.name.now (children c.args.rows.now c.args.r)
