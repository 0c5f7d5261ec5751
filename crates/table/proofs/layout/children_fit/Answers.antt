-- Every child is tested.
use Rattle.std.proofs.Common.{rules, ◌≡◌, ℕ, suc, ◌+◌, eqb, ap, ◌∙◌, arith}
use Rattle.grammar.specs.Notation.{all}
use Rattle.rules.specs.Rows.{kind, children}
use Rattle.rows.proofs.WalkRuns.{all-run}
use Rattle.table.proofs.layout.children_fit.Goals as goal

pub returns : goal.returns
returns c =
    let k : c.word.result + 1 ≡ suc (kind c.args.rows.now c.args.r) = omega (arith, c.word.ensures) in
    all-run _ (λ x. eqb (kind c.args.rows.now x) (c.word.result + 1)) c.all.ensures.ran (λ x b q h. search rules)
    ∙ ap (all (λ x. eqb (kind c.args.rows.now x) (c.word.result + 1))) c.children.ensures
    ∙ ap (λ (n : ℕ). all (λ x. eqb (kind c.args.rows.now x) n) (children c.args.rows.now c.args.r)) k
