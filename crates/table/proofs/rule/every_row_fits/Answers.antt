-- `rule::every_row_fits` meets its contract: of the rows from the first on, what is left to look at.
-- At each row of the kind that the rule is on it is asked.
use mathlib.Core.Path.{refl, sym, ◌∙◌, subst}
use native.Mathlib.Omega.{arith}
use Rattle.rows.proofs.Walks.{so}
use Rattle.rows.proofs.LoopLaws.{kind-fails, kind-on, kind-other, kind-ends}
use Rattle.table.specs.Kept.{Lent}
use Rattle.table.proofs.RuleLaws.{rule_starts}
use Rattle.table.proofs.rule.every_row_fits.Goals as goal
use Rattle.table.proofs.rule.every_row_fits.Goals.{then-word-k+else-not-row_fits, else-word-k}

pub loop-r-init : goal.loop-r-init
loop-r-init c = (refl, c.requires.1, rule_starts c.args.rule c.args.schema.now c.args.rows.now c.ruled_kind-k.ensures)

pub returns-then-not-row_fits : goal.returns-then-not-row_fits
returns-then-not-row_fits c = record { is = kind-fails c.loop-r.invariant.2 (omega arith) c.word.ensures c.if-word-k.true (so c.row_fits.ensures.is c.if-not-row_fits.true); lent = c.row_fits.ensures.lent }

pub loop-r-preserved : goal.loop-r-preserved
loop-r-preserved c =
    let a = c.args in
    elim c.if-word-k.branch [
      | then-word-k+else-not-row_fits w ↦ (
        c.if-word-k.auto.words ∙ c.loop-r.invariant.0,
        subst (Lent a.rule a.schema.now a.rows.now) (sym w.words-is) w.row_fits.ensures.lent,
        kind-on c.loop-r.invariant.2 (omega arith) c.word.ensures w.if-word-k.true (so w.row_fits.ensures.is w.if-not-row_fits.false),
      )
      | else-word-k w ↦ (
        c.if-word-k.auto.words ∙ c.loop-r.invariant.0,
        subst (Lent a.rule a.schema.now a.rows.now) (sym w.words-is) c.loop-r.invariant.1,
        kind-other c.loop-r.invariant.2 (omega arith) c.word.ensures w.if-word-k.false,
      )
    ]

pub returns : goal.returns
returns c = record { is = kind-ends c.loop-r.invariant.2 (omega arith); lent = c.loop-r.invariant.1 }
