-- `rows_fit` meets its contract: of the rows from the first on, what is left to look at.
-- At each row its unused words and its references are asked.
use mathlib.Core.Path.{refl}
use native.Mathlib.Omega.{arith}
use Rattle.table.specs.RuleParts.{rows_fit}
use Rattle.rows.proofs.Walks.{so}
use Rattle.rows.proofs.LoopLaws.{every-starts, all-fails, all-on, all-ends}
use Rattle.table.proofs.sound.rows_fit.Goals as goal

pub loop-r-init : goal.loop-r-init
unfolding rows_fit
loop-r-init c = every-starts c.args.rows.now _ refl

pub returns-then-not-rest_zero : goal.returns-then-not-rest_zero
returns-then-not-rest_zero c = all-fails c.loop-r.invariant (omega arith) (rw (so c.rest_zero.ensures c.if-not-rest_zero.true))

pub returns-then-not-references_fit : goal.returns-then-not-references_fit
returns-then-not-references_fit c =
    all-fails c.loop-r.invariant (omega arith)
    (rw (so c.rest_zero.ensures c.if-not-rest_zero.false)
    (so c.references_fit.ensures c.if-not-references_fit.true))

pub loop-r-preserved : goal.loop-r-preserved
loop-r-preserved c =
    all-on c.loop-r.invariant (omega arith)
    (rw (so c.rest_zero.ensures c.if-not-rest_zero.false)
    (so c.references_fit.ensures c.if-not-references_fit.false))

pub returns : goal.returns
returns c = all-ends c.loop-r.invariant (omega arith)
