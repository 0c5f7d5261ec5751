-- `table::layout::is_laid_out` says whether the rows fall into definitions.
-- The loop keeps that what is left from its row on decides, with enough definitions left to count.
use native.Mathlib.Omega.{arith}
use Rattle.rules.proofs.TableRows.{past_children-above}
use Rattle.rows.proofs.Walks.{so}
use Rattle.table.proofs.LayoutFacts.{left-all, left_stuck, left-on, left-none}
use Rattle.table.proofs.layout.is_laid_out.Goals as goal

pub loop-r-init : goal.loop-r-init
loop-r-init c = left-all _

pub returns-then-not-definition_at : goal.returns-then-not-definition_at
returns-then-not-definition_at c = left_stuck _ _ c.loop-r.invariant c.loop-r-test.true (so c.definition_at.ensures c.if-not-definition_at.true)

pub loop-r-smaller : goal.loop-r-smaller
loop-r-smaller c = omega (arith, c.past_children-r.ensures, past_children-above c.args.rows.now c.loop-r.r)

pub loop-r-preserved : goal.loop-r-preserved
loop-r-preserved c = left-on _ _ c.loop-r.invariant _ c.past_children-r.ensures c.loop-r-test.true (so c.definition_at.ensures c.if-not-definition_at.false)

pub returns : goal.returns
returns c = left-none _ _ c.loop-r.invariant c.loop-r-test.false
