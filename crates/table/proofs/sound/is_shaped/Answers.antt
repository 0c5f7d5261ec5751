-- `is_shaped` meets its contract.
-- The first of three tests that fails decides.
use Rattle.table.specs.RuleParts.{shaped}
use Rattle.rows.proofs.Walks.{so}
use Rattle.table.proofs.sound.is_shaped.Goals as goal

pub returns-then-not-names_within : goal.returns-then-not-names_within
unfolding shaped
returns-then-not-names_within c = rw (so c.names_within.ensures c.if-not-names_within.true)

pub returns-then-not-is_laid_out : goal.returns-then-not-is_laid_out
unfolding shaped
returns-then-not-is_laid_out c =
    rw (
      so c.names_within.ensures c.if-not-names_within.false,
      so c.is_laid_out.ensures c.if-not-is_laid_out.true,
    )

pub returns : goal.returns
unfolding shaped
returns c =
    rw (
      so c.names_within.ensures c.if-not-names_within.false,
      so c.is_laid_out.ensures c.if-not-is_laid_out.false,
    ) c.rows_fit.ensures
