-- `table::names::good_names` says whether rule 5 holds.
-- The loop tests every row.
use Rattle.rows.proofs.Walks.{so, up_to_hit, up_to-on, up_to-end}
use Rattle.table.proofs.DefinitionFacts.{good_names-up_to}
use Rattle.table.proofs.names.good_names.Goals as goal

pub loop-r-init : goal.loop-r-init
loop-r-init c = good_names-up_to _ _

pub returns-then-not-name_fits : goal.returns-then-not-name_fits
returns-then-not-name_fits c = up_to_hit _ _ _ c.loop-r.invariant c.loop-r-test.true (so c.name_fits.ensures c.if-not-name_fits.true)

pub loop-r-preserved : goal.loop-r-preserved
loop-r-preserved c = up_to-on _ _ _ c.loop-r.invariant c.loop-r-test.true (so c.name_fits.ensures c.if-not-name_fits.false)

pub returns : goal.returns
returns c = up_to-end _ _ _ c.loop-r.invariant c.loop-r-test.false
