-- `definitions_fit` meets its contract.
-- The first of four tests that fails decides. Hashes tell nothing of enums, so rule 10 begins with them.
use Rattle.rows.proofs.Walks.{so}
use Rattle.table.specs.RuleParts.{definitions_fit}
use Rattle.table.proofs.LookLaws.{hashes_looked}
use Rattle.table.proofs.sound.definitions_fit.Goals as goal

pub returns-then-not-every_row_fits : goal.returns-then-not-every_row_fits
unfolding definitions_fit
returns-then-not-every_row_fits c = rw (so c.every_row_fits.ensures.is c.if-not-every_row_fits.true)

pub returns-then-not-every_row_fits-2 : goal.returns-then-not-every_row_fits-2
unfolding definitions_fit
returns-then-not-every_row_fits-2 c = rw (so c.every_row_fits.ensures.is c.if-not-every_row_fits.false, so c.every_row_fits-2.ensures.is c.if-not-every_row_fits-2.true)

pub every_row_fits-requires-3 : goal.every_row_fits-requires-3
every_row_fits-requires-3 c = (c.requires.0, hashes_looked c.every_row_fits-2.ensures.lent c.shared_slice_known-1.given)

pub returns-then-not-every_row_fits-3 : goal.returns-then-not-every_row_fits-3
unfolding definitions_fit
returns-then-not-every_row_fits-3 c = rw (so c.every_row_fits.ensures.is c.if-not-every_row_fits.false, so c.every_row_fits-2.ensures.is c.if-not-every_row_fits-2.false, so c.every_row_fits-3.ensures.is c.if-not-every_row_fits-3.true)

pub returns : goal.returns
unfolding definitions_fit
returns c = rw (so c.every_row_fits.ensures.is c.if-not-every_row_fits.false, so c.every_row_fits-2.ensures.is c.if-not-every_row_fits-2.false, so c.every_row_fits-3.ensures.is c.if-not-every_row_fits-3.false) c.every_row_fits-4.ensures.is
