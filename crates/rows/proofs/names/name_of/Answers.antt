-- `table::names::name_of` gives the bytes that a row's name takes.
-- By the words that say where it starts and how long it is.
use Rattle.rules.specs.Rows.{name_of}
use Rattle.rows.proofs.names.name_of.Goals as goal

pub returns : goal.returns
unfolding name_of
returns c = cc
