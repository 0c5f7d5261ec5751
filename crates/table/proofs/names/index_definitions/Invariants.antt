-- `table::names::index_definitions` adds the definitions to an index, from the last to the first.
-- Those from the loop's row on are in it.
use mathlib.Core.Path.{◌≡◌}
use lib.ListN.{length}
use Rattle.table.proofs.DistinctLaws.{IndexFrom}
use Rattle.table.proofs.names.index_definitions.Given as goal

abbrev pub invariant-loop-r : goal.invariant-loop-r
invariant-loop-r l = (length l.links ≡ length l.initial.links) × IndexFrom l.schema l.rows l.heads l.links l.r
