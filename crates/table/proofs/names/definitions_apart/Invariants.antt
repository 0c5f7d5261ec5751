-- `table::names::definitions_apart` says whether no two definitions, and no definition and built-in, have names that clash.
-- The definitions from the loop's row on decide what all do.
use Rattle.table.specs.Definitions.{definitions_clear}
use Rattle.table.proofs.DistinctLaws.{ClearFrom}
use Rattle.table.proofs.names.definitions_apart.Given as goal

abbrev pub invariant-loop-r : goal.invariant-loop-r
invariant-loop-r l = ClearFrom l.table.schema.now l.table.rows.now (definitions_clear l.table.schema.now l.table.rows.now) l.links l.r
