-- `table::names::definitions_apart` says whether no two definitions, and no definition and built-in, have names that clash.
-- The definitions from the loop's row on decide what all do.
use native.Mathlib.Omega.{arith}
use Rattle.table.proofs.DistinctLaws.{clear-start, clear_hit, clear_next, clear-end}
use Rattle.table.proofs.names.definitions_apart.Goals as goal

pub loop-r-init : goal.loop-r-init
loop-r-init c = clear-start _ _ c.requires.1

pub returns-then-not-definition_apart : goal.returns-then-not-definition_apart
returns-then-not-definition_apart c = clear_hit _ _ c.loop-r.invariant (omega arith) c.requires.1.room c.definition_apart.ensures (c.if-not-definition_apart.true)

pub loop-r-preserved : goal.loop-r-preserved
loop-r-preserved c = clear_next _ _ c.loop-r.invariant (omega arith) c.requires.1.room c.definition_apart.ensures (c.if-not-definition_apart.false)

pub returns : goal.returns
returns c = clear-end _ _ c.loop-r.invariant (omega arith)
