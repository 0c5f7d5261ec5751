-- `table::names::index_definitions` adds the definitions to an index, from the last to the first.
-- Those from the loop's row on are in it.
use mathlib.Core.Path.{refl}
use native.Mathlib.Omega.{arith}
use Rattle.table.proofs.DistinctLaws.{index-start, index_on, index-end}
use borrow.Author.Rules.{rules}
use Rattle.table.proofs.names.index_definitions.Goals as goal

pub loop-r-init : goal.loop-r-init
loop-r-init c = (refl, index-start _ _ _ c.requires.2)

pub index_row-requires : goal.index_row-requires
index_row-requires c = let b = c.loop-r in let p = c.requires in (omega (arith, b.invariant.0, b.invariant.1.high, p.0), omega (arith, b.invariant.0, p.1))

pub loop-r-preserved : goal.loop-r-preserved
loop-r-preserved c = (search rules, index_on _ _ c.loop-r.invariant.1 c.loop-r-test.true c.index_row.ensures)

pub returns : goal.returns
returns c = index-end _ _ c.loop-r.invariant.1 c.loop-r-test.false (omega (arith, c.loop-r.invariant.0, c.requires.0))
