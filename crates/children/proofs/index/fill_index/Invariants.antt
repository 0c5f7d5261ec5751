-- `index::fill_index` meets its contract: the lists of the definitions before row r are in the index.
-- The measure is the number of rows left.
use Prim.Native.Nat.{◌-◌}
use mathlib.Core.Path.{◌≡◌}
use lib.ListN.{length}
use Rattle.children.proofs.DefinitionLaws.{Filling}
use Rattle.children.proofs.index.fill_index.Given as goal

abbrev pub invariant-loop-r : goal.invariant-loop-r
invariant-loop-r l = (length l.index ≡ length l.initial.index) × Filling l.schema l.rows l.index l.r

abbrev pub decreases-loop-r : goal.decreases-loop-r
decreases-loop-r l = l.n - l.r
