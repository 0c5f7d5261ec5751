-- `table::layout::is_laid_out` says whether the rows fall into definitions.
-- The loop keeps that what is left from its row on decides, with enough definitions left to count.
use Prim.Native.Nat.{◌-◌}
use Rattle.table.proofs.LayoutFacts.{Left}
use Rattle.table.proofs.layout.is_laid_out.Given as goal

abbrev pub invariant-loop-r : goal.invariant-loop-r
invariant-loop-r l = Left l.rows l.r

abbrev pub decreases-loop-r : goal.decreases-loop-r
decreases-loop-r l = l.n - l.r
