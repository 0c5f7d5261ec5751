-- `names_within` meets its contract: of the rows from the first on, what is left to look at.
-- At each row the end of its name is asked.
use Prim.Native.Nat.{◌+◌}
use lib.Dec.{leb}
use lib.ListN.{length}
use Rattle.rules.specs.Rows.{start, size}
use Rattle.table.specs.RuleParts.{names_within}
use Rattle.rows.proofs.LoopLaws.{AllLeft}
use Rattle.table.proofs.sound.names_within.Given as goal

abbrev pub invariant-loop-r : goal.invariant-loop-r
invariant-loop-r l = AllLeft (names_within l.schema l.rows) (λ x. leb (start l.rows x + size l.rows x) (length l.schema)) l.r l.r-end
