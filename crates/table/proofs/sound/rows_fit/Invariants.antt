-- `rows_fit` meets its contract: of the rows from the first on, what is left to look at.
-- At each row its unused words and its references are asked.
use mathlib.Core.Bool.{◌&&◌}
use Rattle.rules.specs.Sound.{rest_zero, references_fit}
use Rattle.table.specs.RuleParts.{rows_fit}
use Rattle.rows.proofs.LoopLaws.{AllLeft}
use Rattle.table.proofs.sound.rows_fit.Given as goal

abbrev pub invariant-loop-r : goal.invariant-loop-r
invariant-loop-r l = AllLeft (rows_fit l.rows) (λ x. rest_zero l.rows x && references_fit l.rows x) l.r l.r-end
