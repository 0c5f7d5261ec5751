-- `rule::every_row_fits` meets its contract: of the rows from the first on, what is left to look at.
-- At each row of the kind that the rule is on it is asked.
use mathlib.Core.Path.{◌≡◌}
use lib.ListN.{length}
use Rattle.rows.proofs.LoopLaws.{KindLeft}
use Rattle.table.specs.Kept.{fits_rule, keeps_rule, Lent}
use Rattle.table.proofs.rule.every_row_fits.Given as goal

abbrev pub invariant-loop-r : goal.invariant-loop-r
invariant-loop-r l = (length l.words ≡ length l.initial.words) × Lent l.rule l.schema l.rows l.words × KindLeft (keeps_rule l.rule l.schema l.rows) l.rows l.k (fits_rule l.rule l.schema l.rows) l.r l.r-end
