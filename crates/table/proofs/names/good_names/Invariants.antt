-- `names::good_names` says whether rule 5 holds.
-- The loop tests every row.
use mathlib.Core.Path.{◌≡◌}
use Rattle.rules.specs.Rules.{good_names}
use Rattle.table.specs.Definitions.{name_fits}
use Rattle.rows.proofs.Walks.{up_to}
use Rattle.table.proofs.names.good_names.Given as goal

abbrev pub invariant-loop-r : goal.invariant-loop-r
invariant-loop-r l = good_names l.schema l.rows ≡ up_to (name_fits l.schema l.rows) l.r l.r-end
