-- `table::names::distinct_names` says whether rule 6 holds.
-- Of the definitions by an index of them, and then of every row's children.
use mathlib.Core.Path.{◌∙◌}
use Rattle.rows.proofs.Walks.{so}
use Rattle.table.proofs.DistinctLaws.{distinct_not, distinct_rest}
use Rattle.table.proofs.names.distinct_names.Goals as goal

pub returns-then-not-definitions_apart : goal.returns-then-not-definitions_apart
returns-then-not-definitions_apart c = distinct_not _ _ (so c.definitions_apart.ensures c.if-not-definitions_apart.true)

pub returns : goal.returns
returns c = c.children_apart.ensures ∙ distinct_rest _ _ (so c.definitions_apart.ensures c.if-not-definitions_apart.false)
