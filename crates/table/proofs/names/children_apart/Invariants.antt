-- `table::names::children_apart` says whether in each list of children no two names are the same.
-- The loop tests every row.
use mathlib.Core.Path.{◌≡◌}
use lib.ListN.{length}
use Rattle.grammar.specs.Notation.{apart}
use Rattle.rules.specs.Names.{clash}
use Rattle.rules.specs.Rows.{children}
use Rattle.rules.specs.Rules.{names_of}
use Rattle.table.specs.Definitions.{children_apart}
use Rattle.rows.proofs.Walks.{up_to}
use Rattle.table.proofs.names.children_apart.Given as goal

abbrev pub invariant-loop-r : goal.invariant-loop-r
invariant-loop-r l =
    (length l.links ≡ length l.initial.links) × (children_apart l.table.schema.now l.table.rows.now ≡ up_to (λ x. apart clash (names_of l.table.schema.now l.table.rows.now (children l.table.rows.now x))) l.r l.r-end)
