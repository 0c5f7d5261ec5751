-- `table::names::name_fits` says whether a row is an inline struct or has a good name.
-- By the row's kind and name.
use Rattle.rules.specs.Kinds.{value_kind, branch_kind}
use mathlib.Core.Path.{ap, ◌∙◌}
use mathlib.Core.Bool.{◌||◌}
use lib.Dec.{eqb}
use Rattle.rows.proofs.Walks.{so}
use Rattle.table.proofs.DefinitionFacts.{unnamed-fits, name_fits-at}
use Rattle.table.proofs.names.name_fits.Goals as goal

pub returns-then-is_unnamed : goal.returns-then-is_unnamed
returns-then-is_unnamed c = let a = c.args in unnamed-fits a.schema.now a.rows.now a.r (so c.is_unnamed.ensures c.if-is_unnamed.true)

pub returns : goal.returns
returns c =
    let a = c.args in
    name_fits-at a.schema.now a.rows.now a.r _ _ _ (so c.is_unnamed.ensures c.if-is_unnamed.false) c.name_of.ensures
    (c.takes_digit.ensures ∙ ap (λ k. eqb k value_kind || eqb k branch_kind) c.word.ensures) c.good_name.ensures
