-- `table::layout::definition_at` says whether a definition begins at a row.
-- By its kind, its inline struct's children and its own.
use Rattle.rows.proofs.Walks.{so}
use Rattle.table.proofs.LayoutFacts.{definition_no, definition_inline, definition_fit}
use Rattle.table.proofs.layout.definition_at.Goals as goal

pub returns-then-not-is_definition : goal.returns-then-not-is_definition
returns-then-not-is_definition c = definition_no c.args.rows.now c.args.r (so c.is_definition.ensures c.if-not-is_definition.true)

pub returns-then-not-inline_fits : goal.returns-then-not-inline_fits
returns-then-not-inline_fits c = definition_inline _ _ (so c.is_definition.ensures c.if-not-is_definition.false) (so c.inline_fits.ensures c.if-not-inline_fits.true)

pub returns : goal.returns
returns c = definition_fit _ _ (so c.is_definition.ensures c.if-not-is_definition.false) (so c.inline_fits.ensures c.if-not-inline_fits.false) c.children_fit.ensures
