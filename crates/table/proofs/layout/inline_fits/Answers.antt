-- `table::layout::inline_fits` says whether the children of a row's inline struct fit.
use mathlib.Core.Path.{ap}
use mathlib.Core.Bool.{not}
use Rattle.table.proofs.LayoutFacts.{inline-none, inline-fit}
use Rattle.table.proofs.layout.inline_fits.Goals as goal

pub returns-then-not-owns_struct : goal.returns-then-not-owns_struct
returns-then-not-owns_struct c = inline-none _ _ c.owns_struct.ensures (ap not c.if-not-owns_struct.true)

pub returns : goal.returns
returns c = inline-fit _ _ c.owns_struct.ensures (ap not c.if-not-owns_struct.false) c.next_row.ensures c.children_fit.ensures
