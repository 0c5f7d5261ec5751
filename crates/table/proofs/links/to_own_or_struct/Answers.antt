-- `to_own_or_struct` meets its contract.
-- The first of two tests that holds decides.
use mathlib.Core.Path.{sym, ◌∙◌}
use Rattle.table.proofs.links.to_own_or_struct.Goals as goal

pub returns-then-owns_struct : goal.returns-then-owns_struct
returns-then-owns_struct c = rw (c.if-owns_struct.true, sym c.owns_struct.ensures ∙ c.if-owns_struct.true)

pub returns-else-owns_struct : goal.returns-else-owns_struct
returns-else-owns_struct c = rw (sym c.owns_struct.ensures ∙ c.if-owns_struct.false) c.to_struct.ensures
