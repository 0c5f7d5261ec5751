-- `references::slots::resolve_rows` goes through the rows in order.
-- The loop keeps that the rows below its row are put, and what was found.
use mathlib.Core.Path.{◌≡◌}
use Rattle.references.specs.Steps.{put_rows, found_rows}
use Rattle.references.proofs.slots.resolve_rows.Given as goal

abbrev pub invariant-loop-r : goal.invariant-loop-r
invariant-loop-r l = (l.rows ≡ put_rows l.names.schema.now l.initial.rows l.r) × (l.all ≡ found_rows l.names.schema.now l.initial.rows l.r)
