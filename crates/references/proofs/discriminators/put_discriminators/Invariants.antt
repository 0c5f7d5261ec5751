-- `references::discriminators::put_discriminators` goes through the rows in order.
-- The loop keeps that the discriminators below its row are put.
use mathlib.Core.Path.{◌≡◌}
use Rattle.references.specs.Discriminators.{put_discriminators}
use Rattle.references.proofs.discriminators.put_discriminators.Given as goal

abbrev pub invariant-loop-r : goal.invariant-loop-r
invariant-loop-r l = l.rows ≡ put_discriminators l.s l.r l.initial.rows
