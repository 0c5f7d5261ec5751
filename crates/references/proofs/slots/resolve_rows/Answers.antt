-- `references::slots::resolve_rows` goes through the rows in order.
-- The loop keeps that the rows below its row are put, and what was found.
use mathlib.Core.Path.{◌≡◌, refl, ap, ◌∙◌}
use native.Mathlib.Omega.{arith}
use lib.ListN.{length}
use Rattle.rules.specs.Rows.{row_count}
use Rattle.references.proofs.SlotLaws.{length-rows, rows_start, rows_next}
use Rattle.references.proofs.slots.resolve_rows.Goals as goal

pub loop-r-init : goal.loop-r-init
loop-r-init c = rows_start c.args.names.now.schema.now c.args.rows.now

pub resolve_row-all-requires : goal.resolve_row-all-requires
resolve_row-all-requires c =
    let n = ap length c.loop-r.invariant.0 ∙ length-rows c.args.names.now.schema.now c.args.rows.now c.loop-r.r in
    (omega arith, omega arith)

pub loop-r-preserved : goal.loop-r-preserved
loop-r-preserved c =
    rows_next c.args.names.now.schema.now c.args.rows.now c.loop-r.r c.requires.1 c.loop-r.invariant.0 c.loop-r.invariant.1 c.resolve_row-all.ensures refl

pub shape_of-rows : goal.shape_of-rows
shape_of-rows c = ap length c.loop-r.invariant.0 ∙ length-rows c.args.names.now.schema.now c.args.rows.now c.loop-r.r

pub returns : goal.returns
returns c =
    let e : c.loop-r.r ≡ row_count c.args.rows.now = omega arith in
    (rw e at c.loop-r.invariant.0, rw e at c.loop-r.invariant.1)
