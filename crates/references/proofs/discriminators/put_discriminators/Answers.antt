-- `references::discriminators::put_discriminators` goes through the rows in order.
-- The loop keeps that the discriminators below its row are put.
use mathlib.Core.Path.{◌≡◌, ap, ◌∙◌}
use native.Mathlib.Omega.{arith}
use lib.ListN.{length}
use Rattle.rules.specs.Rows.{row_count}
use Rattle.references.proofs.DiscriminatorLaws.{length_discriminators, discriminators_start, discriminators_next}
use Rattle.references.proofs.discriminators.put_discriminators.Goals as goal

pub loop-r-init : goal.loop-r-init
loop-r-init c = discriminators_start c.args.s.now c.args.rows.now

pub put_discriminator-requires : goal.put_discriminator-requires
put_discriminator-requires c =
    let n = ap length c.loop-r.invariant ∙ length_discriminators c.args.s.now c.args.rows.now c.loop-r.r in
    omega arith

pub loop-r-preserved : goal.loop-r-preserved
loop-r-preserved c = discriminators_next c.args.s.now c.args.rows.now c.loop-r.r c.loop-r.invariant c.put_discriminator.ensures

pub shape_of-rows : goal.shape_of-rows
shape_of-rows c = ap length c.loop-r.invariant ∙ length_discriminators c.args.s.now c.args.rows.now c.loop-r.r

pub returns : goal.returns
returns c =
    let e : c.loop-r.r ≡ row_count c.args.rows.now = omega arith in
    rw e at c.loop-r.invariant
