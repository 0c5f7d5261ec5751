-- The rows before the loop's row are in the index, and what is left decides.
use Rattle.std.proofs.Common.{◌≡◌, refl, ◌∙◌, arith}
use Rattle.rules.specs.Rows.{walk}
use Rattle.rows.proofs.IndexLaws.{run-start, run-within, run_hit, run_on, run_end}
use Rattle.rows.proofs.hashes.HashedRows.listed_apart.Goals as goal

pub loop-r-init : goal.loop-r-init
loop-r-init c =
    let e : c.into_iter-r-iterator.result ≡ walk c.args.self.rows.now c.args.a c.args.n = c.into_iter-r-iterator.ensures.into_iter_gives ∙ c.walk_from-r-items.ensures in
    record { room = refl; run = rw e (run-start _ _ _ _ _ c.requires.1 c.requires.3) }

pub add_new-requires : goal.add_new-requires
add_new-requires c = let h = run-within _ _ c.loop-r.invariant.run c.in-Some.ensures.steps in (omega (arith, h, c.loop-r.invariant.room), omega (arith, c.requires.2, c.loop-r.invariant.room))

pub returns-then-not-add_new : goal.returns-then-not-add_new
returns-then-not-add_new c = run_hit _ _ c.loop-r.invariant.run c.in-Some.ensures.steps c.loop-r.invariant.room c.add_new.ensures c.if-not-add_new.true

pub loop-r-preserved : goal.loop-r-preserved
loop-r-preserved c = record {
  room = c.add_new.auto.links ∙ c.loop-r.invariant.room;
  run = run_on _ _ c.loop-r.invariant.run c.in-Some.ensures.steps c.loop-r.invariant.room c.add_new.ensures c.if-not-add_new.false;
}

pub returns : goal.returns
returns c = run_end _ _ c.loop-r.invariant.run c.in-None.ensures.steps.0
