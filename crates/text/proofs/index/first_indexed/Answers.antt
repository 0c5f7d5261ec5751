-- `index::first_indexed` meets its contract: the keys before node i are listed, and repeat none.
-- The measure is the nodes left.
use native.Mathlib.Omega.{arith}
use mathlib.Core.Path.{refl, ap, ◌∙◌, subst}
use Rattle.std.specs.Prelude.{Ok}
use Rattle.text.specs.Index.{LooksUp}
use Rattle.text.proofs.IndexLaws.{listing_start, listing_hit, listing-on, listing_stuck, listing-end}
use Rattle.text.proofs.index.first_indexed.Goals as goal

pub loop-i-init : goal.loop-i-init
loop-i-init c = (omega arith, listing_start refl)

pub returns-then-branch : goal.returns-then-branch
returns-then-branch c =
    listing_hit c.loop-i.invariant.1 c.loop-i-test.true c.key_hash-hash.ensures c.first-head.ensures
    (subst (LooksUp _ _ _ _ _ _ _ _) (c.in_ok-look_up.was ∙ ap Ok c.if-branch.true) c.look_up.ensures)

pub returns-then-n-i : goal.returns-then-n-i
returns-then-n-i c = listing_stuck c.loop-i.invariant.1 c.loop-i-test.true c.node_number-n.ensures c.if-n-i.true

pub loop-i-preserved : goal.loop-i-preserved
loop-i-preserved c =
    let l = c.loop-i in (
      omega arith,
      listing-on l.invariant.1 c.loop-i-test.true c.key_hash-hash.ensures c.first-head.ensures
          (subst (LooksUp _ _ _ _ _ _ _ _) (c.in_ok-look_up.was ∙ ap Ok c.if-branch.false) c.look_up.ensures) (omega (arith, c.requires.0)) c.add.ensures
          c.put_word.ensures c.node_number-n.ensures,
    )

pub returns : goal.returns
returns c = listing-end c.loop-i.invariant.1 c.loop-i-test.false
