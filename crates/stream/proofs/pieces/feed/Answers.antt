-- `feed` is the call: from each byte on it gives what the whole piece gives, with the bytes before on top.
-- Six ways through the loop, each a law over plain lists.
use native.Mathlib.Omega.{arith}
use lib.ListN.{length-set}
use Rattle.stream.proofs.PieceLaws.{limit-room, keep_low, whole-low, to-between, to-skipping, to_inside, hands_message, hands_refusal, hands_cleared, hands_nothing}
use Rattle.stream.proofs.pieces.feed.Goals as goal

pub loop-i-preserved-in-ToBetween : goal.loop-i-preserved-in-ToBetween
loop-i-preserved-in-ToBetween c = to-between c.loop-i.invariant c.loop-i-test.true c.in-ToBetween.ensures

pub loop-i-preserved-in-ToSkipping : goal.loop-i-preserved-in-ToSkipping
loop-i-preserved-in-ToSkipping c = to-skipping c.loop-i.invariant c.loop-i-test.true c.in-ToSkipping.ensures

pub bounds-buffer-at : goal.bounds-buffer-at
bounds-buffer-at c = omega (arith, limit-room c.loop-i.invariant, keep_low _ _ _ c.in-Keep.ensures)

pub overflow_add-at : goal.overflow_add-at
overflow_add-at c = omega (arith, limit-room c.loop-i.invariant, keep_low _ _ _ c.in-Keep.ensures)

pub run_on-e-requires : goal.run_on-e-requires
run_on-e-requires c = let h = keep_low _ _ _ c.in-Keep.ensures in (omega arith, omega arith, simp length-set (limit-room c.loop-i.invariant))

pub loop-i-preserved : goal.loop-i-preserved
loop-i-preserved c = to_inside c.loop-i.invariant c.loop-i-test.true c.in-Keep.ensures c.length_of-at.ensures c.run_on-e.ensures

pub bounds-buffer-at-in-Whole : goal.bounds-buffer-at-in-Whole
bounds-buffer-at-in-Whole c = omega (arith, limit-room c.loop-i.invariant, whole-low _ _ _ c.in-Whole.ensures)

pub overflow_add-result : goal.overflow_add-result
overflow_add-result c = omega (arith, limit-room c.loop-i.invariant, whole-low _ _ _ c.in-Whole.ensures)

pub returns-in-Whole : goal.returns-in-Whole
returns-in-Whole c = hands_message c.loop-i.invariant c.loop-i-test.true c.in-Whole.ensures c.length_of-at.ensures

pub returns-in-Lost : goal.returns-in-Lost
returns-in-Lost c = hands_refusal c.loop-i.invariant c.loop-i-test.true c.in-Lost.ensures

pub returns-in-Cleared : goal.returns-in-Cleared
returns-in-Cleared c = hands_cleared c.loop-i.invariant c.loop-i-test.true c.in-Cleared.ensures

pub returns : goal.returns
returns c = hands_nothing c.loop-i.invariant c.loop-i-test.false
