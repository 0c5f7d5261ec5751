-- `index::look_up` meets its contract: the keys passed have other hashes.
use native.Mathlib.Omega.{arith}
use Rattle.text.proofs.IndexLaws.{walk_end, walk_hit, walk-on}
use Rattle.text.proofs.index.look_up.Goals as goal

pub returns-then-word-eq0 : goal.returns-then-word-eq0
returns-then-word-eq0 c = walk_end c.loop-left.invariant c.if-word-eq0.true

pub returns-then-is_same : goal.returns-then-is_same
returns-then-is_same c = walk_hit c.loop-left.invariant (omega arith) c.is_same.ensures c.if-is_same.true

pub loop-left-preserved : goal.loop-left-preserved
loop-left-preserved c =
    walk-on c.loop-left.invariant (omega arith) c.number_at.ensures c.if-number_at-hash.false c.next-word.ensures
