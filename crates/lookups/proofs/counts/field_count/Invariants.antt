-- `counts::field_count` meets its contract: the fields passed are counted, the others are left.
-- The measure is the nodes left.
use Prim.Native.Nat.{suc, ◌-◌}
use Rattle.lookups.proofs.KeyCounts.{CountLeft}
use Rattle.lookups.proofs.counts.field_count.Given as goal

abbrev pub invariant-loop-a : goal.invariant-loop-a
invariant-loop-a l = CountLeft l.nodes (suc l.k) l.a l.end l.count

abbrev pub decreases-loop-a : goal.decreases-loop-a
decreases-loop-a l = l.end - l.a
