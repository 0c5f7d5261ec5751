-- `feed` is the call: from each byte on it gives what the whole piece gives, with the bytes before on top.
-- Six ways through the loop, each a law over plain lists.
use Prim.Native.Nat.{◌-◌}
use lib.ListN.{length}
use Rattle.stream.proofs.PieceLaws.{Going}
use Rattle.stream.proofs.pieces.feed.Given as goal

abbrev pub invariant-loop-i : goal.invariant-loop-i
invariant-loop-i l = Going l.limit l.initial.buffer l.piece l.initial.state l.i l.state l.buffer

abbrev pub decreases-loop-i : goal.decreases-loop-i
decreases-loop-i l = length l.piece - l.i
