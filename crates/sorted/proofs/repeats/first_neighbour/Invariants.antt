-- `repeats::first_neighbour` meets its contract: the list is in order so far, and the best is the least so far.
use Rattle.std.proofs.Common.{length}
use Rattle.sorted.specs.Orders.{stands_at}
use Rattle.sorted.specs.Lists.{Least}
use Rattle.sorted.proofs.repeats.first_neighbour.Given as goal

abbrev pub invariant-loop-k : goal.invariant-loop-k
invariant-loop-k l = Least (stands_at l.spans.sense l.spans.text.now l.spans.words.now) l.list l.k (length l.list) l.best
