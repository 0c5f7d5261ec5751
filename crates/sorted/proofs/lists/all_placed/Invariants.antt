-- `lists::all_placed` meets its contract: those passed are placed.
use Rattle.sorted.proofs.ListLaws.{PlacedTo}
use Rattle.sorted.proofs.lists.all_placed.Given as goal

abbrev pub invariant-loop-i : goal.invariant-loop-i
invariant-loop-i l = PlacedTo l.list l.n l.places l.i
