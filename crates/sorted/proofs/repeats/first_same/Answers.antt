-- `repeats::first_same` meets its contract: by the check of the list alone; nothing is used of the sorting.
use native.Mathlib.Omega.{arith}
use Rattle.std.proofs.lemmas.Grind.{common_steps}
use mathlib.Core.Path.{◌≡◌}
use lib.ListN.{length}
use Rattle.sorted.proofs.ListLaws.{neighbours_find}
use Rattle.sorted.proofs.repeats.first_same.Goals as goal

pub returns : goal.returns
returns c =
    let e : length c.sort.new.list ≡ c.args.n = grind (arith, common_steps) in
    neighbours_find _ (c.all_placed.ensures (c.if-not-all_placed.false)) (rw e at c.first_neighbour.ensures)
