-- all that is answered is written
use Rattle.std.proofs.Common.{◌≡◌, []}
use Rattle.console.proofs.turns.take_input.Given as goal

abbrev pub invariant-loop-turn : goal.invariant-loop-turn
invariant-loop-turn g l = l.rooms.out ≡ []
