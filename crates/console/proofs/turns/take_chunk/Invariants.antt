-- there is room for another line; the measure is what is left of the chunk
use Rattle.std.proofs.Common.{◌+◌, ◌≤◌, length}
use Rattle.console.specs.Serving.Steps.{longest_line, out_room}
use Rattle.console.proofs.turns.take_chunk.Given as goal

abbrev pub invariant-loop-rest : goal.invariant-loop-rest
invariant-loop-rest g l = length l.rooms.out + longest_line ≤ out_room

abbrev pub decreases-loop-rest : goal.decreases-loop-rest
decreases-loop-rest g l = length l.left
