-- `copy_plain` keeps the plain bytes of a string: while they are plain, each is what the call from there keeps.
-- The loop ends where the piece or the room does, whichever is first.
use Rattle.stream.specs.Serving.Contracts.{RunsStrings}
use Rattle.stream.proofs.pieces.copy_plain.Given as goal

abbrev pub invariant-loop-i : goal.invariant-loop-i
invariant-loop-i l = RunsStrings l.initial.buffer l.piece l.from l.at l.limit l.buffer l.i
