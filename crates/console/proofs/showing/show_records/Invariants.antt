-- there is room for a line; the measure is the records left
use Rattle.std.proofs.Common.{◌+◌, ◌-◌, ◌/◌, ◌≤◌, length}
use Rattle.grammar.specs.Limits.{record_words}
use Rattle.trees.specs.Serving.Rooms.{line_room}
use Rattle.console.proofs.showing.show_records.Given as goal

abbrev pub invariant-loop : goal.invariant-loop
invariant-loop g l = length l.out + line_room ≤ g.row.N

abbrev pub decreases-loop : goal.decreases-loop
decreases-loop g l = length l.tree.records.now / record_words - l.reader.place
