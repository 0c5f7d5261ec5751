-- `references::find::find` finds the first definition that fits and has the name.
-- The loop keeps what is left to look at; the measure is the count that falls.
use Rattle.references.proofs.FindLaws.{Left}
use Rattle.references.proofs.find.find.Given as goal

abbrev pub invariant-loop-left : goal.invariant-loop-left
invariant-loop-left l = Left l.names.schema.now l.rows l.names.links.now l.structs l.name l.initial.link l.link l.left

abbrev pub decreases-loop-left : goal.decreases-loop-left
decreases-loop-left l = l.left
