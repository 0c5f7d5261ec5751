-- The value reader and the member reader meet their contracts: by the type, by the content, and each loop by what is left to read.
-- The measure is three times the levels left, and one or two more.
use Prim.Native.Nat.{◌+◌, ◌-◌, ◌*◌}
use Rattle.readings.proofs.ItemTurns.{ItemsSoFar}
use Rattle.readings.proofs.FieldTurns.{FieldsSoFar}
use Rattle.readings.proofs.readings.+readers.Given as goal

abbrev pub decreases-read_fields : goal.decreases-read_fields
decreases-read_fields l = 3 * l.at.left + 2

abbrev pub decreases-read_items : goal.decreases-read_items
decreases-read_items l = 3 * l.at.left + 2

abbrev pub decreases-read_plain : goal.decreases-read_plain
decreases-read_plain l = 3 * l.at.left

abbrev pub decreases-read_value : goal.decreases-read_value
decreases-read_value l = 3 * l.at.left + 1

abbrev pub invariant-read_fields-loop-key : goal.invariant-read_fields-loop-key
invariant-read_fields-loop-key l = FieldsSoFar l.schema l.rows l.m l.nodes l.index l.initial.records l.records l.k l.end l.base l.branch l.passes l.left l.initial.count l.key l.count l.met

abbrev pub decreases-read_fields-loop-key : goal.decreases-read_fields-loop-key
decreases-read_fields-loop-key l = l.end - l.key

abbrev pub invariant-read_items-loop-node : goal.invariant-read_items-loop-node
invariant-read_items-loop-node l = ItemsSoFar l.schema l.rows l.m l.nodes l.index l.initial.records l.records l.k l.end l.reference l.passes l.left l.initial.count l.node l.count

abbrev pub decreases-read_items-loop-node : goal.decreases-read_items-loop-node
decreases-read_items-loop-node l = l.end - l.node
