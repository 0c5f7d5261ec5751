-- The value reader and the member reader meet their contracts: by the type, by the content, and each loop by what is left to read.
-- The measure is three times the levels left, and one or two more.
use Prim.Native.Nat.{◌+◌, ◌*◌}
use mathlib.Core.Path.{refl}
use native.Mathlib.Omega.{arith}
use borrow.Author.Rules.{rules}
use Rattle.text.specs.Nodes.{node_words}
use Rattle.readings.proofs.ReadLaws.{value_missing, value_direct, value-alternative, plain_misfit, plain-alone, plain_elements, plain-members, plain_flat_array, plain_flat_object}
use Rattle.readings.proofs.ItemTurns.{items-start, items-past, items-none, items_stuck, items_fail, items-done, items-again}
use Rattle.readings.proofs.FieldTurns.{fields-start, fields-past, fields_lack, fields_unmeant, fields-none, fields_stuck, fields_fail, fields-done, fields-again, met-fits}
use Rattle.readings.proofs.readings.+readers.Goals as goal

pub read_fields-loop-key-init : goal.read_fields-loop-key-init
read_fields-loop-key-init t c = fields-start _ _ _ _ _ _ c.requires.1

pub read_fields-returns-then-link-eq0 : goal.read_fields-returns-then-link-eq0
read_fields-returns-then-link-eq0 t c =
    fields_fail c.loop-key.invariant c.node_number-end.ensures (fields_unmeant c.field_member-link.ensures (omega arith) _ c.if-link-eq0.true)

pub read_fields-read_value-v-requires : goal.read_fields-read_value-v-requires
read_fields-read_value-v-requires t c =
    let b = c.shared_slice_known-4-1.given (node_words * c.args.at.node + 3) in search rules

pub read_fields-returns-in_default : goal.read_fields-returns-in_default
read_fields-returns-in_default t c =
    fields_fail c.loop-key.invariant c.node_number-end.ensures
    (fields-none c.field_member-link.ensures (omega arith) c.if-link-eq0.false refl c.word.ensures c.word-in-loop-key.ensures c.read_value-v.ensures c.in_default.is)

pub read_fields-returns-then-next-node : goal.read_fields-returns-then-next-node
read_fields-returns-then-next-node t c =
    fields_fail c.loop-key.invariant c.node_number-end.ensures
    (fields_stuck c.field_member-link.ensures (omega arith) c.if-link-eq0.false refl c.word.ensures c.word-in-loop-key.ensures c.read_value-v.ensures c.node_number-next.ensures c.if-next-node.true)

pub read_fields-overflow_add-met : goal.read_fields-overflow_add-met
read_fields-overflow_add-met t c =
    omega (arith, met-fits c.loop-key.invariant _ c.mandatory_one-met.ensures)

pub read_fields-loop-key-preserved : goal.read_fields-loop-key-preserved
read_fields-loop-key-preserved t c =
    fields-again c.loop-key.invariant c.field_member-link.ensures (omega arith) c.if-link-eq0.false refl c.word.ensures c.word-in-loop-key.ensures c.read_value-v.ensures
    (omega (arith, c.read_value-v.auto)) c.node_number-next.ensures c.if-next-node.false c.in-Records.is c.mandatory_one-met.ensures

pub read_fields-returns-then-key-end : goal.read_fields-returns-then-key-end
read_fields-returns-then-key-end t c =
    fields_fail c.loop-key.invariant c.node_number-end.ensures (fields-past _ _ _ _ _ (omega arith) c.if-key-end.true)

pub read_fields-returns-then-met-mandatory_members : goal.read_fields-returns-then-met-mandatory_members
read_fields-returns-then-met-mandatory_members t c =
    fields_fail c.loop-key.invariant c.node_number-end.ensures (fields_lack _ _ _ _ _ c.if-key-end.false c.mandatory_members.ensures c.if-met-mandatory_members.true)

pub read_fields-returns : goal.read_fields-returns
read_fields-returns t c =
    fields-done c.loop-key.invariant c.node_number-end.ensures c.if-key-end.false c.mandatory_members.ensures c.if-met-mandatory_members.false

pub read_items-loop-node-init : goal.read_items-loop-node-init
read_items-loop-node-init t c = items-start _ _ _ _ _ _ c.requires.1

pub read_items-read_value-v-requires : goal.read_items-read_value-v-requires
read_items-read_value-v-requires t c =
    let b = c.shared_slice_known-4-1.given (node_words * c.args.at.node + 3) in search rules

pub read_items-returns-in_default : goal.read_items-returns-in_default
read_items-returns-in_default t c =
    items_fail c.loop-node.invariant c.node_number-end.ensures (items-none c.read_value-v.ensures (omega arith) c.in_default.is)

pub read_items-returns-then-next-node : goal.read_items-returns-then-next-node
read_items-returns-then-next-node t c =
    items_fail c.loop-node.invariant c.node_number-end.ensures (items_stuck c.read_value-v.ensures (omega arith) c.node_number-next.ensures c.if-next-node.true)

pub read_items-loop-node-preserved : goal.read_items-loop-node-preserved
read_items-loop-node-preserved t c =
    items-again c.loop-node.invariant c.node_number-end.ensures c.read_value-v.ensures
    (omega (arith, c.read_value-v.auto)) (omega arith) c.node_number-next.ensures c.if-next-node.false c.in-Records.is

pub read_items-returns-then-node-end : goal.read_items-returns-then-node-end
read_items-returns-then-node-end t c =
    items_fail c.loop-node.invariant c.node_number-end.ensures (items-past _ _ _ _ _ (omega arith) c.if-node-end.true)

pub read_items-returns : goal.read_items-returns
read_items-returns t c = items-done c.loop-node.invariant c.node_number-end.ensures c.if-node-end.false

pub read_plain-returns-then-left-eq0 : goal.read_plain-returns-then-left-eq0
read_plain-returns-then-left-eq0 t c =
    plain_flat_array c.content_at-content.ensures _ _ _ _ c.put_node_record.ensures c.in-Elements.is c.if-left-eq0.true

pub read_plain-returns-then-left-eq0-2 : goal.read_plain-returns-then-left-eq0-2
read_plain-returns-then-left-eq0-2 t c =
    plain_flat_object c.content_at-content.ensures _ _ _ _ c.put_node_record.ensures c.in-Members.is c.if-left-eq0-2.true

pub read_plain-returns-in-Misfit : goal.read_plain-returns-in-Misfit
read_plain-returns-in-Misfit t c = plain_misfit c.content_at-content.ensures _ _ _ _ c.put_node_record.ensures c.in-Misfit.is

pub read_plain-returns-in-Alone : goal.read_plain-returns-in-Alone
read_plain-returns-in-Alone t c =
    plain-alone c.content_at-content.ensures _ _ _ _ c.put_node_record.ensures refl c.in-Alone.is c.requires.1

pub read_plain-returns-else-left-eq0 : goal.read_plain-returns-else-left-eq0
read_plain-returns-else-left-eq0 t c =
    plain_elements c.content_at-content.ensures _ _ _ _ c.put_node_record.ensures refl c.in-Elements.is c.if-left-eq0.false c.read_items.ensures

pub read_plain-returns-else-left-eq0-2 : goal.read_plain-returns-else-left-eq0-2
read_plain-returns-else-left-eq0-2 t c =
    plain-members c.content_at-content.ensures _ _ _ _ c.put_node_record.ensures refl c.in-Members.is c.if-left-eq0-2.false c.read_fields.ensures

pub read_value-returns-in-NoAlternative : goal.read_value-returns-in-NoAlternative
read_value-returns-in-NoAlternative t c = value_missing _ _ _ _ c.type_for.ensures _ c.in-NoAlternative.is _

pub read_value-returns-in-Itself : goal.read_value-returns-in-Itself
read_value-returns-in-Itself t c = value_direct _ _ _ _ c.type_for.ensures _ c.in-Itself.is c.read_plain.ensures

pub read_value-returns-in-Alternative : goal.read_value-returns-in-Alternative
read_value-returns-in-Alternative t c =
    value-alternative _ _ _ _ c.type_for.ensures _ c.in-Alternative.is c.put_node_record.ensures c.read_plain-in-Alternative.ensures
