-- `shapes::list_type` meets its contract: an array of one node more, which is a string.
use native.Mathlib.Omega.{arith}
use Rattle.definitions.proofs.ShapeLaws.{list-no_array, list_stuck, list_no_string, list-other, list-one}
use Rattle.definitions.proofs.shapes.list_type.Goals as goal

pub returns-then-node_word-ne-ARRAY : goal.returns-then-node_word-ne-ARRAY
returns-then-node_word-ne-ARRAY c = list-no_array c.node_word.ensures c.if-node_word-ne-ARRAY.true

pub returns-then-end-k : goal.returns-then-end-k
returns-then-end-k c = list_stuck c.node_word.ensures c.if-node_word-ne-ARRAY.false c.node_number-end.ensures c.if-end-k.true

pub returns-then-not-is_string : goal.returns-then-not-is_string
returns-then-not-is_string c =
    list_no_string c.node_word.ensures c.if-node_word-ne-ARRAY.false c.node_number-end.ensures (omega arith) c.is_string.ensures (c.if-not-is_string.true)

pub returns-then-end-first-ne1 : goal.returns-then-end-first-ne1
returns-then-end-first-ne1 c =
    list-other c.node_word.ensures c.if-node_word-ne-ARRAY.false c.node_number-end.ensures (omega arith) c.is_string.ensures (c.if-not-is_string.false) c.if-end-first-ne1.true

pub returns : goal.returns
returns c =
    list-one c.node_word.ensures c.if-node_word-ne-ARRAY.false c.node_number-end.ensures (omega arith) c.is_string.ensures (c.if-not-is_string.false) c.if-end-first-ne1.false c.name_word.ensures
