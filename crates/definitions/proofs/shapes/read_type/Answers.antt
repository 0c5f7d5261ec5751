-- `shapes::read_type` meets its contract.
use Rattle.definitions.proofs.ShapeLaws.{type_name_lem, type-list}
use Rattle.definitions.proofs.shapes.read_type.Goals as goal

pub returns-then-is_string : goal.returns-then-is_string
returns-then-is_string c = type_name_lem c.is_string.ensures c.if-is_string.true c.name_word.ensures

pub returns : goal.returns
returns c = type-list c.is_string.ensures c.if-is_string.false c.list_type.ensures
