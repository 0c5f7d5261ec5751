-- `shapes::take_return` meets its contract.
use Rattle.definitions.proofs.ShapeLaws.{return_there}
use Rattle.definitions.proofs.shapes.take_return.Goals as goal

pub returns-in-Some : goal.returns-in-Some
returns-in-Some c = return_there c.in-Some.is c.read_type.ensures
