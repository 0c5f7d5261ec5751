-- `lists::put_child` meets its contract: kind by kind.
use Rattle.definitions.proofs.ChildLaws.{child-value, child-pair}
use Rattle.definitions.proofs.lists.put_child.Goals as goal

pub returns-in-2 : goal.returns-in-2
returns-in-2 c = child-value c.in-2.is (c.put_value.ensures _)

pub returns-in_default : goal.returns-in_default
returns-in_default c = child-pair c.in_default.in_default-own.rest.0.1 c.in_default.in_default-own.rest.1 (c.put_pair.ensures _)
