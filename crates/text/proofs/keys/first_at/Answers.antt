-- `keys::first_at` meets its contract: by the node's kind, and by the search that isn't given up.
use mathlib.Core.Path.{subst}
use Rattle.text.specs.Fields.{FindsKey}
use Rattle.text.proofs.SearchLaws.{at_other, at_object}
use Rattle.text.proofs.keys.first_at.Goals as goal

pub returns-then-node_word-ne-OBJECT : goal.returns-then-node_word-ne-OBJECT
returns-then-node_word-ne-OBJECT c = at_other c.node_word.ensures c.if-node_word-ne-OBJECT.true

pub returns-in-Ok : goal.returns-in-Ok
returns-in-Ok c =
    at_object c.node_word.ensures c.if-node_word-ne-OBJECT.false c.node_number-end.ensures (subst (FindsKey _ _ _ _ _) c.in-Ok.is c.first_quick.ensures)

pub returns-in-Err : goal.returns-in-Err
returns-in-Err c = at_object c.node_word.ensures c.if-node_word-ne-OBJECT.false c.node_number-end.ensures c.first_pair.ensures
