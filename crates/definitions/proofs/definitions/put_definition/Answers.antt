-- `definitions::put_definition` meets its contract.
use native.Mathlib.Omega.{arith}
use Rattle.definitions.proofs.Stores.{handed}
use Rattle.definitions.proofs.KindLaws.{definition_handed}
use Rattle.definitions.proofs.definitions.put_definition.Goals as goal

pub returns : goal.returns
returns c =
    handed (omega arith) (definition_handed c.node_word.ensures c.if-node_word-ne-OBJECT.false c.kind_key.ensures c.in-Some.is) c.put_kind.ensures
