-- `lists::mandatory_one` meets its contract.
use Rattle.children.proofs.CountLaws.{one_mandatory, one-optional}
use Rattle.children.proofs.lists.mandatory_one.Goals as goal

pub returns-then-word-eq0 : goal.returns-then-word-eq0
returns-then-word-eq0 c = one_mandatory _ _ c.word.ensures c.if-word-eq0.true

pub returns : goal.returns
returns c = one-optional _ _ c.word.ensures c.if-word-eq0.false
