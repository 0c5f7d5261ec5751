-- `arguments_fit` meets its contract.
-- A law for each return: no link, or a link to the own inline struct or to one that has a name.
use Rattle.table.proofs.ReferenceLaws.{arguments-none, arguments-link}
use Rattle.table.proofs.links.arguments_fit.Goals as goal

pub returns-then-link-eq0 : goal.returns-then-link-eq0
returns-then-link-eq0 c = arguments-none _ _ c.word-link.ensures c.if-link-eq0.true

pub returns : goal.returns
returns c =
    arguments-link _ _ c.word-link.ensures c.if-link-eq0.false
    c.to_own_or_struct.ensures
