-- `lookup::is_meant` meets its contract: a row of another owner, or of this one, where the node is compared.
use Rattle.children.proofs.LookupLaws.{meant_not, meant_own}
use Rattle.children.proofs.lookup.is_meant.Goals as goal

pub returns-then-number_at-r : goal.returns-then-number_at-r
returns-then-number_at-r c = meant_not c.number_at.ensures c.if-number_at-r.true

pub returns : goal.returns
returns c = meant_own c.number_at.ensures c.if-number_at-r.false c.name_of.ensures c.node_means.ensures
