-- `branch_fits` meets its contract.
-- A law for each return: no such value, a chain that does not end, or whether the members are apart from the base's.
use Rattle.rows.proofs.Walks.{so}
use Rattle.table.proofs.UnionLaws.{branch-unnamed, branch_endless, branch_is}
use Rattle.table.proofs.unions.branch_fits.Goals as goal

pub returns-then-not-has_child : goal.returns-then-not-has_child
returns-then-not-has_child c =
    branch-unnamed _ _ _ _ _ (so c.has_child.ensures c.if-not-has_child.true)

pub returns-then-not-chain_ends : goal.returns-then-not-chain_ends
returns-then-not-chain_ends c =
    branch_endless _ _ _ _ _ (so c.has_child.ensures c.if-not-has_child.false) c.word-link.ensures
    (so c.chain_ends.ensures c.if-not-chain_ends.true)

pub returns : goal.returns
returns c =
    branch_is _ _ _ _ _ (so c.has_child.ensures c.if-not-has_child.false) c.word-link.ensures
    (so c.chain_ends.ensures c.if-not-chain_ends.false) c.members_apart.ensures
