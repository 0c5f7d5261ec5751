-- `chain_fits` meets its contract: the chain of the base ends, and then no inherited member clashes with a child.
-- What the walks say of the list of inherited members.
use Rattle.rows.proofs.Walks.{so}
use Rattle.table.proofs.ChainLaws.{chain-fails, chain-holds}
use Rattle.table.proofs.chains.chain_fits.Goals as goal

pub returns-then-not-chain_ends : goal.returns-then-not-chain_ends
returns-then-not-chain_ends c =
    chain-fails _ _ _ c.word-base.ensures (so c.chain_ends.ensures c.if-not-chain_ends.true)

pub returns : goal.returns
returns c =
    chain-holds _ _ _ c.word-base.ensures (so c.chain_ends.ensures c.if-not-chain_ends.false) c.members_apart.ensures
