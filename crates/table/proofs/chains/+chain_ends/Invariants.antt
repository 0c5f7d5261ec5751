-- `chain_ends` meets its contract: a walk up the chain of bases.
-- The measure is the number of structs left.
use Rattle.table.proofs.chains.+chain_ends.Given as goal

abbrev pub decreases-chain_ends : goal.decreases-chain_ends
decreases-chain_ends l = l.left
