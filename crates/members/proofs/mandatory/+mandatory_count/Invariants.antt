-- `mandatory::mandatory_count` meets its contract: a walk up the chain of bases, which adds each struct's own children last.
-- The measure is the number of structs left.
use Rattle.members.proofs.mandatory.+mandatory_count.Given as goal

abbrev pub decreases-mandatory_count : goal.decreases-mandatory_count
decreases-mandatory_count l = l.left
