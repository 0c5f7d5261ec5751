-- `chains::member_meant` meets its contract: a walk up the chain of bases, which asks each struct's own children last.
-- The measure is the number of structs left.
use Rattle.members.proofs.chains.+member_meant.Given as goal

abbrev pub decreases-member_meant : goal.decreases-member_meant
decreases-member_meant l = l.left
