-- `is_member` meets its contract: a walk up the chain of bases, which asks each struct's own children last.
-- The measure is the number of structs left.
use Rattle.table.proofs.chains.+is_member.Given as goal

abbrev pub decreases-is_member : goal.decreases-is_member
decreases-is_member l = l.left
