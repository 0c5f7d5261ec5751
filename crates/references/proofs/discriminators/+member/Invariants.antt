-- `references::discriminators::member` walks up the chain of bases, and asks each struct's own children last.
-- The measure is the number of structs left.
use Rattle.references.proofs.discriminators.+member.Given as goal

abbrev pub decreases-member : goal.decreases-member
decreases-member l = l.left
