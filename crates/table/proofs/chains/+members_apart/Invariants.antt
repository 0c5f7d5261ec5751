-- `members_apart` meets its contract: a walk up the chain of bases, which judges each struct's own children last.
-- The measure is the number of structs left; against members it is more, by the structs of their chain, since each struct is judged by such a walk.
use Prim.Native.Nat.{◌+◌}
use Rattle.table.proofs.ChainLaws.{structs_of}
use Rattle.table.proofs.chains.+members_apart.Given as goal

abbrev pub decreases-members_apart : goal.decreases-members_apart
decreases-members_apart l = structs_of l.others + l.left
