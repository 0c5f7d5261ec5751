-- `chain_ends` meets its contract: a walk up the chain of bases.
-- The measure is the number of structs left.
use Rattle.table.proofs.ChainLaws.{walk_none, walk_out, walk-on, ends-walk}
use Rattle.table.proofs.chains.+chain_ends.Goals as goal

pub returns-then-link-eq0 : goal.returns-then-link-eq0
returns-then-link-eq0 t c = walk_none (ends-walk _) c.if-link-eq0.true

pub returns-then-left-eq0 : goal.returns-then-left-eq0
returns-then-left-eq0 t c = walk_out (ends-walk _) c.if-link-eq0.false c.if-left-eq0.true

pub returns : goal.returns
returns t c =
    walk-on (ends-walk _) c.if-link-eq0.false c.if-left-eq0.false
    c.word.ensures c.chain_ends.ensures
