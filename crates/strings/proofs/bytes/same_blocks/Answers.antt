-- two slices of one length are equal where their blocks are, and what is left after these
use Rattle.strings.proofs.Blocks.{blocks-agree, blocks-differ}
use Rattle.strings.proofs.bytes.same_blocks.Goals as goal

pub returns-then-eq : goal.returns-then-eq
returns-then-eq c =
    blocks-agree c.args.x.now c.args.y.now c.requires c.as_chunks.ensures.front c.as_chunks-2.ensures.front c.as_chunks.ensures.back c.as_chunks-2.ensures.back c.eq.ensures c.if-eq.true c.eq-then-eq.ensures

pub returns-else-eq : goal.returns-else-eq
returns-else-eq c = blocks-differ c.args.x.now c.args.y.now c.requires c.as_chunks.ensures.front c.as_chunks-2.ensures.front c.eq.ensures c.if-eq.false
