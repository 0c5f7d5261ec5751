-- The rows left of the chain decide what all do.
use Rattle.std.proofs.Common.{rules, ◌≡◌, ◌+◌, ◌-◌, length, arith}
use Rattle.rows.proofs.IndexLaws.{listed_hit, listed-on, listed-end, listed_out}
use Rattle.rows.proofs.hashes.HashedRows.is_unlisted.Goals as goal

pub returns-then-word-eq0 : goal.returns-then-word-eq0
returns-then-word-eq0 c = listed-end c.loop.invariant c.if-word-eq0.true

pub returns-then-clashes : goal.returns-then-clashes
returns-then-clashes c = listed_hit c.loop.invariant (search rules) c.clashes.ensures c.if-clashes.true

pub loop-preserved : goal.loop-preserved
loop-preserved c =
    let e : length c.args.links.now - c.loop.counter - 1 ≡ length c.args.links.now - (c.loop.counter + 1) = omega arith in
    rw (← e) (listed-on c.loop.invariant (search rules) c.clashes.ensures c.if-clashes.false c.next-word.ensures)

pub returns : goal.returns
returns c = listed_out c.loop.invariant (omega arith)
