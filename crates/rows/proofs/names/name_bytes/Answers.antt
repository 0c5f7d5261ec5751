-- `names::name_bytes` says whether all bytes are bytes of a name.
-- What is left of them says what the whole says.
use native.Mathlib.Omega.{arith}
use Rattle.rows.proofs.Walks.{so}
use Rattle.rows.proofs.NameFacts.{all_hit, all_on, all_end}
use Rattle.rows.proofs.names.name_bytes.Goals as goal

pub returns-then-not-is_name_byte : goal.returns-then-not-is_name_byte
returns-then-not-is_name_byte c = all_hit c.args.bytes.now c.loop-b.b-index c.loop-b.invariant (omega arith) (so c.is_name_byte.ensures c.if-not-is_name_byte.true)

pub loop-b-preserved : goal.loop-b-preserved
loop-b-preserved c = all_on c.args.bytes.now c.loop-b.b-index c.loop-b.invariant (omega arith) (so c.is_name_byte.ensures c.if-not-is_name_byte.false)

pub returns : goal.returns
returns c = all_end c.args.bytes.now c.loop-b.b-index c.loop-b.invariant (omega arith)
