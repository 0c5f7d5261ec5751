-- the test says whether four words stand there
use Rattle.std.proofs.Common.{refl, ◌*◌, arith}
use Rattle.grammar.specs.Limits.{record_words}
use Rattle.walker.proofs.SeeingLaws.{seen_whole, seen_none}
use Rattle.walker.proofs.records.record_at.Goals as goal

pub returns-then-records-n : goal.returns-then-records-n
returns-then-records-n c = seen_none c.args.records.now c.args.n c.if-records-n.true

pub returns : goal.returns
returns c = seen_whole c.args.records.now c.args.n (record_words * c.args.n) refl c.if-records-n.false
