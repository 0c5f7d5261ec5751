-- one on after a whole record, and the same place at the end
use Rattle.walker.proofs.SeeingLaws.{after-whole, after-end}
use Rattle.walker.proofs.records.place_after.Goals as goal

pub returns-then-n-records : goal.returns-then-n-records
returns-then-n-records c = after-whole c.args.records.now c.args.n c.if-n-records.true

pub returns : goal.returns
returns c = after-end c.args.records.now c.args.n c.if-n-records.false
