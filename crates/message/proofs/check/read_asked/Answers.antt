use Rattle.message.proofs.StageLaws.{absent, present}
use Rattle.message.proofs.check.read_asked.Goals as goal

-- src/check.rt:106:9
pub read_present-requires : goal.read_present-requires
read_present-requires c = absent c.requires c.if-asked-eq0.true

-- src/check.rt:108:5
pub read_present-requires-2 : goal.read_present-requires-2
read_present-requires-2 c = present c.requires c.if-asked-eq0.false
