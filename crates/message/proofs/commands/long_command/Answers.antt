-- `commands::long_command` meets its contract: the rows left decide what all do. The measure is the rows left.
use Rattle.message.proofs.CommandLaws.{long_begin, long_hit, long-on, long-end}
use Rattle.message.proofs.commands.long_command.Goals as goal

pub loop-r-init : goal.loop-r-init
loop-r-init c = long_begin _ _ _ _ _

pub returns-then-is_long_named : goal.returns-then-is_long_named
returns-then-is_long_named c = long_hit c.loop-r.invariant c.loop-r-test.true c.is_long_named.ensures c.if-is_long_named.true

pub loop-r-preserved : goal.loop-r-preserved
loop-r-preserved c = long-on c.loop-r.invariant c.loop-r-test.true c.is_long_named.ensures c.if-is_long_named.false

pub returns : goal.returns
returns c = long-end c.loop-r.invariant c.loop-r-test.false
