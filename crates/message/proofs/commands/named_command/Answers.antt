-- `commands::named_command` meets its contract: the rows left decide what all do. The measure is the rows left.
use Rattle.message.proofs.CommandLaws.{command_begin, command_hit, command-on, command-end}
use Rattle.message.proofs.commands.named_command.Goals as goal

pub loop-r-init : goal.loop-r-init
loop-r-init c = command_begin _ _ _

pub returns-then-is_named : goal.returns-then-is_named
returns-then-is_named c = command_hit c.loop-r.invariant c.loop-r-test.true c.is_named.ensures c.if-is_named.true

pub loop-r-preserved : goal.loop-r-preserved
loop-r-preserved c = command-on c.loop-r.invariant c.loop-r-test.true c.is_named.ensures c.if-is_named.false

pub returns : goal.returns
returns c = command-end c.loop-r.invariant c.loop-r-test.false
