-- `commands::long_command` meets its contract: the rows left decide what all do. The measure is the rows left.
use Prim.Native.Nat.{◌-◌}
use Rattle.rules.specs.Rows.{row_count}
use Rattle.message.proofs.CommandLaws.{LongLeft}
use Rattle.message.proofs.commands.long_command.Given as goal

abbrev pub invariant-loop-r : goal.invariant-loop-r
invariant-loop-r l = LongLeft l.schema l.rows l.m l.nodes l.k l.r

abbrev pub decreases-loop-r : goal.decreases-loop-r
decreases-loop-r l = row_count l.rows - l.r
