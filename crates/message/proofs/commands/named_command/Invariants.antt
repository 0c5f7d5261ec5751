-- `commands::named_command` meets its contract: the rows left decide what all do. The measure is the rows left.
use Prim.Native.Nat.{◌-◌}
use Rattle.rules.specs.Rows.{row_count}
use Rattle.message.proofs.CommandLaws.{CommandLeft}
use Rattle.message.proofs.commands.named_command.Given as goal

abbrev pub invariant-loop-r : goal.invariant-loop-r
invariant-loop-r l = CommandLeft l.schema l.rows l.name l.r

abbrev pub decreases-loop-r : goal.decreases-loop-r
decreases-loop-r l = row_count l.rows - l.r
