-- `windosprio_probe_command` meets its contract: the row is the one found.
use Rattle.probe.proofs.Commands.{command_probed}
use Rattle.probe.proofs.windosprio_probe_command.Goals as goal

pub returns : goal.returns
returns c = command_probed c.find_command.ensures c.row_of.ensures
