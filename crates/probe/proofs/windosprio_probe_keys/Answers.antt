-- `windosprio_probe_keys` meets its contract: the place of a repeated key, in the dialect that the caller names.
use Rattle.probe.proofs.Keys.{keys_probed}
use Rattle.probe.proofs.windosprio_probe_keys.Goals as goal

pub returns : goal.returns
returns c = rw (← c.dialect_of.ensures) (keys_probed c.first_repeat.ensures c.unwrap_or.ensures)
