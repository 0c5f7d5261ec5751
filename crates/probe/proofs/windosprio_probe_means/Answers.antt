-- `windosprio_probe_means` meets its contract: what a string means, in the dialect that the caller names.
use Rattle.probe.proofs.windosprio_probe_means.Goals as goal

pub returns : goal.returns
returns c = rw (← c.dialect_of.ensures) c.means.ensures
