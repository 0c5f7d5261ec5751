-- `windosprio_probe_same` meets its contract: whether two strings mean the same, in the dialect that the caller names.
use Rattle.probe.proofs.windosprio_probe_same.Goals as goal

pub returns : goal.returns
returns c = rw (← c.dialect_of.ensures) c.same_meaning.ensures
