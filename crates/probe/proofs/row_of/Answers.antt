-- `row_of` meets its contract: by what was found.
use mathlib.Core.Path.{sym, ap}
use Rattle.probe.specs.Probe.{row_of}
use Rattle.probe.proofs.row_of.Goals as goal

pub returns-in-Unknown : goal.returns-in-Unknown
returns-in-Unknown c = sym (ap (row_of c.args.rows.now) c.in-Unknown.is)
