-- without a file nothing follows, and what was read of one is the schema
use Rattle.std.proofs.Common.{refl, rules, Some, None}
use Rattle.console.proofs.BeginningLaws.{opens_file, opens_none}
use Rattle.console.proofs.opening.open_run.Goals as goal

pub returns-in-None : goal.returns-in-None
returns-in-None g c = opens_file {g = None} (rw c.in-None.is refl) (opens_none c.args.style c.put.ensures)

pub open_schema-requires : goal.open_schema-requires
open_schema-requires g c = (search rules, (search rules, search rules, rw c.in-Some.is at c.requires.0))

pub returns-in-Some : goal.returns-in-Some
returns-in-Some g c = opens_file {g = Some c.in-Some.schema.now} (rw c.in-Some.is refl) c.open_schema.ensures
