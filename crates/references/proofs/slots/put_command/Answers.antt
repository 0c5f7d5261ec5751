-- `references::slots::put_command` puts the data and then the return.
use mathlib.Core.Path.{refl}
use Rattle.references.proofs.SlotLaws.{command-both}
use Rattle.references.proofs.slots.put_command.Goals as goal

pub returns : goal.returns
returns c = command-both c.args.r c.put_data.ensures c.put.ensures refl
