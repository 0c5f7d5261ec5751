-- `references::slots::put` puts what word k names in its place.
use mathlib.Core.Path.{refl}
use Rattle.references.proofs.SlotLaws.{word_put}
use Rattle.references.proofs.slots.put.Goals as goal

pub returns : goal.returns
returns c = word_put c.args.structs c.args.k refl c.referred-named.ensures c.unwrap_or.ensures c.is_some.ensures
