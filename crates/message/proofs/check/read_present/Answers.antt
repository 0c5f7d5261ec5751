-- `read_present` meets its contract: no reading, one that the room can not hold, or its records.
use mathlib.Core.Path.{refl}
use Rattle.message.proofs.StageLaws.{unread, unheld, answered}
use borrow.Author.Rules.{rules}
use Rattle.message.proofs.check.read_present.Goals as goal

pub read_whole-requires : goal.read_whole-requires
read_whole-requires c = c.requires.low

pub returns-then-records-n : goal.returns-then-records-n
returns-then-records-n c = unheld c.requires _ refl refl refl refl c.read_whole.ensures c.node_number-place.ensures c.in-Records.is (search rules)

pub returns-in-Nothing : goal.returns-in-Nothing
returns-in-Nothing c = unread c.requires _ refl refl refl refl c.read_whole.ensures c.node_number-place.ensures c.in-Nothing.is

pub returns-else-records-n : goal.returns-else-records-n
returns-else-records-n c = answered c.requires _ refl refl refl refl c.read_whole.ensures c.node_number-place.ensures c.in-Records.is refl (search rules)
