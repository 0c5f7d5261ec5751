-- `mandatory::mandatory_members` meets its contract: the counts of both structs together.
use Rattle.members.proofs.MandatoryLaws.{count-both}
use Rattle.members.proofs.mandatory.mandatory_members.Goals as goal

pub returns : goal.returns
returns c = count-both c.mandatory_count-in_base.ensures c.mandatory_count.ensures
