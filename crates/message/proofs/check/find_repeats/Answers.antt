-- `find_repeats` meets its contract: the earliest key that is repeated, or none.
use Rattle.message.proofs.StageLaws.{repeated, unrepeated}
use Rattle.message.proofs.check.find_repeats.Goals as goal

pub returns-in-Some : goal.returns-in-Some
returns-in-Some c = repeated c.requires c.first_repeat.ensures c.in-Some.is

pub returns-in-None : goal.returns-in-None
returns-in-None c = unrepeated c.requires c.first_repeat.ensures c.in-None.is
