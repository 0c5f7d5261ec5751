-- `compile::judge_objects` meets its contract: keys, then the definitions.
use Rattle.schema.proofs.TextLaws.{repeated, keys_on}
use Rattle.schema.proofs.compile.judge_objects.Goals as goal

pub returns-in-Some : goal.returns-in-Some
returns-in-Some c = repeated c.requires.0 c.requires.1 c.first_repeat.ensures c.in-Some.is

pub judge_rows-requires : goal.judge_rows-requires
judge_rows-requires c = (c.requires.0, c.in_default.ensures, c.requires.1)

pub returns : goal.returns
returns c = keys_on c.requires.0 c.first_repeat.ensures c.in_default.is c.judge_rows.ensures
