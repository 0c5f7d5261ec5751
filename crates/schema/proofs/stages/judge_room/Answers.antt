-- `stages::judge_room` meets its contract: too many rows, no room, then the table and zeros after it.
use native.Mathlib.Omega.{arith}
use mathlib.Core.Path.{refl}
use Rattle.schema.proofs.StageLaws.{too_many, no_room, handed}
use Rattle.schema.proofs.stages.judge_room.Goals as goal

pub returns-then-n-gt-TABLE_ROWS : goal.returns-then-n-gt-TABLE_ROWS
returns-then-n-gt-TABLE_ROWS c = too_many c.requires.2 c.requires.1 c.if-n-gt-TABLE_ROWS.true

pub returns-then-rows-n : goal.returns-then-rows-n
returns-then-rows-n c = no_room c.requires.2 c.requires.1 c.if-n-gt-TABLE_ROWS.false c.if-rows-n.true

pub copy-requires : goal.copy-requires
copy-requires c = omega (arith, c.requires.2.whole, c.if-rows-n.false)

pub returns : goal.returns
returns c = handed c.requires.2 c.requires.1 c.if-n-gt-TABLE_ROWS.false c.if-rows-n.false refl c.copy.ensures
