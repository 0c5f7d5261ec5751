use mathlib.Core.Path.{refl}
use Rattle.message.proofs.StageLaws.{too_long, short-enough}
use borrow.Author.Rules.{rules}
use Rattle.message.proofs.check.answer_given.Goals as goal

-- src/check.rt:174:9
pub returns-then-m-gt-MESSAGE_BYTES : goal.returns-then-m-gt-MESSAGE_BYTES
returns-then-m-gt-MESSAGE_BYTES c = too_long c.args.schema.now c.args.rows.now c.args.m.now (search rules) refl

-- src/check.rt:177:9
pub returns-then-m-le-SHORT_MESSAGE : goal.returns-then-m-le-SHORT_MESSAGE
returns-then-m-le-SHORT_MESSAGE c = short-enough c.args.schema.now c.args.rows.now c.args.m.now (search rules) c.answer_short.ensures

-- src/check.rt:163:1
pub returns : goal.returns
returns c = short-enough c.args.schema.now c.args.rows.now c.args.m.now (search rules) c.answer_long.ensures
