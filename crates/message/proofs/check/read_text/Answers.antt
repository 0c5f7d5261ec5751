-- `read_text` meets its contract: no text, or the value in nodes that fit.
use mathlib.Core.Path.{ap, ◌∙◌}
use Rattle.std.specs.Prelude.{Err}
use Rattle.message.proofs.StageLaws.{faulty, deeper, never, whole-text}
use Rattle.message.proofs.check.read_text.Goals as goal

pub find_repeats-requires : goal.find_repeats-requires
find_repeats-requires c = whole-text c.read_message.ensures c.in-Ok.is c.requires

pub returns-in-Err-Fault : goal.returns-in-Err-Fault
returns-in-Err-Fault c = faulty c.read_message.ensures (c.in-Err-Fault.is ∙ ap Err c.in-Err-Fault.field-0-is)

pub returns-in-Err-Deep : goal.returns-in-Err-Deep
returns-in-Err-Deep c = deeper c.read_message.ensures (c.in-Err-Deep.is ∙ ap Err c.in-Err-Deep.field-0-is)

pub returns-in-Err-TooLong : goal.returns-in-Err-TooLong
returns-in-Err-TooLong c = absurd (never c.read_message.ensures (c.in-Err-TooLong.is ∙ ap Err c.in-Err-TooLong.field-0-is) c.requires)
