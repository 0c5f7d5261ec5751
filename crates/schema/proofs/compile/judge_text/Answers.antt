-- `compile::judge_text` meets its contract: no text, or the text in nodes that fit.
use mathlib.Core.Path.{ap, ◌∙◌}
use Rattle.std.specs.Prelude.{Err}
use Rattle.schema.proofs.TextLaws.{text-read, text-on, faulty, deeper, never}
use borrow.Author.Rules.{rules}
use Rattle.schema.proofs.compile.judge_text.Goals as goal

pub judge_objects-requires : goal.judge_objects-requires
judge_objects-requires c = (text-read c.read_schema.ensures c.in-Ok.is c.requires.0 (search rules), c.requires.1)

pub returns-in-Ok : goal.returns-in-Ok
returns-in-Ok c = text-on (text-read c.read_schema.ensures c.in-Ok.is c.requires.0 (search rules)) c.judge_objects.ensures

pub returns-in-Err-Fault : goal.returns-in-Err-Fault
returns-in-Err-Fault c = rw c.in-Err-Fault.field-0-is (faulty c.requires.1 c.read_schema.ensures (c.in-Err-Fault.is ∙ ap Err c.in-Err-Fault.field-0-is))

pub returns-in-Err-Deep : goal.returns-in-Err-Deep
returns-in-Err-Deep c = rw c.in-Err-Deep.field-0-is (deeper c.requires.1 c.read_schema.ensures (c.in-Err-Deep.is ∙ ap Err c.in-Err-Deep.field-0-is))

pub returns-in-Err-TooLong : goal.returns-in-Err-TooLong
returns-in-Err-TooLong c = never c.requires.0 c.read_schema.ensures (c.in-Err-TooLong.is ∙ ap Err c.in-Err-TooLong.field-0-is)
