-- `references::slots::resolve_row` puts the words of a row that name, by the slot of its kind.
use mathlib.Core.Path.{sym, ◌∙◌}
use native.Mathlib.Omega.{arith}
use Rattle.references.proofs.SlotLaws.{slot_inside, row_by, row_kept}
use Rattle.references.proofs.slots.resolve_row.Goals as goal

pub overflow_add-r : goal.overflow_add-r
overflow_add-r c = omega (arith, slot_inside c.word.result (sym c.in-Word.is ∙ c.slot_of.ensures))

pub put-requires : goal.put-requires
put-requires c = (c.requires.0, omega (arith, slot_inside c.word.result (sym c.in-Word.is ∙ c.slot_of.ensures)))

pub returns-in-Word : goal.returns-in-Word
returns-in-Word c = row_by c.args.r _ c.word.ensures (sym c.in-Word.is ∙ c.slot_of.ensures) c.put.ensures

pub returns-in-Data : goal.returns-in-Data
returns-in-Data c = row_by c.args.r _ c.word.ensures (sym c.in-Data.is ∙ c.slot_of.ensures) c.put_data.ensures

pub returns-in-Command : goal.returns-in-Command
returns-in-Command c = row_by c.args.r _ c.word.ensures (sym c.in-Command.is ∙ c.slot_of.ensures) c.put_command.ensures

pub returns-in-Nothing : goal.returns-in-Nothing
returns-in-Nothing c = row_by c.args.r _ c.word.ensures (sym c.in-Nothing.is ∙ c.slot_of.ensures) row_kept
