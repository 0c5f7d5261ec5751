use mathlib.Core.Path.{refl, sym, ◌∙◌}
use Rattle.message.proofs.StageLaws.{unsound, is_sound}
use borrow.Author.Rules.{rules}
use Rattle.message.proofs.check.answer.Goals as goal

-- src/check.rt:187:9
pub returns-then-not-is_sound : goal.returns-then-not-is_sound
returns-then-not-is_sound c = unsound c.args.schema.now c.args.rows.now c.args.m.now (sym c.is_sound.ensures ∙ c.if-not-is_sound.true) refl

-- src/check.rt:190:5
pub fill_index-requires : goal.fill_index-requires
fill_index-requires c = ((sym c.is_sound.ensures ∙ c.if-not-is_sound.false), search rules)

-- src/check.rt:191:5
pub answer_given-requires : goal.answer_given-requires
answer_given-requires c = record { sound_table = (sym c.is_sound.ensures ∙ c.if-not-is_sound.false); filled = c.fill_index.ensures }

-- src/check.rt:183:1
pub returns : goal.returns
returns c = is_sound c.args.schema.now c.args.rows.now c.args.m.now (sym c.is_sound.ensures ∙ c.if-not-is_sound.false) c.answer_given.ensures
