-- `commands::is_named` meets its contract: the row's kind, the size of its name, then the name itself.
use mathlib.Core.Path.{◌∙◌}
use Rattle.message.proofs.CommandLaws.{no_command, short-name, whole-name}
use Rattle.message.proofs.commands.is_named.Goals as goal

pub returns-then-word_at-ne-COMMAND : goal.returns-then-word_at-ne-COMMAND
returns-then-word_at-ne-COMMAND c = no_command _ _ _ _ c.word_at.ensures c.if-word_at-ne-COMMAND.true

pub returns-then-size-name : goal.returns-then-size-name
returns-then-size-name c = short-name _ _ _ _ c.word_at.ensures (c.wide-size.ensures ∙ c.word_at-2.ensures) c.if-size-name.true

pub returns : goal.returns
returns c = whole-name _ _ _ _ c.word_at.ensures c.if-word_at-ne-COMMAND.false (c.wide-start.ensures ∙ c.word_at-3.ensures) (c.wide-size.ensures ∙ c.word_at-2.ensures) c.part_of.ensures c.same_bytes.ensures
