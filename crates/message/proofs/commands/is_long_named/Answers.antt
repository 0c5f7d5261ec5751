-- `commands::is_long_named` meets its contract: the row's kind, the size of its name, then what the name is.
use native.Mathlib.Omega.{arith}
use mathlib.Core.Path.{◌∙◌}
use Rattle.message.proofs.CommandLaws.{long_no_command, long-short, long-means}
use Rattle.message.proofs.commands.is_long_named.Goals as goal

pub returns-then-word_at-ne-COMMAND : goal.returns-then-word_at-ne-COMMAND
returns-then-word_at-ne-COMMAND c = long_no_command c.args.schema.now c.args.rows.now c.args.m.now c.args.nodes.now _ c.word_at.ensures c.if-word_at-ne-COMMAND.true

pub returns-then-wide-le-NAME_BYTES : goal.returns-then-wide-le-NAME_BYTES
returns-then-wide-le-NAME_BYTES c = long-short c.args.schema.now c.args.rows.now c.args.m.now c.args.nodes.now _ c.word_at.ensures (λ x. omega (arith, c.shared_slice_known-1.given x)) (c.wide.ensures ∙ c.word_at-2.ensures) c.if-wide-le-NAME_BYTES.true

pub returns : goal.returns
returns c = long-means c.args.schema.now c.args.rows.now c.args.m.now c.args.nodes.now _ c.word_at.ensures c.if-word_at-ne-COMMAND.false c.name_of.ensures c.node_means.ensures
