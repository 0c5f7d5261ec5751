-- `commands::find_command` meets its contract: a plain name is its bytes, any other is decoded.
use Rattle.message.proofs.CommandLaws.{plain-found}
use Rattle.message.proofs.commands.find_command.Goals as goal

pub returns-then-plain_kind : goal.returns-then-plain_kind
returns-then-plain_kind c = plain-found c.node_word.ensures c.plain_kind.ensures c.if-plain_kind.true c.inner_bytes.ensures c.named_command.ensures
