-- `commands::coded_command` meets its contract: the name is what it was decoded to, or one that is too long.
use mathlib.Core.Path.{refl}
use Rattle.message.proofs.CommandLaws.{decoded_found, long-found}
use borrow.Author.Rules.{rules}
use Rattle.message.proofs.commands.coded_command.Goals as goal

pub returns-in-Some : goal.returns-in-Some
returns-in-Some c = decoded_found c.decode_node.ensures c.in-Some.is refl c.named_command.ensures

pub returns-in-None : goal.returns-in-None
returns-in-None c = long-found (search rules) c.decode_node.ensures c.in-None.is c.long_command.ensures
