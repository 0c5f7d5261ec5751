use mathlib.Core.Path.{refl}
use Rattle.message.proofs.AskingLaws.{improper, unknown, not_allowed, allowed}
use Rattle.message.proofs.asked.ask_command.Goals as goal

-- src/asked.rt:61:9
pub returns-in_default : goal.returns-in_default
returns-in_default c = improper c.read_envelope-said.ensures c.in_default.is

-- src/asked.rt:65:9
pub returns-in_default-found : goal.returns-in_default-found
returns-in_default-found c = unknown c.read_envelope-said.ensures c.in-Call.is c.find_command-found.ensures c.in_default-found.is

-- src/asked.rt:68:9
pub returns-then-not-may_use : goal.returns-then-not-may_use
returns-then-not-may_use c = not_allowed c.read_envelope-said.ensures c.in-Call.is c.find_command-found.ensures c.in-Row.is c.may_use.ensures (c.if-not-may_use.true)

-- src/asked.rt:56:1
pub returns : goal.returns
returns c = allowed c.read_envelope-said.ensures c.in-Call.is c.find_command-found.ensures c.in-Row.is c.may_use.ensures (c.if-not-may_use.false) c.word.ensures c.link_ref.ensures refl refl refl refl refl
