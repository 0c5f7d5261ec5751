-- `names::is_name_byte` says whether a byte is one of a name: by its class.
use mathlib.Core.Path.{ap, ◌∙◌}
use borrow.Author.Rules.{rules}
use Rattle.strings.specs.Classes.{named_class}
use Rattle.rows.proofs.NameFacts.{name_class}
use Rattle.rows.proofs.names.is_name_byte.Goals as goal

pub returns : goal.returns
returns c = c.is_named.ensures ∙ ap named_class c.class_of.ensures ∙ name_class c.args.b (search rules)
