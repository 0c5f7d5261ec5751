-- `Classes::class_of` gives the class of a byte.
-- An entry of the table is the rule at its index.
use mathlib.Core.Path.{ap, ◌∙◌}
use lib.ListN.{get_or}
use borrow.Author.Rules.{rules}
use Rattle.strings.specs.Classes.{class_of}
use Rattle.strings.specs.declared.class.Class.TheVariants.{Other}
use Rattle.strings.proofs.Tables.{entry}
use Rattle.strings.proofs.classes.Classes.class_of.Goals as goal

pub returns : goal.returns
returns c = ap (λ l. get_or l c.args.b Other) c.args.self.now.known ∙ entry class_of 256 c.args.b Other (search rules)
