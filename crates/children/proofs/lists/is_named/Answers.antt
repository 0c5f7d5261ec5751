-- `lists::is_named` meets its contract: names of other sizes differ.
use mathlib.Core.Path.{◌∙◌}
use Rattle.children.proofs.NameSizes.{named_other, named-same}
use Rattle.children.proofs.lists.is_named.Goals as goal

pub returns-then-wide-name : goal.returns-then-wide-name
returns-then-wide-name c = named_other (c.wide.ensures ∙ c.word.ensures) c.if-wide-name.true

pub returns : goal.returns
returns c = named-same (c.wide.ensures ∙ c.word.ensures) c.name_of.ensures c.same_bytes.ensures
