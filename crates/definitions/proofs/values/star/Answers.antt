-- `values::star` meets its contract: the byte past the quote says what the first code point is.
use borrow.Author.Rules.{rules}
use Rattle.definitions.proofs.NameLaws.{star_lem}
use Rattle.definitions.proofs.values.star.Goals as goal

pub returns : goal.returns
returns c = star_lem (search rules) c.stands.ensures
