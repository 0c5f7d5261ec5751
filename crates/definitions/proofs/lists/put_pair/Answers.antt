-- `lists::put_pair` meets its contract.
use mathlib.Core.Path.{refl}
use Rattle.definitions.proofs.ChildLaws.{pair_put}
use Rattle.definitions.proofs.lists.put_pair.Goals as goal

pub returns : goal.returns
returns c = λ s. pair_put _ refl c.is_string.ensures c.if-not-is_string.false c.name_word.ensures c.named_row-own.ensures c.put_row.ensures
