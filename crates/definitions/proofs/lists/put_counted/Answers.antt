-- `lists::put_counted` meets its contract: the children first, then the row that counts them.
use mathlib.Core.Path.{◌∙◌, refl}
use native.Mathlib.Omega.{arith}
use borrow.Author.Rules.{rules}
use Rattle.definitions.proofs.Stores.{passed_on, bounds}
use Rattle.definitions.proofs.CountLaws.{counted-refused, counted-put}
use Rattle.definitions.proofs.lists.put_counted.Goals as goal

pub returns-in_err-m : goal.returns-in_err-m
returns-in_err-m c = passed_on c.from_residual.ensures.0 c.put_children.ensures.same_length (counted-refused c.put_children.ensures c.in_err-m.was)

pub returns : goal.returns
returns c =
    let b = bounds c.put_children.ensures c.in_ok-m.was in
    record {
      same_length = c.put_row.ensures.same_length ∙ c.put_children.ensures.same_length;
      few = (omega (arith, b.0), omega (arith, b.1));
      told = counted-put c.put_children.ensures (search rules) c.in_ok-m.was refl refl c.put_row.ensures;
    }
