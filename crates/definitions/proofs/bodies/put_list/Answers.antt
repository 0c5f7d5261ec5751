-- `bodies::put_list` meets its contract.
use mathlib.Core.Path.{refl}
use borrow.Author.Rules.{rules}
use native.Mathlib.Omega.{arith}
use mathlib.Core.Logic.{⊎_elim}
use Rattle.definitions.proofs.Stores.{handed, refused}
use Rattle.definitions.proofs.BodyLaws.{list-refused, list_handed}
use Rattle.definitions.proofs.bodies.put_list.Goals as goal

pub returns-then-not-no_others : goal.returns-then-not-no_others
returns-then-not-no_others c = refused refl (list-refused c.value_at-d.ensures (rw c.if_any.ensures at c.no_others.ensures) c.requires.1 (c.if-not-no_others.true))

pub put_counted-requires : goal.put_counted-requires
put_counted-requires c = (search rules, ⊎_elim (λ e. omega (arith, c.named_row.ensures.first)) (λ e. omega (arith, c.named_row.ensures.first)) c.requires.1)

pub returns : goal.returns
returns c =
    handed (omega arith) (list_handed c.value_at-d.ensures (rw c.if_any.ensures at c.no_others.ensures) c.named_row.ensures c.requires.1 (c.if-not-no_others.false)) c.put_counted.ensures
