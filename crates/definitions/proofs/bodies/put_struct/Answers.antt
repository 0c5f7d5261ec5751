-- `bodies::put_struct` meets its contract.
use mathlib.Core.Path.{◌≡◌, refl}
use borrow.Author.Rules.{rules}
use Rattle.std.proofs.lemmas.List.{get_or-set_other}
use native.Mathlib.Omega.{arith}
use Rattle.rules.specs.Kinds.{struct_kind}
use Rattle.definitions.specs.Parts.{keys_of_kind}
use Rattle.lookups.specs.Lookups.FindsEach.{nothing, ◌and◌}
use Rattle.definitions.proofs.Stores.{handed, refused}
use Rattle.definitions.proofs.BodyLaws.{other_key, no_other-key, struct-refused, struct-list}
use Rattle.definitions.proofs.bodies.put_struct.Goals as goal

pub returns-then-not-no_others : goal.returns-then-not-no_others
returns-then-not-no_others c =
    let members = c.value_at-d.ensures in
    let base = c.value_at-b.ensures in
    refused refl (other_key (keys_of_kind struct_kind) refl (members and base and nothing) (rw c.if_any.ensures at c.no_others.ensures) (c.if-not-no_others.true))

pub returns-then-not-base_fits : goal.returns-then-not-base_fits
returns-then-not-base_fits c =
    let members = c.value_at-d.ensures in
    let base = c.value_at-b.ensures in
    let left = no_other-key (keys_of_kind struct_kind) refl (members and base and nothing) (rw c.if_any.ensures at c.no_others.ensures) (c.if-not-no_others.false) in
    refused refl (λ o h. struct-refused base c.base_fits.ensures (c.if-not-base_fits.true) o (left o h))

pub put_counted-requires : goal.put_counted-requires
put_counted-requires c =
    (search rules, omega (arith, c.named_row-own.ensures.first, get_or-set_other c.named_row-own.result 4 0 c.data_link.result 0 (λ (e : 0 ≡ 4). omega arith)))

pub returns : goal.returns
returns c =
    let members = c.value_at-d.ensures in
    let base = c.value_at-b.ensures in
    let left = no_other-key (keys_of_kind struct_kind) refl (members and base and nothing) (rw c.if_any.ensures at c.no_others.ensures) (c.if-not-no_others.false) in
    handed (omega arith) (λ o h. struct-list members base c.base_fits.ensures (c.if-not-base_fits.false) c.named_row-own.ensures c.data_link.ensures o (left o h)) c.put_counted.ensures
