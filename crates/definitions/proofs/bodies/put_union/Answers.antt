-- `bodies::put_union` meets its contract.
use mathlib.Core.Path.{refl}
use native.Mathlib.Omega.{arith}
use Rattle.rules.specs.Kinds.{union_kind}
use Rattle.definitions.specs.Parts.{keys_of_kind}
use Rattle.lookups.specs.Lookups.FindsEach.{nothing, ◌and◌}
use Rattle.definitions.proofs.Stores.{handed, refused}
use Rattle.definitions.proofs.BodyLaws.{other_key, no_other-key}
use Rattle.definitions.proofs.UnionLaws.{union_handed}
use Rattle.definitions.proofs.bodies.put_union.Goals as goal

pub returns-then-not-no_others : goal.returns-then-not-no_others
returns-then-not-no_others c =
    let base = c.value_at-b.ensures in
    let discriminator = c.value_at-t.ensures in
    let branches = c.value_at-d.ensures in
    refused refl (other_key (keys_of_kind union_kind) refl (base and discriminator and branches and nothing) (rw c.if_any.ensures at c.no_others.ensures) (c.if-not-no_others.true))

pub returns : goal.returns
returns c =
    let base = c.value_at-b.ensures in
    let discriminator = c.value_at-t.ensures in
    let branches = c.value_at-d.ensures in
    let left = no_other-key (keys_of_kind union_kind) refl (base and discriminator and branches and nothing) (rw c.if_any.ensures at c.no_others.ensures) (c.if-not-no_others.false) in
    handed (omega arith) (λ o h. union_handed base discriminator c.in-Some-t.is c.is_string.ensures (c.if-not-is_string.false) c.in-Some.is branches o (left o h)) c.put_union_rows.ensures
