-- `bodies::put_command` meets its contract.
use mathlib.Core.Path.{refl}
use native.Mathlib.Omega.{arith}
use Rattle.rules.specs.Kinds.{command_kind}
use Rattle.definitions.specs.Parts.{keys_of_kind}
use Rattle.lookups.specs.Lookups.FindsEach.{nothing, ◌and◌}
use Rattle.definitions.proofs.Stores.{handed, refused, passed_on}
use Rattle.definitions.proofs.BodyLaws.{other_key, no_other-key}
use Rattle.definitions.proofs.CommandLaws.{command-bad_return, command-bad-flag, command_handed}
use Rattle.definitions.proofs.bodies.put_command.Goals as goal

pub returns-then-not-no_others : goal.returns-then-not-no_others
returns-then-not-no_others c =
    let arguments = c.value_at-d.ensures in
    let returned = c.value_at-returns.ensures in
    let flag = c.value_at-flag.ensures in
    refused refl (other_key (keys_of_kind command_kind) refl (arguments and returned and flag and nothing) (rw c.if_any.ensures at c.no_others.ensures) (c.if-not-no_others.true))

pub returns-in_default : goal.returns-in_default
returns-in_default c =
    let arguments = c.value_at-d.ensures in
    let returned = c.value_at-returns.ensures in
    let flag = c.value_at-flag.ensures in
    let left = no_other-key (keys_of_kind command_kind) refl (arguments and returned and flag and nothing) (rw c.if_any.ensures at c.no_others.ensures) (c.if-not-no_others.false) in
    refused refl (λ o h. command-bad_return returned c.take_return.ensures c.in_default.is o (left o h))

pub returns-in_err-oob : goal.returns-in_err-oob
returns-in_err-oob c =
    let arguments = c.value_at-d.ensures in
    let returned = c.value_at-returns.ensures in
    let flag = c.value_at-flag.ensures in
    let left = no_other-key (keys_of_kind command_kind) refl (arguments and returned and flag and nothing) (rw c.if_any.ensures at c.no_others.ensures) (c.if-not-no_others.false) in
    passed_on c.from_residual.ensures.0 refl (λ o h. command-bad-flag returned c.take_return.ensures flag c.take_flag.ensures c.in_err-oob.was o (left o h))

pub returns : goal.returns
returns c =
    let arguments = c.value_at-d.ensures in
    let returned = c.value_at-returns.ensures in
    let flag = c.value_at-flag.ensures in
    let left = no_other-key (keys_of_kind command_kind) refl (arguments and returned and flag and nothing) (rw c.if_any.ensures at c.no_others.ensures) (c.if-not-no_others.false) in
    handed (omega arith) (λ o h. command_handed returned c.take_return.ensures flag c.take_flag.ensures c.in-Ok.is c.in_ok-oob.was arguments o (left o h)) c.put_command_rows.ensures
