-- `references::slots::slot_of` says what a row of a kind names: kind by kind.
use borrow.Author.Tests.{ne_eqb}
use Rattle.rules.specs.Kinds.{struct_kind, member_kind, union_kind, branch_kind, alternative_kind, command_kind}
use Rattle.references.proofs.slots.slot_of.Goals as goal

pub returns-in-3 : goal.returns-in-3
returns-in-3 c = rw c.in-3.is

pub returns-in-4 : goal.returns-in-4
returns-in-4 c = rw c.in-4.is

pub returns-in-5 : goal.returns-in-5
returns-in-5 c = rw c.in-5.is

pub returns-in-6 : goal.returns-in-6
returns-in-6 c = rw c.in-6.is

pub returns-in-8 : goal.returns-in-8
returns-in-8 c = rw c.in-8.is

pub returns-in-9 : goal.returns-in-9
returns-in-9 c = rw c.in-9.is

pub returns-in_default : goal.returns-in_default
returns-in_default c =
    rw (
      ne_eqb _ struct_kind c.in_default.in_default-own.rest.0.0.0.0.0.1,
      ne_eqb _ member_kind c.in_default.in_default-own.rest.0.0.0.0.1,
      ne_eqb _ union_kind c.in_default.in_default-own.rest.0.0.0.1,
      ne_eqb _ branch_kind c.in_default.in_default-own.rest.0.0.1,
      ne_eqb _ alternative_kind c.in_default.in_default-own.rest.0.1,
      ne_eqb _ command_kind c.in_default.in_default-own.rest.1,
    )
