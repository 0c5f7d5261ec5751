-- `table::names::is_definition` says whether a row is a definition of its own.
-- By kind; only a struct can be inline.
use Rattle.rules.specs.Kinds.{enum_kind, struct_kind, union_kind, alternate_kind, command_kind}
use mathlib.Core.Path.{refl, ap, ◌∙◌}
use mathlib.Core.Bool.{not}
use borrow.Author.Tests.{eqb-false}
use Rattle.rows.proofs.Walks.{so}
use Rattle.table.proofs.DefinitionFacts.{own_definition, struct_definition, no_definition}
use Rattle.table.proofs.names.is_definition.Goals as goal

pub returns-in-1 : goal.returns-in-1
returns-in-1 c = let a = c.args in own_definition a.rows.now a.r enum_kind (so c.in-1.is c.word-k.ensures) refl (eqb-false enum_kind struct_kind refl)

pub returns-in-3 : goal.returns-in-3
returns-in-3 c =
    let a = c.args in
    ap not c.is_unnamed.ensures ∙ struct_definition a.rows.now a.r _ c.word-k.ensures c.in-3.is

pub returns-in-5 : goal.returns-in-5
returns-in-5 c =
    let a = c.args in
    own_definition a.rows.now a.r union_kind (so c.in-5.is c.word-k.ensures) refl (eqb-false union_kind struct_kind refl)

pub returns-in-7 : goal.returns-in-7
returns-in-7 c =
    let a = c.args in
    own_definition a.rows.now a.r alternate_kind (so c.in-7.is c.word-k.ensures) refl (eqb-false alternate_kind struct_kind refl)

pub returns-in-9 : goal.returns-in-9
returns-in-9 c =
    let a = c.args in
    own_definition a.rows.now a.r command_kind (so c.in-9.is c.word-k.ensures) refl (eqb-false command_kind struct_kind refl)

pub returns-in_default : goal.returns-in_default
returns-in_default c =
    let a = c.args in
    let n = c.in_default.in_default-own.rest in
    no_definition a.rows.now a.r _ c.word-k.ensures n.0.0.0.0.1 n.0.0.0.1 n.0.0.1 n.0.1 n.1
