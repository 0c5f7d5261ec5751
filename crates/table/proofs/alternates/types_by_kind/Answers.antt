-- Of the alternatives, those left to look at, and the types found so far.
use Rattle.std.proofs.Common.{◌≡◌, ℕ, refl, ap, ◌∙◌, arith}
use Rattle.rules.specs.Types.{column}
use Rattle.rules.specs.Rows.{children, type_kind}
use Rattle.builtins.specs.Kinds.{kind_in}
use Rattle.table.specs.Alternatives.{no_column, kind_column, column_of}
use Rattle.table.proofs.KindLaws.{column-small}
use Rattle.table.proofs.AlternateLaws.{kinds-start, kinds_fail, kinds-taken, kinds-on, kinds-over}
use Rattle.table.proofs.alternates.types_by_kind.Goals as goal

pub loop-i-init : goal.loop-i-init
loop-i-init c = kinds-start refl c.args.rows.now (children c.args.rows.now c.args.r) (c.into_iter-i-iterator.ensures.into_iter_gives ∙ c.children-i-items.ensures)

pub returns-in_err-type_kind : goal.returns-in_err-type_kind
returns-in_err-type_kind c =
    let p : no_column ≡ column_of c.args.rows.now c.in-Some.i = ap kind_column c.in_err-type_kind.ensures ∙ ap (λ (t : ℕ). kind_column (type_kind c.args.rows.now t)) c.word-t.ensures in
    rw c.from_residual.ensures (kinds_fail c.loop-i.invariant c.in-Some.ensures.steps p refl)

pub returns-then-types-place-ne0 : goal.returns-then-types-place-ne0
returns-then-types-place-ne0 c =
    let p : column (kind_in c.in_ok-type_kind.field-0) ≡ column_of c.args.rows.now c.in-Some.i =
    ap kind_column c.in_ok-type_kind.ensures ∙ ap (λ (t : ℕ). kind_column (type_kind c.args.rows.now t)) c.word-t.ensures in
    kinds-taken c.loop-i.invariant c.in-Some.ensures.steps p (λ z. omega (arith, column-small (kind_in c.in_ok-type_kind.field-0))) c.column-place.ensures (omega arith)

pub loop-i-preserved : goal.loop-i-preserved
loop-i-preserved c =
    let p : column (kind_in c.in_ok-type_kind.field-0) ≡ column_of c.args.rows.now c.in-Some.i =
    ap kind_column c.in_ok-type_kind.ensures ∙ ap (λ (t : ℕ). kind_column (type_kind c.args.rows.now t)) c.word-t.ensures in
    kinds-on c.loop-i.invariant c.in-Some.ensures.steps p (λ z. omega (arith, column-small (kind_in c.in_ok-type_kind.field-0))) c.column-place.ensures c.if-types-place-ne0.false c.word-t.ensures

pub returns : goal.returns
returns c = kinds-over c.loop-i.invariant c.in-None.ensures.steps.0
