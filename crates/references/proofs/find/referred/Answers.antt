-- `references::find::referred` gives what a word names: nothing, a struct, a built-in, a type's row.
use Rattle.references.proofs.FindLaws.{ref-none, ref-struct, ref_no_struct, ref-built_in, ref_missing, ref-row}
use Rattle.references.proofs.find.referred.Goals as goal

pub returns-then-w-eq0 : goal.returns-then-w-eq0
returns-then-w-eq0 c = ref-none c.if-w-eq0.true

pub returns-in_err-r : goal.returns-in_err-r
returns-in_err-r c =
    rw c.from_residual.ensures (ref_no_struct c.if-w-eq0.false c.named_by-name.ensures c.if-structs.true c.find.ensures c.in_err-r.was)

pub returns-then-structs : goal.returns-then-structs
returns-then-structs c = ref-struct c.if-w-eq0.false c.named_by-name.ensures c.if-structs.true c.find.ensures c.in_ok-r.was

pub returns-in-Some : goal.returns-in-Some
returns-in-Some c = ref-built_in c.if-w-eq0.false c.named_by-name.ensures c.if-structs.false c.built_in.ensures c.in-Some.is

pub returns-in_err-r-2 : goal.returns-in_err-r-2
returns-in_err-r-2 c =
    rw c.from_residual-in_err-r-2.ensures
    (ref_missing c.if-w-eq0.false c.named_by-name.ensures c.if-structs.false c.built_in.ensures c.in_default.is c.find-2.ensures c.in_err-r-2.was)

pub returns : goal.returns
returns c = ref-row c.if-w-eq0.false c.named_by-name.ensures c.if-structs.false c.built_in.ensures c.in_default.is c.find-2.ensures c.in_ok-r-2.was
