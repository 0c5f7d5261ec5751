-- `to_type` meets its contract.
-- A law for each return: a built-in, a struct, another type, or no type.
use native.Mathlib.Omega.{arith}
use Rattle.table.proofs.ReferenceLaws.{built_in-type, other-type, struct_type, no_type}
use Rattle.table.proofs.links.to_type.Goals as goal

pub returns-then-t-lt-FIRST_ROW : goal.returns-then-t-lt-FIRST_ROW
returns-then-t-lt-FIRST_ROW c = built_in-type c.args.rows.now c.if-t-lt-FIRST_ROW.true

pub returns-in-1 : goal.returns-in-1
returns-in-1 c =
    other-type c.args.rows.now c.if-t-lt-FIRST_ROW.false c.word-k.ensures (rw c.in-1.is)
    (omega arith)

pub returns-in-3 : goal.returns-in-3
returns-in-3 c =
    struct_type c.args.rows.now c.if-t-lt-FIRST_ROW.false c.word-k.ensures
    c.in-3.is c.is_unnamed.ensures

pub returns-in-5 : goal.returns-in-5
returns-in-5 c =
    other-type c.args.rows.now c.if-t-lt-FIRST_ROW.false c.word-k.ensures (rw c.in-5.is)
    (omega arith)

pub returns-in-7 : goal.returns-in-7
returns-in-7 c =
    other-type c.args.rows.now c.if-t-lt-FIRST_ROW.false c.word-k.ensures (rw c.in-7.is)
    (omega arith)

pub returns-in_default : goal.returns-in_default
returns-in_default c = no_type c.args.rows.now c.if-t-lt-FIRST_ROW.false c.word-k.ensures (omega arith)
