-- `references_fit` meets its contract.
-- A law for each kind of row.
use native.Mathlib.Omega.{arith}
use Rattle.table.proofs.ReferenceLaws.{refers-none, refers-base, refers-member, refers-union, refers-branch, refers-alternative, refers-command, refers-not}
use Rattle.table.proofs.links.references_fit.Goals as goal

pub returns-then-link-eq0 : goal.returns-then-link-eq0
returns-then-link-eq0 c =
    refers-none c.args.rows.now c.args.r
    c.word-k.ensures c.in-3.is
    c.word-link.ensures c.if-link-eq0.true

pub returns-else-link-eq0 : goal.returns-else-link-eq0
returns-else-link-eq0 c =
    refers-base c.args.rows.now
    c.args.r c.word-k.ensures
    c.in-3.is c.word-link.ensures
    c.if-link-eq0.false c.to_struct.ensures

pub returns-in-4 : goal.returns-in-4
returns-in-4 c =
    refers-member c.args.rows.now c.args.r c.word-k.ensures
    c.in-4.is c.member_fits.ensures

pub returns-in-5 : goal.returns-in-5
returns-in-5 c =
    refers-union c.args.rows.now c.args.r c.word-k.ensures
    c.in-5.is c.union_fits.ensures

pub returns-in-6 : goal.returns-in-6
returns-in-6 c =
    refers-branch c.args.rows.now c.args.r
    c.word-k.ensures c.in-6.is
    c.word.ensures c.to_struct-in-6.ensures

pub returns-in-8 : goal.returns-in-8
returns-in-8 c =
    refers-alternative c.args.rows.now
    c.args.r c.word-k.ensures
    c.in-8.is c.word-in-8.ensures c.to_type.ensures

pub returns-in-9 : goal.returns-in-9
returns-in-9 c =
    refers-command c.args.rows.now c.args.r
    c.word-k.ensures c.in-9.is c.command_fits.ensures

pub returns-in_default : goal.returns-in_default
returns-in_default c = refers-not c.args.rows.now c.args.r c.word-k.ensures (omega arith)
