-- `members_apart` meets its contract: a walk up the chain of bases, which judges each struct's own children last.
-- The measure is the number of structs left; against members it is more, by the structs of their chain, since each struct is judged by such a walk.
use mathlib.Core.Path.{sym, ap, ◌∙◌}
use native.Mathlib.Omega.{arith}
use Rattle.rows.proofs.Walks.{so}
use Rattle.table.specs.Chains.{number_of}
use Rattle.table.proofs.ChainLaws.{walk_none, walk_out, walk-on, members_apart-walk, own-children, own-members, structs_of}
use Rattle.table.proofs.chains.+members_apart.Goals as goal

pub returns-then-link-eq0 : goal.returns-then-link-eq0
returns-then-link-eq0 t c = walk_none (members_apart-walk _ _ _) c.if-link-eq0.true

pub returns-then-left-eq0 : goal.returns-then-left-eq0
returns-then-left-eq0 t c = walk_out (members_apart-walk _ _ _) c.if-link-eq0.false c.if-left-eq0.true

pub returns-then-not-members_apart : goal.returns-then-not-members_apart
returns-then-not-members_apart t c =
    walk-on (members_apart-walk _ _ _) c.if-link-eq0.false c.if-left-eq0.false c.word-base.ensures (sym (so c.members_apart.ensures c.if-not-members_apart.true))

pub lists_apart-requires : goal.lists_apart-requires
lists_apart-requires t c =
    let n = ap number_of c.in-Children.is in
    (omega arith, omega arith)

pub members_apart-requires-in-Members : goal.members_apart-requires-in-Members
members_apart-requires-in-Members t c =
    let n = ap number_of c.in-Members.is in
    let m = ap structs_of c.in-Members.is in
    (omega arith, (omega arith, omega arith))

pub returns-in-Children : goal.returns-in-Children
returns-in-Children t c =
    own-children _ _ _ c.in-Children.is c.lists_apart.ensures
    ∙ walk-on (members_apart-walk _ _ _) c.if-link-eq0.false c.if-left-eq0.false c.word-base.ensures (sym (so c.members_apart.ensures c.if-not-members_apart.false))

pub returns-in-Members : goal.returns-in-Members
returns-in-Members t c =
    own-members _ _ _ c.in-Members.is c.members_apart-in-Members.ensures
    ∙ walk-on (members_apart-walk _ _ _) c.if-link-eq0.false c.if-left-eq0.false c.word-base.ensures (sym (so c.members_apart.ensures c.if-not-members_apart.false))
