-- `table::names::children_apart` says whether in each list of children no two names are the same.
-- The loop tests every row.
use mathlib.Core.Path.{refl}
use native.Mathlib.Omega.{arith}
use Rattle.rows.proofs.Walks.{so, up_to_hit, up_to-on, up_to-end, up_to-rows}
use Rattle.rows.proofs.ChildLaws.{children-room}
use Rattle.table.proofs.DistinctLaws.{apart-children}
use borrow.Author.Rules.{rules}
use Rattle.table.proofs.names.children_apart.Goals as goal

pub loop-r-init : goal.loop-r-init
loop-r-init c = (refl, up_to-rows _ c.args.table.rows.now)

pub all_apart-requires : goal.all_apart-requires
all_apart-requires c = let p = c.requires in (children-room c.first_child-a.ensures c.child_count-m.ensures, omega (arith, c.loop-r.invariant.0, p.1))

pub returns-then-not-all_apart : goal.returns-then-not-all_apart
returns-then-not-all_apart c =
    let e = apart-children _ _ c.first_child-a.ensures c.child_count-m.ensures c.all_apart.ensures in
    up_to_hit _ _ _ c.loop-r.invariant.1 c.loop-r-test.true (so e c.if-not-all_apart.true)

pub loop-r-preserved : goal.loop-r-preserved
loop-r-preserved c =
    let e = apart-children _ _ c.first_child-a.ensures c.child_count-m.ensures c.all_apart.ensures in
    (search rules, up_to-on _ _ _ c.loop-r.invariant.1 c.loop-r-test.true (so e c.if-not-all_apart.false))

pub returns : goal.returns
returns c = up_to-end _ _ _ c.loop-r.invariant.1 c.loop-r-test.false
