-- `rows::child_count` counts a row's children.
-- By kind: the count stands in a word of its own, and other kinds have none.
use Rattle.rules.specs.Kinds.{enum_kind, struct_kind, union_kind, alternate_kind}
use mathlib.Core.Path.{sym, ◌∙◌}
use native.Mathlib.Omega.{arith}
use borrow.Author.Rules.{rules}
use borrow.Author.Tests.{ne_eqb}
use Rattle.rules.specs.Rows.{child_count}
use Rattle.rows.proofs.rows.child_count.Goals as goal

pub returns-in-1 : goal.returns-in-1
unfolding child_count
returns-in-1 c = record { is = simp (sym c.word.ensures ∙ c.in-1.is, c.word-in-1.ensures); few = search rules }

pub returns-in-3 : goal.returns-in-3
unfolding child_count
returns-in-3 c = record { is = simp (sym c.word.ensures ∙ c.in-3.is, c.word-in-3.ensures); few = search rules }

pub returns-in-5 : goal.returns-in-5
unfolding child_count
returns-in-5 c = record { is = simp (sym c.word.ensures ∙ c.in-5.is, c.word-in-5.ensures); few = search rules }

pub returns-in-7 : goal.returns-in-7
unfolding child_count
returns-in-7 c = record { is = simp (sym c.word.ensures ∙ c.in-7.is, c.word-in-7.ensures); few = search rules }

pub returns-in_default : goal.returns-in_default
unfolding child_count
returns-in_default c =
    let n = c.in_default.in_default-own.rest in
    record { is = simp (sym c.word.ensures, ne_eqb _ enum_kind n.0.0.0.1, ne_eqb _ struct_kind n.0.0.1, ne_eqb _ union_kind n.0.1, ne_eqb _ alternate_kind n.1); few = omega arith }
