-- `names::names_clash` says whether two names are one in C.
-- Lengths refuse early; the loop tests every place from the first on.
use mathlib.Core.Path.{sym, ◌∙◌}
use borrow.Author.Tests.{eq-eqb, ne_eqb}
use Rattle.rows.proofs.Walks.{up_to_hit, up_to-on, up_to-end}
use Rattle.rows.proofs.NameFacts.{clash-up_to, clash-length}
use Rattle.rows.proofs.names.names_clash.Goals as goal

pub returns-then-x-y : goal.returns-then-x-y
returns-then-x-y c = let a = c.args in clash-length a.x.now a.y.now c.if-x-y.true

pub loop-i-init : goal.loop-i-init
loop-i-init c = let a = c.args in clash-up_to a.x.now a.y.now c.if-x-y.false

pub returns-then-c_byte : goal.returns-then-c_byte
returns-then-c_byte c = up_to_hit _ _ _ c.loop-i.invariant c.loop-i-test.true (ne_eqb _ _ (λ e. c.if-c_byte.true (c.c_byte.ensures ∙ e ∙ sym c.c_byte-in-loop-i.ensures)))

pub loop-i-preserved : goal.loop-i-preserved
loop-i-preserved c = up_to-on _ _ _ c.loop-i.invariant c.loop-i-test.true (eq-eqb _ _ (sym c.c_byte.ensures ∙ c.if-c_byte.false ∙ c.c_byte-in-loop-i.ensures))

pub returns : goal.returns
returns c = up_to-end _ _ _ c.loop-i.invariant c.loop-i-test.false
