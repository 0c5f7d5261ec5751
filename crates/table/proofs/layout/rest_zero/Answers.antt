-- `table::layout::rest_zero` says whether the words that a row's kind does not use are 0.
-- The loop tests every word after the last used one.
use mathlib.Core.Path.{◌∙◌}
use borrow.Author.Tests.{eq-eqb, ne_eqb}
use Rattle.rows.proofs.Walks.{so, up_to_hit, up_to-on, up_to-end}
use Rattle.table.proofs.LayoutFacts.{rest-up_to}
use Rattle.table.proofs.layout.rest_zero.Goals as goal

pub loop-i-init : goal.loop-i-init
loop-i-init c = let a = c.args in rest-up_to a.rows.now a.r _ _ c.word.ensures c.words_used-i.ensures

pub returns-then-word-ne0 : goal.returns-then-word-ne0
returns-then-word-ne0 c = up_to_hit _ _ _ c.loop-i.invariant c.loop-i-test.true (ne_eqb _ 0 (λ e. c.if-word-ne0.true (c.word-in-loop-i.ensures ∙ e)))

pub loop-i-preserved : goal.loop-i-preserved
loop-i-preserved c = up_to-on _ _ _ c.loop-i.invariant c.loop-i-test.true (eq-eqb _ 0 (so c.word-in-loop-i.ensures c.if-word-ne0.false))

pub returns : goal.returns
returns c = up_to-end _ _ _ c.loop-i.invariant c.loop-i-test.false
