-- `word_of` meets its contract: either test says that the place is past the end, else that place is read.
-- The division keeps the product within the length.
use mathlib.Core.Path.{sym}
use native.Mathlib.Omega.{arith}
use lib.ListN.{get_or-eq_default}
use Rattle.words.proofs.WordLaws.{item-past, item-within}
use Rattle.words.proofs.word_of.Goals as goal

pub returns-then-words-width : goal.returns-then-words-width
returns-then-words-width c = sym (get_or-eq_default c.args.words.now 0 (omega (arith, item-past _ c.requires c.if-words-width.true)))

pub overflow_mul-at : goal.overflow_mul-at
overflow_mul-at c = omega (arith, item-within _ c.requires c.if-words-width.false)

pub overflow_sub-words : goal.overflow_sub-words
overflow_sub-words c = omega (arith, item-within _ c.requires c.if-words-width.false)

pub returns-then-words-at : goal.returns-then-words-at
returns-then-words-at c = sym (get_or-eq_default c.args.words.now 0 (omega arith))
