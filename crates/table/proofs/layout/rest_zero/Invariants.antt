-- `table::layout::rest_zero` says whether the words that a row's kind does not use are 0.
-- The loop tests every word after the last used one.
use Prim.Native.Nat.{◌+◌, ◌*◌}
use mathlib.Core.Path.{◌≡◌}
use lib.Dec.{eqb}
use lib.ListN.{get_or}
use Rattle.grammar.specs.Limits.{row_words}
use Rattle.rules.specs.Sound.{rest_zero}
use Rattle.rows.proofs.Walks.{up_to}
use Rattle.table.proofs.layout.rest_zero.Given as goal

abbrev pub invariant-loop-i : goal.invariant-loop-i
invariant-loop-i l = rest_zero l.rows l.r ≡ up_to (λ j. eqb (get_or l.rows (row_words * l.r + j) 0) 0) l.i row_words
