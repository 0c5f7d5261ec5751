-- `lists::all_placed` meets its contract: those passed are placed.
use native.Mathlib.Omega.{arith}
use mathlib.Core.Path.{sym, ◌∙◌}
use Rattle.sorted.proofs.ListLaws.{placed-none, placed-more, placed-all}
use Rattle.sorted.proofs.lists.all_placed.Goals as goal

pub loop-i-init : goal.loop-i-init
loop-i-init c = placed-none

pub loop-i-preserved : goal.loop-i-preserved
loop-i-preserved c = placed-more c.loop-i.invariant c.number_at-k.ensures (omega arith) (sym c.number_at.ensures ∙ c.if-number_at-i.false)

pub returns : goal.returns
returns c = λ t. placed-all c.loop-i-test.false c.loop-i.invariant
