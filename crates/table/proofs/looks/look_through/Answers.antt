-- `look_through` meets its contract: what is found is added.
use native.Mathlib.Omega.{arith}
use Rattle.table.proofs.LookLaws.{mark-small, marks}
use Rattle.table.proofs.looks.look_through.Goals as goal

pub overflow_add-result : goal.overflow_add-result
overflow_add-result c = omega (arith, c.mark-number.ensures, c.mark-boolean.ensures, mark-small c.has_value.result 1, mark-small c.has_value-2.result 2)

pub overflow_add-result-2 : goal.overflow_add-result-2
overflow_add-result-2 c = omega (arith, c.mark-number.ensures, c.mark-boolean.ensures, mark-small c.has_value.result 1, mark-small c.has_value-2.result 2)

pub returns : goal.returns
returns c = marks c.mark-number.ensures c.has_value.ensures c.mark-boolean.ensures c.has_value-2.ensures
