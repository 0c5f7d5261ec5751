use Rattle.std.proofs.Common.{arith}
use Rattle.console.proofs.turns.answer_line.Goals as goal

pub shared_ref_as_front-tree : goal.shared_ref_as_front-tree
shared_ref_as_front-tree g c = omega (arith, c.in-Some.ensures.few)
