use Prim.Native.Nat.{◌/◌}
use native.Mathlib.Omega.{arith}
use Rattle.message.specs.Stages.{short_message}
use Rattle.message.proofs.StageLaws.{nodes-fit}
use borrow.Author.Rules.{rules}
use Rattle.message.proofs.check.answer_short.Goals as goal

-- src/check.rt:145:5
pub answer_in-requires : goal.answer_in-requires
answer_in-requires c = (c.requires.0, nodes-fit (short_message / 2) (search rules) (omega (arith, c.requires.1)) (omega arith))
