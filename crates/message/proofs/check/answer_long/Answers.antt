use Prim.Native.Nat.{◌/◌}
use native.Mathlib.Omega.{arith}
use Rattle.grammar.specs.Limits.{message_bytes}
use Rattle.message.proofs.StageLaws.{nodes-fit}
use borrow.Author.Rules.{rules}
use Rattle.message.proofs.check.answer_long.Goals as goal

-- src/check.rt:159:5
pub answer_in-requires : goal.answer_in-requires
answer_in-requires c = (c.requires.0, nodes-fit (message_bytes / 2) (search rules) (omega (arith, c.requires.1)) (omega arith))
