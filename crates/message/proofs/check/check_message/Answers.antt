use native.Mathlib.Omega.{arith}
use mathlib.Core.Path.{refl}
use Rattle.message.proofs.AnswerLaws.{fits, cleared}
use Rattle.message.proofs.check.check_message.Goals as goal

-- src/check.rt:210:28
pub overflow_mul-n : goal.overflow_mul-n
overflow_mul-n c = omega (arith, fits c.answer-a.ensures c.in-Accepted.is)

-- src/check.rt:195:1
pub returns-in-Refused : goal.returns-in-Refused
returns-in-Refused c = record { told = cleared c.answer-a.ensures c.in-Refused.is refl c.clear.ensures }

-- src/check.rt:195:1
pub returns-in-Accepted : goal.returns-in-Accepted
returns-in-Accepted c = record { told = cleared c.answer-a.ensures c.in-Accepted.is refl c.clear-in-Accepted.ensures }
