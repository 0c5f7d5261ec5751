-- the line ends in the chunk and is answered, or what the chunk has of it is kept
use Rattle.std.proofs.Common.{refl, arith}
use Rattle.console.proofs.StepLaws.{takes_line, keeps_line, says_as}
use Rattle.console.proofs.steps.take_line.Goals as goal

pub returns-in-None : goal.returns-in-None
returns-in-None g c = (keeps_line _ _ _ _ _ _ _ g.row.L c.requires.0 c.join_line.ensures.joined c.in-None.ensures.left, refl)

pub returns-in-Some : goal.returns-in-Some
returns-in-Some g c =
    takes_line _ _ _ _ _ _ _ g.row.L c.requires.0 c.join_line.ensures.joined c.in-Some.ensures.left.0 c.in-Some.ensures.left.1 (omega (arith, c.put_answer-words.auto.records)) (says_as _ _ _ _ (omega arith) c.bytes.ensures c.put_answer-words.ensures)
