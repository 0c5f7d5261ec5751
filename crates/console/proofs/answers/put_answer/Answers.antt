-- style by style: the call, and its line
use Rattle.console.proofs.AnswerLaws.{says_numbers, says_tree}
use Rattle.console.proofs.answers.put_answer.Goals as goal

pub returns-in-Numbers : goal.returns-in-Numbers
returns-in-Numbers g c = says_numbers c.check_message-answer.ensures c.in-Numbers.is c.put_numbers.ensures

pub returns-in-Tree : goal.returns-in-Tree
returns-in-Tree g c = says_tree c.check_message-answer.ensures c.in-Tree.is c.put_message_head.ensures c.message_records.ensures c.words_of.ensures
