-- `texts::read_whole` meets its contract: a value with blanks around and nothing after them.
use Rattle.text.proofs.Inside.{handed_on}
use Rattle.text.proofs.Wholes.{message-whole, message-more, message-stops}
use Rattle.text.proofs.texts.read_whole.Goals as goal

pub returns-in_err-value : goal.returns-in_err-value
returns-in_err-value c = rw (handed_on c.from_residual.result c.from_residual.ensures.1) (message-stops c.read_value.ensures _ c.in_err-value.was)

pub returns-then-p-s : goal.returns-then-p-s
returns-then-p-s c = message-more c.read_value.ensures c.in_ok-value.was c.skip_blanks-p.ensures c.if-p-s.true

pub returns : goal.returns
returns c = message-whole c.read_value.ensures c.in_ok-value.was c.skip_blanks-p.ensures c.if-p-s.false
