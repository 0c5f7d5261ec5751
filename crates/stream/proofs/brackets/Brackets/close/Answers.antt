use Rattle.stream.proofs.Nests.{closes-last, closes_inner}
use Rattle.stream.proofs.brackets.Brackets.close.Goals as goal

pub returns-then-self-lt-TWO_OPEN : goal.returns-then-self-lt-TWO_OPEN
returns-then-self-lt-TWO_OPEN c = closes-last c.args.self.bits c.args.self.«open» c.if-self-lt-TWO_OPEN.true

pub returns-else-self-lt-TWO_OPEN : goal.returns-else-self-lt-TWO_OPEN
returns-else-self-lt-TWO_OPEN c = closes_inner c.args.self.bits c.args.self.«open» c.if-self-lt-TWO_OPEN.false
