-- `scalars::read_bool` meets its contract: true or false, or what the caller knows of any other byte.
-- By the first byte.
use Rattle.tokens.proofs.ScalarReads.{true-read, false-read}
use Rattle.tokens.proofs.scalars.read_bool.Goals as goal

pub returns-in-116 : goal.returns-in-116
returns-in-116 c = record { told = λ d _. true-read c.requires d c.in-116.is c.read_kind.ensures }

pub returns-in-102 : goal.returns-in-102
returns-in-102 c = record { told = λ d _. false-read c.requires d c.in-102.is c.read_kind-in-102.ensures }
