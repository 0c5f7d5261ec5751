use native.Mathlib.Omega.{arith}
use mathlib.Core.Path.{◌∙◌}
use borrow.Author.Tests.{lt-ltb, le-ltb}
use Rattle.stream.proofs.Nests.{levels-left, one_more}
use Rattle.stream.proofs.brackets.Brackets.open.Goals as goal

pub returns-then-self-lt-FULL : goal.returns-then-self-lt-FULL
returns-then-self-lt-FULL c =
    (one_more c.args.self.bits c.args.self.«open» c.args.object c.if-self-lt-FULL.true, levels-left c.args.self.bits (omega (arith, c.args.self.«open».some_open)) ∙ lt-ltb _ _ c.if-self-lt-FULL.true)

pub returns-else-self-lt-FULL : goal.returns-else-self-lt-FULL
returns-else-self-lt-FULL c = levels-left c.args.self.bits (omega (arith, c.args.self.«open».some_open)) ∙ le-ltb _ _ c.if-self-lt-FULL.false
