-- `blanks::comment_end` meets its contract: the machine leaves the comment at its LF or at the end.
-- The invariant: up to `i` the machine stays inside the comment.
use native.Mathlib.Omega.{arith}
use Rattle.tokens.proofs.BlankRuns.{commented_more, comment_line, comment-text}
use Rattle.tokens.proofs.blanks.comment_end.Goals as goal

pub returns-then-s-i-eq10 : goal.returns-then-s-i-eq10
returns-then-s-i-eq10 c = comment_line c.loop-i.invariant (omega arith) c.if-s-i-eq10.true

pub loop-i-preserved : goal.loop-i-preserved
loop-i-preserved c = commented_more c.loop-i.invariant (omega arith) c.if-s-i-eq10.false

pub returns : goal.returns
returns c = rw c.max.ensures (comment-text c.loop-i.invariant (omega arith))
