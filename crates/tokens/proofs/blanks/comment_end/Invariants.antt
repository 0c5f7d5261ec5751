-- `blanks::comment_end` meets its contract: the machine leaves the comment at its LF or at the end.
-- The invariant: up to `i` the machine stays inside the comment.
use Rattle.grammar.specs.Serving.Machine.Schema.{schema}
use Rattle.tokens.proofs.BlankRuns.{Commented}
use Rattle.tokens.proofs.blanks.comment_end.Given as goal

abbrev pub invariant-loop-i : goal.invariant-loop-i
invariant-loop-i l = Commented schema l.s l.from l.i
