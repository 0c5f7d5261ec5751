-- `blanks::skip_blanks` meets its contract: the machine passes over the blanks and comments in every control that skips them.
-- The invariant says so up to `i`; what neither is a blank nor starts a comment is solid.
use Prim.Native.Nat.{◌-◌}
use lib.ListN.{length}
use Rattle.strings.specs.Strings.{grammar_of}
use Rattle.tokens.proofs.BlankRuns.{Passed}
use Rattle.tokens.proofs.blanks.skip_blanks.Given as goal

abbrev pub invariant-loop-i : goal.invariant-loop-i
invariant-loop-i l = Passed (grammar_of l.source.dialect) l.s l.from l.i

abbrev pub decreases-loop-i : goal.decreases-loop-i
decreases-loop-i l = length l.s - l.i
