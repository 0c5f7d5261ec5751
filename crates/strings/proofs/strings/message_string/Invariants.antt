-- `text::strings::message_string` reads a message string.
-- The loop's invariant: the string is read up to `i`, and a byte that is not plain stands before `i` or at it.
use Prim.Native.Nat.{◌-◌}
use lib.ListN.{length}
use Rattle.strings.proofs.StringReads.{CodedTo}
use Rattle.strings.proofs.strings.message_string.Given as goal

abbrev pub invariant-loop-i : goal.invariant-loop-i
invariant-loop-i l = CodedTo l.s l.quote l.i

abbrev pub decreases-loop-i : goal.decreases-loop-i
decreases-loop-i l = length l.s - l.i
