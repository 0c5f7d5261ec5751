-- `strings::plain_end` finds the first byte of a message string that is not plain.
-- The loop has passed only plain bytes.
use Rattle.strings.proofs.StringReads.{PlainTo}
use Rattle.strings.proofs.strings.plain_end.Given as goal

abbrev pub invariant-loop-i : goal.invariant-loop-i
invariant-loop-i l = PlainTo l.s l.from l.i
