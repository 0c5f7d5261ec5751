-- `text::meanings::codes_mean` compares the code points of a string with a name.
-- The loop's invariant: what is left of both says what the whole says.
use Prim.Native.Nat.{◌-◌}
use lib.ListN.{length}
use Rattle.strings.specs.Strings.{grammar_of}
use Rattle.strings.proofs.Codes.{Matching}
use Rattle.strings.proofs.meanings.codes_mean.Given as goal

abbrev pub invariant-loop-i : goal.invariant-loop-i
invariant-loop-i l = Matching (grammar_of l.dialect) l.s l.a l.name l.i l.j

abbrev pub decreases-loop-i : goal.decreases-loop-i
decreases-loop-i l = length l.s - l.i
