-- `text::meanings::codes_same` compares the code points of two strings.
-- The loop's invariant: what is left of both says what the whole says.
use Prim.Native.Nat.{◌-◌}
use lib.ListN.{length}
use Rattle.strings.specs.Strings.{grammar_of}
use Rattle.strings.proofs.Codes.{Pairing}
use Rattle.strings.proofs.meanings.codes_same.Given as goal

abbrev pub invariant-loop-i : goal.invariant-loop-i
invariant-loop-i l = Pairing (grammar_of l.dialect) l.s l.a l.b l.i l.j

abbrev pub decreases-loop-i : goal.decreases-loop-i
decreases-loop-i l = length l.s - l.i
