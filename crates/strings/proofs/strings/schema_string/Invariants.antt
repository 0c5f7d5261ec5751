-- `text::strings::schema_string` reads a schema string.
-- The loop's invariant: the string is read up to `i`, and `spelling` says whether every byte so far is plain.
use Prim.Native.Nat.{◌-◌}
use lib.ListN.{length}
use Rattle.strings.proofs.StringReads.{SchemaTo}
use Rattle.strings.proofs.strings.schema_string.Given as goal

abbrev pub invariant-loop-i : goal.invariant-loop-i
invariant-loop-i l = SchemaTo l.s l.quote l.i l.spelling

abbrev pub decreases-loop-i : goal.decreases-loop-i
decreases-loop-i l = length l.s - l.i
