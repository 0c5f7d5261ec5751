-- The readers of values, containers, entries and members meet their contracts. They call each other with fewer levels, or with the same and a smaller rank.
-- In the loop the entries so far are the invariant, and what is left of the text is the measure. Each return is a law of its own.
use Prim.Native.Nat.{◌+◌, ◌-◌, ◌*◌}
use lib.ListN.{length}
use Rattle.strings.specs.Strings.{grammar_of}
use Rattle.text.proofs.Entries.{EntriesAt}
use Rattle.text.proofs.reader.+readers.Given as goal

abbrev pub decreases-read_at : goal.decreases-read_at
decreases-read_at l = 5 * l.left + 1

abbrev pub decreases-read_container : goal.decreases-read_container
decreases-read_container l = 5 * l.left

abbrev pub decreases-read_entry : goal.decreases-read_entry
decreases-read_entry l = 5 * l.left + 4

abbrev pub decreases-read_member : goal.decreases-read_member
decreases-read_member l = 5 * l.left + 3

abbrev pub decreases-read_value : goal.decreases-read_value
decreases-read_value l = 5 * l.left + 2

abbrev pub invariant-read_container-loop-entry : goal.invariant-read_container-loop-entry
invariant-read_container-loop-entry l = EntriesAt l.shape l.close (grammar_of l.source.dialect) l.source.bytes.now l.initial.nodes l.nodes l.at l.k l.left l.i l.next

abbrev pub decreases-read_container-loop-entry : goal.decreases-read_container-loop-entry
decreases-read_container-loop-entry l = length l.source.bytes.now - l.i
