-- `texts::read_objects` meets its contract: objects with blanks and comments around, to the end. The invariant: the objects so far, read and held.
-- The measure is what is left of the text. Assumes nothing.
use Prim.Native.Nat.{◌-◌}
use lib.ListN.{length}
use Rattle.text.proofs.Wholes.{ObjectsAt}
use Rattle.text.proofs.texts.read_objects.Given as goal

abbrev pub invariant-objects : goal.invariant-objects
invariant-objects l = ObjectsAt l.s l.initial.nodes l.nodes l.i l.n

abbrev pub decreases-objects : goal.decreases-objects
decreases-objects l = length l.s - l.i
