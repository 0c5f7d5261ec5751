-- `index::first_indexed` meets its contract: the keys before node i are listed, and repeat none.
-- The measure is the nodes left.
use Prim.Native.Nat.{◌-◌, ◌≤◌}
use Rattle.strings.specs.Strings.{grammar_of}
use Rattle.text.proofs.IndexLaws.{Listing}
use Rattle.text.proofs.index.first_indexed.Given as goal

abbrev pub invariant-loop-i : goal.invariant-loop-i
invariant-loop-i l = (l.b ≤ l.i) × Listing (grammar_of l.tree.dialect) l.tree.bytes.now l.tree.nodes.now l.b l.end l.heads l.links l.i

abbrev pub decreases-loop-i : goal.decreases-loop-i
decreases-loop-i l = l.end - l.i
