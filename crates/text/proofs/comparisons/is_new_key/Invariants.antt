-- `comparisons::is_new_key` meets its contract: the keys passed are others.
-- The measure is the nodes left.
use Prim.Native.Nat.{◌-◌}
use Rattle.strings.specs.Strings.{grammar_of}
use Rattle.text.proofs.PairLaws.{Passed}
use Rattle.text.proofs.comparisons.is_new_key.Given as goal

abbrev pub invariant-loop-i : goal.invariant-loop-i
invariant-loop-i l = Passed (grammar_of l.tree.dialect) l.tree.bytes.now l.tree.nodes.now l.b l.a l.i

abbrev pub decreases-loop-i : goal.decreases-loop-i
decreases-loop-i l = l.a - l.i
