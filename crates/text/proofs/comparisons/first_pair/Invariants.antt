-- `comparisons::first_pair` meets its contract: the keys passed repeat none.
-- The measure is the nodes left.
use Prim.Native.Nat.{◌-◌}
use Rattle.strings.specs.Strings.{grammar_of}
use Rattle.text.proofs.PairLaws.{Turned}
use Rattle.text.proofs.comparisons.first_pair.Given as goal

abbrev pub invariant-loop-i : goal.invariant-loop-i
invariant-loop-i l = Turned (grammar_of l.tree.dialect) l.tree.bytes.now l.tree.nodes.now l.b l.end l.i

abbrev pub decreases-loop-i : goal.decreases-loop-i
decreases-loop-i l = l.end - l.i
