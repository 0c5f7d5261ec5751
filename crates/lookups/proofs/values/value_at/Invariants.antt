-- `values::value_at` meets its contract: the fields left decide what all do.
-- The measure is the nodes left.
use Prim.Native.Nat.{suc, ◌-◌}
use Rattle.rules.specs.Values.{value_at}
use Rattle.strings.specs.Strings.{grammar_of}
use Rattle.lookups.proofs.FieldLaws.{FieldsLeft}
use Rattle.lookups.proofs.values.value_at.Given as goal

abbrev pub invariant-loop-a : goal.invariant-loop-a
invariant-loop-a l = FieldsLeft (grammar_of l.dialect) l.s l.nodes (value_at l.name) (suc l.k) l.a l.end

abbrev pub decreases-loop-a : goal.decreases-loop-a
decreases-loop-a l = l.end - l.a
