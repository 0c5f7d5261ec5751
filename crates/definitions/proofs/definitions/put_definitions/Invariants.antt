-- `definitions::put_definitions` meets its contract: the definitions passed are put, those left decide the rest.
-- The measure is the nodes left. Rows never outnumber the nodes passed.
use Prim.Native.Nat.{◌-◌}
use Rattle.definitions.proofs.TableLaws.{DefinitionsLeft}
use Rattle.definitions.proofs.definitions.put_definitions.Given as goal

abbrev pub invariant-loop-k : goal.invariant-loop-k
invariant-loop-k l = DefinitionsLeft l.s l.nodes l.initial.rows l.rows l.count l.k l.n

abbrev pub decreases-loop-k : goal.decreases-loop-k
decreases-loop-k l = l.count - l.k
