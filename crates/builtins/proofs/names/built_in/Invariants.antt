-- `built_in` meets its contract: the names before the loop's number are not the one asked for.
use Rattle.builtins.proofs.NameLaws.{Unmet}
use Rattle.builtins.proofs.names.built_in.Given as goal

abbrev pub invariant-loop-b : goal.invariant-loop-b
invariant-loop-b l = Unmet l.name l.b
