-- `keys::least_node` meets its contract: the nodes passed are searched.
use Rattle.strings.specs.Strings.{grammar_of}
use Rattle.text.specs.Search.{Searched}
use Rattle.text.proofs.keys.least_node.Given as goal

abbrev pub invariant-loop-at : goal.invariant-loop-at
invariant-loop-at l = Searched (grammar_of l.tree.dialect) l.tree.bytes.now l.tree.nodes.now l.count l.at l.best
