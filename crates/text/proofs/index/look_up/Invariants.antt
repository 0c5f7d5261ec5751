-- `index::look_up` meets its contract: the keys passed have other hashes.
use Rattle.strings.specs.Strings.{grammar_of}
use Rattle.text.proofs.IndexLaws.{Walked}
use Rattle.text.proofs.index.look_up.Given as goal

abbrev pub invariant-loop-left : goal.invariant-loop-left
invariant-loop-left l = Walked (grammar_of l.tree.dialect) l.tree.bytes.now l.tree.nodes.now l.b l.a l.hash l.links l.head l.word
