-- `values::node_means` meets its contract: the words of the node say where the token stands and whether it is plain.
use mathlib.Core.Path.{◌∙◌, ap}
use borrow.Author.Rules.{rules}
use Rattle.lookups.specs.Lookups.{plain_kind}
use Rattle.strings.specs.Strings.{grammar_of}
use Rattle.lookups.proofs.NodeLaws.{node_means}
use Rattle.lookups.proofs.values.node_means.Goals as goal

pub returns : goal.returns
returns c = node_means (grammar_of c.args.dialect) c.args.s.now c.args.nodes.now (search rules) (search rules) (c.plain_kind-plain.ensures ∙ ap plain_kind c.node_word.ensures) c.means.ensures
