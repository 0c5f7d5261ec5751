-- `meanings::means` compares what a string means with a name.
-- A plain string means its bytes.
use mathlib.Core.Path.{ap, ◌∙◌}
use Rattle.grammar.specs.Notation.{same}
use Rattle.strings.proofs.Comparisons.{name-plain}
use Rattle.strings.proofs.meanings.means.Goals as goal

pub returns-then-can_stand : goal.returns-then-can_stand
returns-then-can_stand c = name-plain c.args.dialect c.if-plain.true (c.same_bytes.ensures ∙ ap (λ l. same l c.args.name.now) c.inside.ensures)
