-- `meanings::same_meaning` compares what two strings mean.
-- Two plain strings mean their bytes.
use mathlib.Core.Path.{ap₂, ◌∙◌}
use Rattle.grammar.specs.Notation.{same}
use Rattle.strings.proofs.Comparisons.{strings_plain}
use Rattle.strings.proofs.meanings.same_meaning.Goals as goal

pub returns-then-can_stand-2 : goal.returns-then-can_stand-2
returns-then-can_stand-2 c =
    strings_plain c.args.dialect c.if-plain_a.true c.if-plain_b.true (c.same_bytes.ensures ∙ ap₂ (λ x y. same x y) c.inside.ensures c.inside-then-can_stand-2.ensures)
