-- only blanks were passed
use mathlib.Core.Path.{◌≡◌}
use Rattle.trees.specs.Backwards.{back}
use Rattle.trees.specs.Labelling.{skip_blanks}
use Rattle.trees.proofs.labels.last_byte.Given as goal

abbrev pub invariant-loop-i : goal.invariant-loop-i
invariant-loop-i l = skip_blanks (back l.message l.i) ≡ skip_blanks (back l.message l.end)
