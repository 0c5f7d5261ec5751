-- the answer is that of what is left, turned for each backslash passed
use mathlib.Core.Path.{◌≡◌}
use Rattle.trees.specs.Backwards.{back}
use Rattle.trees.specs.Labelling.{even_slashes}
use Rattle.trees.proofs.LabelLaws.{turned}
use Rattle.trees.proofs.labels.even_slashes.Given as goal

abbrev pub invariant-loop-i : goal.invariant-loop-i
invariant-loop-i l = turned l.even (even_slashes (back l.message l.i)) ≡ even_slashes (back l.message l.end)
