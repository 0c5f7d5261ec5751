-- what was passed is part of the key
use mathlib.Core.Path.{◌≡◌}
use mathlib.Core.List.{[]}
use Rattle.trees.specs.Backwards.{back}
use Rattle.trees.specs.Labelling.{key_back}
use Rattle.trees.proofs.LabelLaws.{span}
use Rattle.trees.proofs.labels.key_start.Given as goal

abbrev pub invariant-loop-i : goal.invariant-loop-i
invariant-loop-i l = key_back (span l.message l.i l.end) (back l.message l.i) ≡ key_back [] (back l.message l.end)
