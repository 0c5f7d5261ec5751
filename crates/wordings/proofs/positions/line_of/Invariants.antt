-- the lines counted and those that end before are all
use Prim.Native.Nat.{◌+◌}
use mathlib.Core.Path.{◌≡◌}
use Rattle.trees.specs.Backwards.{back}
use Rattle.wordings.specs.Excerpts.{line_ends, line_of}
use Rattle.wordings.proofs.positions.line_of.Given as goal

abbrev pub invariant-loop-i : goal.invariant-loop-i
invariant-loop-i l = l.line + line_ends (back l.s l.i) ≡ line_of l.s l.place
