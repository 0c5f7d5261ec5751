-- no LF was passed
use Prim.Native.Nat.{◌+◌}
use mathlib.Core.Path.{◌≡◌}
use Rattle.lines.specs.Lines.{before_lf}
use Rattle.trees.specs.Backwards.{back}
use Rattle.wordings.proofs.positions.line_start.Given as goal

abbrev pub invariant-loop-i : goal.invariant-loop-i
invariant-loop-i l = l.i + before_lf (back l.s l.place) ≡ l.place + before_lf (back l.s l.i)
