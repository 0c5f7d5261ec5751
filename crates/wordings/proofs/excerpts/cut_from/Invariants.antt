-- from here with the columns left the cut begins where it does from the place
use mathlib.Core.Path.{◌≡◌}
use Rattle.wordings.specs.Excerpts.{side_columns, cut_from}
use Rattle.wordings.proofs.excerpts.cut_from.Given as goal

abbrev pub invariant-loop-i : goal.invariant-loop-i
invariant-loop-i l = cut_from l.columns l.s l.i ≡ cut_from side_columns l.s l.place
