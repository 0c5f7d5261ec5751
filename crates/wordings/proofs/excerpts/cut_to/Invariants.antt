-- from here with the columns left the cut ends where it does from the place
use mathlib.Core.Path.{◌≡◌}
use lib.ListN.{drop}
use Rattle.wordings.specs.Excerpts.{side_columns, cut_to}
use Rattle.wordings.proofs.excerpts.cut_to.Given as goal

abbrev pub invariant-loop-i : goal.invariant-loop-i
invariant-loop-i l = cut_to l.columns l.i (drop l.i l.s) ≡ cut_to side_columns l.place (drop l.place l.s)
