-- Of the alternatives, those left to look at.
use Rattle.std.proofs.Common.{◌≡◌}
use Rattle.rules.specs.Rows.{children}
use Rattle.rules.specs.Serving.ReadingOf.{of_kind}
use Rattle.builtins.specs.Kinds.{kind_in}
use Rattle.readings.proofs.types.alternative.Given as goal

abbrev pub invariant-loop-i : goal.invariant-loop-i
invariant-loop-i l = of_kind l.rows (kind_in l.k) (children l.rows l.r) ≡ of_kind l.rows (kind_in l.k) l.i-iterator
