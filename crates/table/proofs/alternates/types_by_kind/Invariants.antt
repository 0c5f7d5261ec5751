-- Of the alternatives, those left to look at, and the types found so far.
use Rattle.rules.specs.Rows.{children}
use Rattle.table.proofs.AlternateLaws.{KindsLeft}
use Rattle.table.proofs.alternates.types_by_kind.Given as goal

abbrev pub invariant-loop-i : goal.invariant-loop-i
invariant-loop-i l = KindsLeft l.rows (children l.rows l.r) l.types l.i-iterator
