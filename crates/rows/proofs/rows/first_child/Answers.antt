-- `rows::rows::first_child` gives the first child of a row.
-- It is the next row, or the one after the inline struct's.
use borrow.Author.Rules.{rules}
use mathlib.Core.Path.{ap}
use mathlib.Core.Bool.{not}
use native.Mathlib.Omega.{arith}
use Rattle.rows.proofs.ChildLaws.{first_next, first_past}
use Rattle.rows.proofs.rows.first_child.Goals as goal

pub returns-then-not-owns_struct : goal.returns-then-not-owns_struct
returns-then-not-owns_struct c = record { is = first_next c.next_row-s.ensures c.owns_struct.ensures (ap not c.if-not-owns_struct.true); low = omega (arith, c.next_row-s.ensures.low, c.requires) }

pub returns : goal.returns
returns c =
    record {
      is = first_past c.next_row-s.ensures c.owns_struct.ensures (ap not c.if-not-owns_struct.false) c.next_row.ensures c.word.ensures c.past_rows.ensures.0;
      low = search rules;
    }
