-- `index::put_count` meets its contract: a list has no more mandatory children than children, and the table few rows.
use mathlib.Core.Path.{ap}
use native.Mathlib.Omega.{arith}
use lib.ListN.{set}
use Rattle.rules.proofs.TableRows.{past_children-above, past_children-least}
use Rattle.children.proofs.CountLaws.{own-few}
use Rattle.children.proofs.index.put_count.Goals as goal

pub scanned_mandatory-requires : goal.scanned_mandatory-requires
scanned_mandatory-requires c = omega (arith, c.requires.0, c.requires.1, past_children-above c.args.rows.now c.args.r)

pub overflow_cast-index : goal.overflow_cast-index
overflow_cast-index c = omega (arith, c.requires.1, own-few c.args.rows.now c.args.r, past_children-least c.args.rows.now c.args.r, c.scanned_mandatory.ensures)

pub overflow_add-index : goal.overflow_add-index
overflow_add-index c = omega (arith, c.requires.0, c.requires.1, past_children-above c.args.rows.now c.args.r)

pub offset_bounds-index-r : goal.offset_bounds-index-r
offset_bounds-index-r c = omega (arith, c.requires.0, c.requires.1, past_children-above c.args.rows.now c.args.r)

pub bounds-index-r : goal.bounds-index-r
bounds-index-r c = omega (arith, c.requires.0, c.requires.1, past_children-above c.args.rows.now c.args.r)

pub returns : goal.returns
returns c = record { stored = ap (set c.args.index.now _) c.scanned_mandatory.ensures }
