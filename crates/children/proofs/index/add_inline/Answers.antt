-- `index::add_inline` meets its contract: the rows of an inline struct lie within its owner's.
use native.Mathlib.Omega.{arith}
use Rattle.rules.proofs.TableRows.{past_children-above}
use Rattle.children.proofs.DefinitionLaws.{inline_fits_lem, inline-list, inline-none}
use Rattle.children.proofs.index.add_inline.Goals as goal

pub owns_struct-requires : goal.owns_struct-requires
owns_struct-requires c = omega (arith, c.requires.1, past_children-above c.args.rows.now c.args.r)

pub next_row-s-requires : goal.next_row-s-requires
next_row-s-requires c = omega (arith, c.requires.1, past_children-above c.args.rows.now c.args.r)

pub add_list-requires : goal.add_list-requires
add_list-requires c = (c.requires.0, inline_fits_lem _ _ c.owns_struct.ensures c.if-owns_struct.true c.next_row-s.ensures c.requires.1)

pub returns-then-owns_struct : goal.returns-then-owns_struct
returns-then-owns_struct c = inline-list c.owns_struct.ensures c.if-owns_struct.true c.next_row-s.ensures c.add_list.ensures

pub returns-else-owns_struct : goal.returns-else-owns_struct
returns-else-owns_struct c = inline-none c.owns_struct.ensures c.if-owns_struct.false
