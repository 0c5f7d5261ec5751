-- `index::fill_index` meets its contract: the lists of the definitions before row r are in the index.
-- The measure is the number of rows left.
use mathlib.Core.Path.{refl, ◌∙◌}
use native.Mathlib.Omega.{arith}
use Rattle.rules.proofs.TableRows.{past_children-above}
use Rattle.children.proofs.DefinitionLaws.{filling_start, filling_fits, filling_on, filling_end}
use Rattle.children.proofs.index.fill_index.Goals as goal

pub loop-r-init : goal.loop-r-init
loop-r-init c = (refl, filling_start c.requires.1)

pub add_inline-requires : goal.add_inline-requires
add_inline-requires c = (c.loop-r.invariant.1.listing.chained.words, filling_fits c.requires.0 c.loop-r.invariant.1 c.loop-r-test.true)

pub add_list-requires : goal.add_list-requires
add_list-requires c = (c.add_inline.ensures.room ∙ c.loop-r.invariant.1.listing.chained.words, filling_fits c.requires.0 c.loop-r.invariant.1 c.loop-r-test.true)

pub past_children-r-requires : goal.past_children-r-requires
past_children-r-requires c = omega (arith, filling_fits c.requires.0 c.loop-r.invariant.1 c.loop-r-test.true, past_children-above c.args.rows.now c.loop-r.r)

pub loop-r-smaller : goal.loop-r-smaller
loop-r-smaller c = omega (arith, c.past_children-r.ensures, past_children-above c.args.rows.now c.loop-r.r)

pub loop-r-preserved : goal.loop-r-preserved
loop-r-preserved c =
    (c.add_list.ensures.room ∙ c.add_inline.ensures.room ∙ c.loop-r.invariant.0, filling_on c.requires.0 c.loop-r.invariant.1 c.loop-r-test.true c.add_inline.ensures c.add_list.ensures c.past_children-r.ensures)

pub returns : goal.returns
returns c = filling_end c.requires.0 c.loop-r.invariant.1 c.loop-r-test.false
