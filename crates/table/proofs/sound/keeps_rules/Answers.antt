-- `keeps_rules` meets its contract.
-- The first of three tests that fails decides.
use borrow.Author.Rules.{rules}
use Rattle.rows.proofs.Walks.{so}
use Rattle.table.specs.RuleParts.{keeps_rules}
use Rattle.table.proofs.DistinctLaws.{index_links}
use Rattle.table.proofs.sound.keeps_rules.Goals as goal

pub returns-then-not-good_names : goal.returns-then-not-good_names
unfolding keeps_rules
returns-then-not-good_names c = rw (so c.good_names.ensures c.if-not-good_names.true)

pub distinct_names-requires : goal.distinct_names-requires
distinct_names-requires c = (search rules, search rules, index_links c.index_definitions.ensures, search rules)

pub returns-then-not-distinct_names : goal.returns-then-not-distinct_names
unfolding keeps_rules
returns-then-not-distinct_names c = rw (so c.good_names.ensures c.if-not-good_names.false, so c.distinct_names.ensures c.if-not-distinct_names.true)

pub returns : goal.returns
unfolding keeps_rules
returns c = rw (so c.good_names.ensures c.if-not-good_names.false, so c.distinct_names.ensures c.if-not-distinct_names.false) c.definitions_fit.ensures
