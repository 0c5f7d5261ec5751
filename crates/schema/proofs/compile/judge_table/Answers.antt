-- `compile::judge_table` meets its contract: the resolved rows are the table.
use mathlib.Core.Path.{refl, sym}
use lib.Seq.{length-take-le}
use Rattle.schema.proofs.TextLaws.{still_links, is-table, refers}
use borrow.Author.Rules.{rules}
use Rattle.schema.proofs.compile.judge_table.Goals as goal

pub index_definitions-requires : goal.index_definitions-requires
index_definitions-requires c = (search rules, search rules, refl)

pub slice_bounds-judge_names-end : goal.slice_bounds-judge_names-end
slice_bounds-judge_names-end c = sym (length-take-le _ _ (search rules))

pub judge_names-requires : goal.judge_names-requires
judge_names-requires c =
    let w = c.requires.0 in
    let r = c.resolve-found.ensures in
    (search rules, still_links w r c.index_definitions.ensures, search rules, search rules, is-table w r, refers w r)
