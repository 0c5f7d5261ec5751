-- `compile::judge_rows` meets its contract: the definitions, then the raw rows.
use mathlib.Core.Path.{refl}
use Rattle.schema.proofs.TextLaws.{no_definitions, definitions-on, put_refused, put_rows_lem, put-few, raw-length, raw-rows}
use borrow.Author.Rules.{rules}
use Rattle.schema.proofs.compile.judge_rows.Goals as goal

pub overflow_mul-end : goal.overflow_mul-end
overflow_mul-end c = let h = put-few c.requires.0 c.requires.1 refl c.put_definitions.ensures c.in-Ok.is in search rules

pub slice_bounds-table-end : goal.slice_bounds-table-end
slice_bounds-table-end c = let h = put-few c.requires.0 c.requires.1 refl c.put_definitions.ensures c.in-Ok.is in search rules

pub slice_bounds-judge_table-end : goal.slice_bounds-judge_table-end
slice_bounds-judge_table-end c = raw-length c.requires.0 c.requires.1 refl c.put_definitions.ensures c.in-Ok.is (search rules)

pub judge_table-requires : goal.judge_table-requires
judge_table-requires c = (raw-rows c.requires.0 c.requires.1 refl c.put_definitions.ensures c.in-Ok.is (search rules), c.requires.2)

pub returns-in-Err : goal.returns-in-Err
returns-in-Err c = no_definitions c.requires.0 c.requires.2 (put_refused c.requires.0 c.requires.1 refl c.put_definitions.ensures c.in-Err.is)

pub returns-in-Ok : goal.returns-in-Ok
returns-in-Ok c = definitions-on c.requires.0 (put_rows_lem c.requires.0 c.requires.1 refl c.put_definitions.ensures c.in-Ok.is).are c.judge_table.ensures
