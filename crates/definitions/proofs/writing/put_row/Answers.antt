-- `writing::put_row` meets its contract: the whole row where it fits, or nothing.
use Rattle.definitions.proofs.Stores.{put_whole}
use Rattle.definitions.proofs.writing.put_row.Goals as goal

pub returns-then-n-rows : goal.returns-then-n-rows
returns-then-n-rows c = put_whole _ _ c.told-own c.if-n-rows.true c.copy_from_slice.ensures.after
