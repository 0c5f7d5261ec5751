-- `lists::own_mandatory` meets its contract: a long list is counted in the index, a short one looked through.
use Rattle.children.proofs.CountLaws.{own_indexed, own_scanned}
use Rattle.children.proofs.lists.own_mandatory.Goals as goal

pub returns-then-is_long : goal.returns-then-is_long
returns-then-is_long c = own_indexed _ _ c.shared_slice_known-2-1.given c.is_long.ensures c.if-is_long.true c.indexed_mandatory.ensures

pub returns : goal.returns
returns c = own_scanned _ c.shared_slice_known-1.given _ c.scanned_mandatory.ensures
