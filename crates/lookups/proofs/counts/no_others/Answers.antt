-- `counts::no_others` meets its contract: as many fields as values that were found.
use borrow.Author.Rules.{rules}
use Rattle.lookups.proofs.KeyCounts.{no_other}
use Rattle.lookups.proofs.counts.no_others.Goals as goal

pub returns : goal.returns
returns c = no_other (search rules) c.field_count.ensures
