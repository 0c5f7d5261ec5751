-- `table::layout::words_used` gives the last word that a kind uses.
-- Kind by kind; of any other number the list has nothing.
use Rattle.table.proofs.LayoutFacts.{none_used}
use Rattle.table.proofs.layout.words_used.Goals as goal

pub returns-in_default : goal.returns-in_default
returns-in_default c = none_used c.args.k c.in_default.in_default-own.rest
