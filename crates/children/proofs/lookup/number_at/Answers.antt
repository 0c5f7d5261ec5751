-- `lookup::number_at` meets its contract: past the end a list's element is its default.
use lib.ListN.{get_or-eq_default}
use mathlib.Core.Path.{sym}
use Rattle.children.proofs.lookup.number_at.Goals as goal

pub returns-then-words-i : goal.returns-then-words-i
returns-then-words-i c = sym (get_or-eq_default c.args.words.now 0 c.if-words-i.true)
