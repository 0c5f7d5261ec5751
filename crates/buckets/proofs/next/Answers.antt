-- `next` meets its contract: past the end a list's element is its default.
use mathlib.Core.Path.{sym}
use lib.ListN.{get_or-eq_default}
use Rattle.buckets.proofs.next.Goals as goal

pub returns-then-links-i : goal.returns-then-links-i
returns-then-links-i c = sym (get_or-eq_default c.args.links.now 0 c.if-links-i.true)
