-- `put_item` meets its contract: the item is written where all of it fits.
use Rattle.std.proofs.Common.{sym}
use Rattle.words.proofs.WordLaws.{item_unwritten, item-put}
use Rattle.words.proofs.put_item.Goals as goal

pub returns-then-words-k : goal.returns-then-words-k
returns-then-words-k g c = sym (item_unwritten g.row.W c.args.words.now c.args.item c.requires c.if-words-k.true)

pub returns : goal.returns
returns g c = item-put g.row.W c.args.words.now c.args.item c.requires c.if-words-k.false c.copy_from_slice.ensures.after c.copy_from_slice.ensures.len
