-- A type without a range takes any number; one with a range an integer within it.
use Rattle.readings.proofs.KindLaws.{number-free, number-other, number-within}
use Rattle.readings.proofs.kinds.number_fits.Goals as goal

pub returns-in_default : goal.returns-in_default
returns-in_default c = number-free _ _ c.in_default.ensures

pub returns-then-node_word-ne-INTEGER : goal.returns-then-node_word-ne-INTEGER
returns-then-node_word-ne-INTEGER c = number-other _ _ c.in-Some.ensures c.node_word.ensures c.if-node_word-ne-INTEGER.true

pub returns : goal.returns
returns c = number-within _ _ c.in-Some.ensures c.node_word.ensures c.if-node_word-ne-INTEGER.false c.node_number-a.ensures c.node_number-e.ensures c.in_range.ensures
