use Rattle.trees.proofs.LabelLaws.{turned_end}
use Rattle.trees.proofs.labels.even_slashes.Goals as goal

pub returns : goal.returns
returns c = turned_end c.args.message.now c.loop-i.i c.loop-i.even c.loop-i-test.false c.loop-i.invariant
