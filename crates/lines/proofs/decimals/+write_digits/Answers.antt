-- the last digit comes after those of a tenth
use Rattle.lines.proofs.TextLaws.{last_written}
use Rattle.lines.proofs.decimals.+write_digits.Goals as goal

pub returns-clause-text : goal.returns-clause-text
returns-clause-text t c = last_written c.args.n c.args.room.now c.if-n-lt10.false c.requires c.write_digits-p.ensures.text c.write_digits-p.ensures.count
