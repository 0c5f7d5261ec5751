-- `asked::may_use` meets its contract: out of band wants the command's flag.
use Rattle.message.proofs.AskingLaws.{out_of_band_use}
use Rattle.message.proofs.asked.may_use.Goals as goal

pub returns-then-oob : goal.returns-then-oob
returns-then-oob c = out_of_band_use c.args.rows.now c.args.c c.if-oob.true c.word.ensures
