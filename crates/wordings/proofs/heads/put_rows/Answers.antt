-- three pieces, one after another
use Rattle.std.proofs.Common.{append_assoc}
use Rattle.wordings.proofs.HeadLaws.{rows_are}
use Rattle.wordings.proofs.heads.put_rows.Goals as goal

pub returns : goal.returns
returns g c = rw (c.push.ensures, c.put_number.ensures, c.put.ensures, rows_are) (simp append_assoc)
