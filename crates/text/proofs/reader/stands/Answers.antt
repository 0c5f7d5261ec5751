-- `reader::stands` meets its contract: past the end no byte stands, elsewhere the test tells.
-- Assumes nothing.
use Rattle.text.proofs.Values.{stands-byte}
use Rattle.text.proofs.reader.stands.Goals as goal

pub returns : goal.returns
returns c = stands-byte _ _ _ c.if-s-i.false
