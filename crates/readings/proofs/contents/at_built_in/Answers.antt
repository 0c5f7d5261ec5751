-- `contents::at_built_in` meets its contract.
-- By the two words of the type.
use Rattle.readings.proofs.ContentLaws.{no_plain, no_type, by_number}
use Rattle.readings.proofs.contents.at_built_in.Goals as goal

pub returns-then-array-ne0 : goal.returns-then-array-ne0
returns-then-array-ne0 c = no_plain c.if-array-ne0.true

pub returns-then-t-eq0 : goal.returns-then-t-eq0
returns-then-t-eq0 c = no_type c.if-array-ne0.false c.if-t-eq0.true

pub returns : goal.returns
returns c = by_number c.if-array-ne0.false c.if-t-eq0.false
