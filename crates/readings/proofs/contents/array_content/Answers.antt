-- `contents::array_content` meets its contract.
-- By the flag.
use Rattle.readings.proofs.ContentLaws.{array_elements, array_misfits}
use Rattle.readings.proofs.contents.array_content.Goals as goal

pub returns-then-array-ne1 : goal.returns-then-array-ne1
returns-then-array-ne1 c = array_misfits c.if-array-ne1.true

pub returns : goal.returns
returns c = array_elements c.if-array-ne1.false
