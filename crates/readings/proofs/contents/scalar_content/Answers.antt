-- `contents::scalar_content` meets its contract.
-- A scalar is no array.
use Rattle.readings.proofs.ContentLaws.{scalar-array, scalar_misfits, scalar-alone}
use Rattle.readings.proofs.contents.scalar_content.Goals as goal

pub returns-then-array-ne0 : goal.returns-then-array-ne0
returns-then-array-ne0 c = scalar-array c.if-array-ne0.true

pub returns-then-not-enum_has : goal.returns-then-not-enum_has
returns-then-not-enum_has c = scalar_misfits c.if-array-ne0.false c.enum_has.ensures (c.if-not-enum_has.true)

pub returns : goal.returns
returns c = scalar-alone c.if-array-ne0.false c.enum_has.ensures (c.if-not-enum_has.false)
