-- `contents::object_content` meets its contract.
-- An object is no array; it is read by its members.
use Rattle.readings.proofs.ContentLaws.{object-array, object-members, object_misfits}
use Rattle.readings.proofs.contents.object_content.Goals as goal

pub returns-then-array-ne0 : goal.returns-then-array-ne0
returns-then-array-ne0 c = object-array c.if-array-ne0.true

pub returns-in-Links : goal.returns-in-Links
returns-in-Links c = object-members c.if-array-ne0.false c.structs_at.ensures c.in-Links.is

pub returns-in-NoObject : goal.returns-in-NoObject
returns-in-NoObject c = object_misfits c.if-array-ne0.false c.structs_at.ensures c.in-NoObject.is
