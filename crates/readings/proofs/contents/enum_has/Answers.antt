-- `contents::enum_has` meets its contract.
-- Only a string at an enum's row, by the meaning of its values.
use Rattle.readings.proofs.ContentLaws.{below_enums, no_enum, no_string, of_enum}
use Rattle.readings.proofs.contents.enum_has.Goals as goal

pub returns-then-t-lt-FIRST_REFERENCE : goal.returns-then-t-lt-FIRST_REFERENCE
returns-then-t-lt-FIRST_REFERENCE c = below_enums c.if-t-lt-FIRST_REFERENCE.true

pub returns-then-word-ne-ENUM : goal.returns-then-word-ne-ENUM
returns-then-word-ne-ENUM c = no_enum c.if-t-lt-FIRST_REFERENCE.false c.wide-r.ensures c.word.ensures c.if-word-ne-ENUM.true

pub returns-then-not-is_string : goal.returns-then-not-is_string
returns-then-not-is_string c = no_string c.if-t-lt-FIRST_REFERENCE.false c.wide-r.ensures c.word.ensures c.if-word-ne-ENUM.false c.is_string.ensures (c.if-not-is_string.true)

pub returns : goal.returns
returns c = of_enum c.if-t-lt-FIRST_REFERENCE.false c.wide-r.ensures c.word.ensures c.if-word-ne-ENUM.false c.is_string.ensures (c.if-not-is_string.false) c.child_meant.ensures
