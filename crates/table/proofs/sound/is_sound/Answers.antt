-- `is_sound` meets its contract.
-- A law for each return: the lengths, the shape, then the rules.
use mathlib.Core.Path.{sym}
use lib.Seq.{length-take-le}
use borrow.Author.Rules.{rules}
use Rattle.rows.proofs.Walks.{so}
use Rattle.table.proofs.SoundLaws.{not-whole-rows, too_many_rows, too_long-schema, not-shaped, sound-is}
use Rattle.table.proofs.sound.is_sound.Goals as goal

pub returns-then-rows-ne0 : goal.returns-then-rows-ne0
returns-then-rows-ne0 c = not-whole-rows _ _ c.if-rows-ne0.true

pub returns-then-rows-gt-TABLE_WORDS : goal.returns-then-rows-gt-TABLE_WORDS
returns-then-rows-gt-TABLE_WORDS c = too_many_rows _ _ c.if-rows-ne0.false c.if-rows-gt-TABLE_WORDS.true

pub returns-then-schema-gt-SCHEMA_BYTES : goal.returns-then-schema-gt-SCHEMA_BYTES
returns-then-schema-gt-SCHEMA_BYTES c = too_long-schema _ _ c.if-rows-ne0.false c.if-rows-gt-TABLE_WORDS.false c.if-schema-gt-SCHEMA_BYTES.true

pub returns-then-not-is_shaped : goal.returns-then-not-is_shaped
returns-then-not-is_shaped c = not-shaped _ _ c.if-rows-ne0.false c.if-rows-gt-TABLE_WORDS.false c.if-schema-gt-SCHEMA_BYTES.false (so c.is_shaped.ensures c.if-not-is_shaped.true)

pub slice_bounds-keeps_rules-end : goal.slice_bounds-keeps_rules-end
slice_bounds-keeps_rules-end c = sym (length-take-le _ _ (search rules))

pub returns : goal.returns
returns c = sound-is _ _ c.if-rows-ne0.false c.if-rows-gt-TABLE_WORDS.false c.if-schema-gt-SCHEMA_BYTES.false (so c.is_shaped.ensures c.if-not-is_shaped.false) c.keeps_rules.ensures
