-- `table::rows::is_unnamed` says whether a row is a struct with start, length and base link 0.
-- Each word read decides, or leaves it to the next.
use Rattle.rows.proofs.RowFacts.{unnamed-kind, unnamed-start, unnamed-size, unnamed-base}
use Rattle.rows.proofs.rows.is_unnamed.Goals as goal

pub returns-then-word-ne-STRUCT : goal.returns-then-word-ne-STRUCT
returns-then-word-ne-STRUCT c = unnamed-kind _ _ _ c.word.ensures c.if-word-ne-STRUCT.true

pub returns-then-word-ne0 : goal.returns-then-word-ne0
returns-then-word-ne0 c = unnamed-start _ _ _ c.word-2.ensures c.if-word-ne0.true

pub returns-then-word-ne0-2 : goal.returns-then-word-ne0-2
returns-then-word-ne0-2 c = unnamed-size _ _ _ c.word-3.ensures c.if-word-ne0-2.true

pub returns : goal.returns
returns c =
    unnamed-base _ _ _ _ _ _ c.word.ensures c.if-word-ne-STRUCT.false c.word-2.ensures c.if-word-ne0.false
    c.word-3.ensures c.if-word-ne0-2.false c.word-4.ensures
