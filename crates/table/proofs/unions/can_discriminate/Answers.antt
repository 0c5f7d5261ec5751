-- `can_discriminate` meets its contract.
-- A law for each return: optional, an array, a built-in, or the kind of the type's row.
use Rattle.table.proofs.UnionLaws.{optional-fails, array-fails, built_in-fails, enum-discriminates}
use Rattle.table.proofs.unions.can_discriminate.Goals as goal

pub returns-then-word-ne0 : goal.returns-then-word-ne0
returns-then-word-ne0 c = optional-fails _ _ c.word.ensures c.if-word-ne0.true

pub returns-then-word-ne0-2 : goal.returns-then-word-ne0-2
returns-then-word-ne0-2 c = array-fails _ _ c.word.ensures c.if-word-ne0.false c.word-2.ensures c.if-word-ne0-2.true

pub returns-then-t-lt-FIRST_ROW : goal.returns-then-t-lt-FIRST_ROW
returns-then-t-lt-FIRST_ROW c =
    built_in-fails _ _ c.word.ensures c.if-word-ne0.false
    c.word-2.ensures c.if-word-ne0-2.false
    c.word-t.ensures c.if-t-lt-FIRST_ROW.true

pub returns : goal.returns
returns c =
    enum-discriminates _ _ c.word.ensures
    c.if-word-ne0.false c.word-2.ensures
    c.if-word-ne0-2.false c.word-t.ensures
    c.if-t-lt-FIRST_ROW.false c.word-3.ensures
