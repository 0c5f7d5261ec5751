-- `type_looks` meets its contract: by the cases of a type, of which an enum is looked at.
use mathlib.Core.Path.{◌∙◌}
use Rattle.table.proofs.LookLaws.{str-looks, other-looks, row-looks, enum_looks_lem, told_right}
use Rattle.table.proofs.looks.type_looks.Goals as goal

pub returns-then-t-eq-STR : goal.returns-then-t-eq-STR
returns-then-t-eq-STR c = record { is = str-looks _ _ _ _ c.if-t-eq-STR.true; looked = c.requires.1 }

pub returns-then-t-lt-FIRST_ROW : goal.returns-then-t-lt-FIRST_ROW
returns-then-t-lt-FIRST_ROW c = record { is = other-looks _ _ _ _ c.if-t-eq-STR.false c.if-t-lt-FIRST_ROW.true; looked = c.requires.1 }

pub returns-then-word-ne-ENUM : goal.returns-then-word-ne-ENUM
returns-then-word-ne-ENUM c = record { is = row-looks _ _ _ _ c.if-t-eq-STR.false c.if-t-lt-FIRST_ROW.false c.word.ensures c.if-word-ne-ENUM.true; looked = c.requires.1 }

pub returns : goal.returns
returns c = record { is = c.is_told.ensures ∙ told_right _ _ _ _ c.looks_of.ensures.is ∙ enum_looks_lem _ _ _ _ c.if-t-eq-STR.false c.if-t-lt-FIRST_ROW.false c.word.ensures c.if-word-ne-ENUM.false; looked = c.looks_of.ensures.looked }
