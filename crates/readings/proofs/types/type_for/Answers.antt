-- `types::type_for` meets its contract.
-- Only an alternate that is no array is read by one of its alternatives.
use Rattle.std.proofs.Common.{refl}
use Rattle.readings.proofs.TypeLaws.{direct_array, direct_below, direct_other, by-alternative, kindless}
use Rattle.readings.proofs.types.type_for.Goals as goal

pub returns-then-array-ne0 : goal.returns-then-array-ne0
returns-then-array-ne0 c = direct_array _ _ c.if-array-ne0.true

pub returns-then-t-lt-FIRST_REFERENCE : goal.returns-then-t-lt-FIRST_REFERENCE
returns-then-t-lt-FIRST_REFERENCE c = direct_below _ _ c.if-array-ne0.false c.if-t-lt-FIRST_REFERENCE.true

pub returns-then-word-ne-ALTERNATE : goal.returns-then-word-ne-ALTERNATE
returns-then-word-ne-ALTERNATE c =
    direct_other _ _ c.if-array-ne0.false c.if-t-lt-FIRST_REFERENCE.false refl
    c.word.ensures c.if-word-ne-ALTERNATE.true

pub returns-in-Some : goal.returns-in-Some
returns-in-Some c =
    by-alternative _ _ c.if-array-ne0.false c.if-t-lt-FIRST_REFERENCE.false refl c.word.ensures c.if-word-ne-ALTERNATE.false c.node_word.ensures
    c.in-Some.ensures c.alternative.ensures

pub returns-in-None : goal.returns-in-None
returns-in-None c = kindless _ _ c.if-array-ne0.false c.if-t-lt-FIRST_REFERENCE.false refl c.word.ensures c.if-word-ne-ALTERNATE.false c.node_word.ensures c.in-None.ensures
