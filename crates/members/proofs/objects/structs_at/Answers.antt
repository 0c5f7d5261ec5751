-- `objects::structs_at` meets its contract.
-- By the kind of the type's row.
use mathlib.Core.Path.{refl}
use Rattle.members.proofs.ObjectLaws.{structs-none, structs-below, structs-struct, structs-union, structs-other}
use Rattle.members.proofs.objects.structs_at.Goals as goal

pub returns-then-t-eq-NO_TYPE : goal.returns-then-t-eq-NO_TYPE
returns-then-t-eq-NO_TYPE c = structs-none _ _ _ _ c.if-t-eq-NO_TYPE.true

pub returns-then-t-lt-FIRST_REFERENCE : goal.returns-then-t-lt-FIRST_REFERENCE
returns-then-t-lt-FIRST_REFERENCE c = structs-below _ _ _ _ c.if-t-eq-NO_TYPE.false c.if-t-lt-FIRST_REFERENCE.true

pub returns-in-3 : goal.returns-in-3
returns-in-3 c = structs-struct _ _ _ _ c.if-t-lt-FIRST_REFERENCE.false c.wide-r.ensures c.word.ensures c.in-3.is refl

pub returns-in-5 : goal.returns-in-5
returns-in-5 c =
    structs-union _ _ _ _ c.if-t-lt-FIRST_REFERENCE.false c.wide-r.ensures c.word.ensures
    c.in-5.is c.branch_of.ensures

pub returns-in_default : goal.returns-in_default
returns-in_default c = structs-other _ _ _ _ c.if-t-lt-FIRST_REFERENCE.false c.wide-r.ensures c.word.ensures c.in_default.in_default-own.rest.0.1 c.in_default.in_default-own.rest.1
