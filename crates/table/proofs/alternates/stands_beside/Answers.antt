-- `stands_beside` meets its contract: there is no other type, or the strings are looked at.
use Rattle.std.proofs.Common.{refl}
use Rattle.table.proofs.AlternateLaws.{beside_nothing, beside_type}
use Rattle.table.proofs.alternates.stands_beside.Goals as goal

pub returns-then-other-eq0 : goal.returns-then-other-eq0
returns-then-other-eq0 c = record { is = beside_nothing _ _ _ _ c.if-other-eq0.true; looked = c.requires }

pub returns : goal.returns
returns c = record { is = beside_type _ _ _ _ c.if-other-eq0.false refl c.type_looks.ensures.is; looked = c.type_looks.ensures.looked }
