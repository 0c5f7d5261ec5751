-- `mandatory::mandatory_count` meets its contract: a walk up the chain of bases, which adds each struct's own children last.
-- The measure is the number of structs left.
use Rattle.members.proofs.MandatoryLaws.{count_none, count_out, count-own}
use Rattle.members.proofs.mandatory.+mandatory_count.Goals as goal

pub returns-then-link-eq0 : goal.returns-then-link-eq0
returns-then-link-eq0 t c = count_none c.if-link-eq0.true

pub returns-then-left-eq0 : goal.returns-then-left-eq0
returns-then-left-eq0 t c = count_out c.if-link-eq0.false c.if-left-eq0.true

pub returns : goal.returns
returns t c = count-own c.if-link-eq0.false c.if-left-eq0.false c.wide-r.ensures c.word.ensures c.mandatory_count-inherited.ensures c.own_mandatory.ensures
