-- `chains::member_meant` meets its contract: a walk up the chain of bases, which asks each struct's own children last.
-- The measure is the number of structs left.
use Rattle.members.proofs.MemberLaws.{meant_none, meant_out, meant_inherited, meant_own}
use Rattle.members.proofs.chains.+member_meant.Goals as goal

pub returns-then-link-eq0 : goal.returns-then-link-eq0
returns-then-link-eq0 t c = meant_none c.if-link-eq0.true

pub returns-then-left-eq0 : goal.returns-then-left-eq0
returns-then-left-eq0 t c = meant_out c.if-link-eq0.false c.if-left-eq0.true

pub returns-then-inherited-ne0 : goal.returns-then-inherited-ne0
returns-then-inherited-ne0 t c =
    meant_inherited c.if-link-eq0.false c.if-left-eq0.false c.wide-r.ensures c.word.ensures
    c.member_meant-inherited.ensures c.if-inherited-ne0.true

pub returns : goal.returns
returns t c =
    meant_own c.if-link-eq0.false c.if-left-eq0.false c.wide-r.ensures c.word.ensures
    c.member_meant-inherited.ensures c.if-inherited-ne0.false c.child_meant.ensures
