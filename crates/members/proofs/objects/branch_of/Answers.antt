-- `objects::branch_of` meets its contract.
-- The discriminator's value is looked for in the whole object; where it is a string, the branch of that name is, too.
use Rattle.members.proofs.ObjectLaws.{branch_unmeant, branch_meant}
use Rattle.members.proofs.objects.branch_of.Goals as goal

pub returns-then-b-eq0 : goal.returns-then-b-eq0
returns-then-b-eq0 c =
    branch_unmeant _ _ _ _ _ _ c.name_of-name.ensures c.row_of-discriminator.ensures c.word.ensures
    c.value_at.ensures c.in-Some.is c.is_string.ensures (c.if-not-is_string.false)
    c.word-base.ensures c.child_meant-b.ensures c.if-b-eq0.true

pub returns : goal.returns
returns c =
    branch_meant _ _ _ _ _ _ c.name_of-name.ensures c.row_of-discriminator.ensures c.word.ensures
    c.value_at.ensures c.in-Some.is c.is_string.ensures (c.if-not-is_string.false)
    c.word-base.ensures c.child_meant-b.ensures c.if-b-eq0.false c.word-2.ensures
