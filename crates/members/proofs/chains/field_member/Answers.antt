-- `chains::field_member` meets its contract.
-- The base's members come first.
use Rattle.members.proofs.MemberLaws.{field-base, field-branch}
use Rattle.members.proofs.chains.field_member.Goals as goal

pub returns-then-x-ne0 : goal.returns-then-x-ne0
returns-then-x-ne0 c = field-base c.member_meant-x.ensures c.if-x-ne0.true

pub returns : goal.returns
returns c = field-branch c.member_meant-x.ensures c.if-x-ne0.false c.member_meant.ensures
