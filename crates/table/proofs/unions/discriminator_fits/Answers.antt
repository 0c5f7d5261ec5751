-- `discriminator_fits` meets its contract.
-- A law for each return: no link, no member of the base, or whether it can discriminate.
use Rattle.rows.proofs.Walks.{so}
use Rattle.table.proofs.UnionLaws.{discriminator-none, discriminator_strange, discriminator-is}
use Rattle.table.proofs.unions.discriminator_fits.Goals as goal

pub returns-then-link-eq0 : goal.returns-then-link-eq0
returns-then-link-eq0 c = discriminator-none _ _ c.word-link.ensures c.if-link-eq0.true

pub returns-then-not-is_member : goal.returns-then-not-is_member
returns-then-not-is_member c =
    discriminator_strange _ _
    c.word-link.ensures
    c.if-link-eq0.false c.word.ensures
    (so c.is_member.ensures c.if-not-is_member.true)

pub returns : goal.returns
returns c =
    discriminator-is _ _
    c.word-link.ensures
    c.if-link-eq0.false
    c.word.ensures
    (so c.is_member.ensures c.if-not-is_member.false) c.can_discriminate.ensures
