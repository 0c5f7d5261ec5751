-- `union_fits` meets its contract.
-- A law for each return: no base, no discriminator, or the kind of its row.
use Rattle.rows.proofs.Walks.{so}
use Rattle.table.proofs.ReferenceLaws.{union_no_base, union_no_discriminator, union-is}
use Rattle.table.proofs.links.union_fits.Goals as goal

pub returns-then-not-to_own_or_struct : goal.returns-then-not-to_own_or_struct
returns-then-not-to_own_or_struct c =
    union_no_base _ _ c.word.ensures
    (so c.to_own_or_struct.ensures c.if-not-to_own_or_struct.true)

pub returns-then-d-eq0 : goal.returns-then-d-eq0
returns-then-d-eq0 c =
    union_no_discriminator _ _ c.word.ensures
    (so c.to_own_or_struct.ensures c.if-not-to_own_or_struct.false)
    c.word-d.ensures c.if-d-eq0.true

pub returns : goal.returns
returns c =
    union-is _ _
    c.word.ensures
    (so c.to_own_or_struct.ensures c.if-not-to_own_or_struct.false)
    c.word-d.ensures c.if-d-eq0.false c.word-2.ensures
