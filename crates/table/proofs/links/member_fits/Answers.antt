-- `member_fits` meets its contract.
-- A law for each return: no type, a mark that is no flag, or the last flag.
use Rattle.rows.proofs.Walks.{so}
use Rattle.table.proofs.ReferenceLaws.{member-no_type, member_no_flag, member_is}
use Rattle.table.proofs.links.member_fits.Goals as goal

pub returns-then-not-to_type : goal.returns-then-not-to_type
returns-then-not-to_type c =
    member-no_type _ _ c.word.ensures
    (so c.to_type.ensures c.if-not-to_type.true)

pub returns-then-word-gt1 : goal.returns-then-word-gt1
returns-then-word-gt1 c =
    member_no_flag _ _ c.word.ensures
    (so c.to_type.ensures c.if-not-to_type.false) c.word-2.ensures c.if-word-gt1.true

pub returns : goal.returns
returns c =
    member_is _ _ c.word.ensures
    (so c.to_type.ensures c.if-not-to_type.false) c.word-2.ensures
    c.if-word-gt1.false c.word-3.ensures
