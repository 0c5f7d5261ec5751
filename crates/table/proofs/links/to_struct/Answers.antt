-- `to_struct` meets its contract.
-- A law for each return: no link, no struct, a struct that is inline or not.
use Rattle.table.proofs.ReferenceLaws.{no_link, no_struct, struct_is}
use Rattle.table.proofs.links.to_struct.Goals as goal

pub returns-then-link-eq0 : goal.returns-then-link-eq0
returns-then-link-eq0 c = no_link c.args.rows.now c.if-link-eq0.true

pub returns-then-word-ne-STRUCT : goal.returns-then-word-ne-STRUCT
returns-then-word-ne-STRUCT c = no_struct c.args.rows.now c.if-link-eq0.false c.word.ensures c.if-word-ne-STRUCT.true

pub returns : goal.returns
returns c =
    struct_is c.args.rows.now c.if-link-eq0.false c.word.ensures
    c.if-word-ne-STRUCT.false c.is_unnamed.ensures
