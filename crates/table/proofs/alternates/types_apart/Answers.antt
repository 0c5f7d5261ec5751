-- `types_apart` meets its contract: beside a number type, and beside bool.
use Rattle.rows.proofs.Walks.{so}
use Rattle.table.proofs.alternates.types_apart.Goals as goal

pub returns-then-not-stands_beside : goal.returns-then-not-stands_beside
returns-then-not-stands_beside c = record { is = rw (so c.stands_beside.ensures.is c.if-not-stands_beside.true); looked = c.stands_beside.ensures.looked }

pub returns : goal.returns
returns c = record { is = rw (so c.stands_beside.ensures.is c.if-not-stands_beside.false) c.stands_beside-2.ensures.is; looked = c.stands_beside-2.ensures.looked }
