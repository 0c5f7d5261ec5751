-- `references::slots::put_data` leaves an inline struct's link, and puts what any other word names.
use Rattle.references.proofs.SlotLaws.{data_inline, data_named}
use Rattle.references.proofs.slots.put_data.Goals as goal

pub returns-then-owns_struct : goal.returns-then-owns_struct
returns-then-owns_struct c = data_inline c.args.r c.owns_struct.ensures c.if-owns_struct.true

pub returns : goal.returns
returns c =
    data_named c.args.r
    c.owns_struct.ensures c.if-owns_struct.false c.put.ensures
