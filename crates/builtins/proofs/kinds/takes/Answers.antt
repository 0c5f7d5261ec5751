-- `takes` meets its contract: the grid's entry, and nothing past its ends.
use Rattle.builtins.specs.Kinds.{kind_in}
use Rattle.builtins.proofs.KindLaws.{takes-zero, takes-past, takes-entry}
use Rattle.builtins.proofs.kinds.takes.Goals as goal

pub returns-then-b-eq0 : goal.returns-then-b-eq0
returns-then-b-eq0 c = rw c.in-Some.is (takes-zero (kind_in c.in-Some.kind) c.if-b-eq0.true)

pub returns-then-b-gt-ANY : goal.returns-then-b-gt-ANY
returns-then-b-gt-ANY c = rw c.in-Some.is (takes-past (kind_in c.in-Some.kind) c.if-b-gt-ANY.true)

pub returns : goal.returns
returns c = rw c.in-Some.is (takes-entry (kind_in c.in-Some.kind) c.column.ensures c.if-b-eq0.false)
