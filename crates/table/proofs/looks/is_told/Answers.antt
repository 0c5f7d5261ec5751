-- `is_told` meets its contract: by what a string may look like.
use Rattle.table.proofs.looks.is_told.Goals as goal

pub returns-in-Number : goal.returns-in-Number
returns-in-Number c = rw c.in-Number.is

pub returns-in-Boolean : goal.returns-in-Boolean
returns-in-Boolean c = rw c.in-Boolean.is
