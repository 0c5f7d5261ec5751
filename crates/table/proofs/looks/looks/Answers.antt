-- `looks` meets its contract: by what a string may look like.
use Rattle.table.proofs.looks.looks.Goals as goal

pub returns-in-Number : goal.returns-in-Number
returns-in-Number c = rw c.in-Number.is c.starts_with_digit.ensures

pub returns-in-Boolean : goal.returns-in-Boolean
returns-in-Boolean c = rw c.in-Boolean.is c.is_on_or_off.ensures
