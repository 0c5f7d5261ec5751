-- `command_fits` meets its contract.
-- A law for each return: no arguments, no flag, nothing returned, no flag of an array, or the type returned.
use Rattle.rows.proofs.Walks.{so}
use Rattle.table.proofs.ReferenceLaws.{command_no_arguments, command_no_flag, command-nothing, command-no_array, command-is}
use Rattle.table.proofs.links.command_fits.Goals as goal

pub returns-then-not-arguments_fit : goal.returns-then-not-arguments_fit
returns-then-not-arguments_fit c = command_no_arguments _ _ (so c.arguments_fit.ensures c.if-not-arguments_fit.true)

pub returns-then-word-gt1 : goal.returns-then-word-gt1
returns-then-word-gt1 c =
    command_no_flag _ _ (so c.arguments_fit.ensures c.if-not-arguments_fit.false) c.word.ensures
    c.if-word-gt1.true

pub returns-then-t-eq0 : goal.returns-then-t-eq0
returns-then-t-eq0 c =
    command-nothing _ _
    (so c.arguments_fit.ensures
    c.if-not-arguments_fit.false) c.word.ensures
    c.if-word-gt1.false c.word-t.ensures
    c.word-array.ensures c.if-t-eq0.true

pub returns-then-array-gt1 : goal.returns-then-array-gt1
returns-then-array-gt1 c =
    command-no_array _ _
    (so c.arguments_fit.ensures
    c.if-not-arguments_fit.false) c.word.ensures
    c.if-word-gt1.false
    c.word-t.ensures c.word-array.ensures
    c.if-t-eq0.false c.if-array-gt1.true

pub returns : goal.returns
returns c =
    command-is _ _
    (so c.arguments_fit.ensures
    c.if-not-arguments_fit.false)
    c.word.ensures c.if-word-gt1.false
    c.word-t.ensures
    c.word-array.ensures c.if-t-eq0.false c.if-array-gt1.false c.to_type.ensures
