-- `scalars::read_unquoted` meets its contract: the number or word that the first byte begins, or none.
-- By that byte.
use mathlib.Core.Path.{sym, ◌∙◌}
use Rattle.strings.specs.declared.dialects.Dialect.TheVariants as Asked
use Rattle.strings.proofs.CharRuns.{handed_on}
use Rattle.tokens.proofs.ScalarReads.{reads-number, number-fault, null-read, message_no_value}
use Rattle.tokens.proofs.scalars.read_unquoted.Goals as goal

pub returns-in_err-number : goal.returns-in_err-number
returns-in_err-number c =
    rw (handed_on c.from_residual.result c.from_residual.ensures.1)
    (number-fault c.requires.0 (sym c.begins_number.ensures ∙ c.if-begins_number.true) c.in_err-number.ensures)

pub returns-then-begins_number : goal.returns-then-begins_number
returns-then-begins_number c =
    rw c.number_node.ensures (reads-number c.requires.0 (sym c.begins_number.ensures ∙ c.if-begins_number.true) c.in_ok-number.ensures)

pub returns-then-b-eq110 : goal.returns-then-b-eq110
returns-then-b-eq110 c = null-read c.requires.0 c.if-b-eq110.true c.read_kind.ensures

pub returns : goal.returns
returns c =
    c.read_bool.ensures.told Asked.Message
    (message_no_value c.requires.1 c.requires.0 c.requires.2 (sym c.begins_number.ensures ∙ c.if-begins_number.false) c.if-b-eq110.false)
