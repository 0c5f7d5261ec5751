-- The grid first, where there is a kind; of the values it lets through only numbers have a range.
use Rattle.std.proofs.Common.{sym, ◌∙◌}
use borrow.Author.Tests.{not-true, not-false}
use Rattle.readings.proofs.KindLaws.{if_not_taken, if_taken, if_number_taken}
use Rattle.readings.proofs.kinds.built_in_takes.Goals as goal

pub returns-then-not-takes : goal.returns-then-not-takes
returns-then-not-takes c = if_not_taken _ _ c.node_word.ensures c.json_kind-kind.result c.json_kind-kind.ensures c.takes.ensures c.if-not-takes.true

pub returns-then-ne : goal.returns-then-ne
returns-then-ne c =
    if_taken _ _ c.node_word.ensures c.json_kind-kind.result c.json_kind-kind.ensures c.takes.ensures c.if-not-takes.false (not-true _ (sym c.ne.ensures ∙ c.if-ne.true))

pub returns : goal.returns
returns c =
    if_number_taken _ _ c.node_word.ensures c.json_kind-kind.result c.json_kind-kind.ensures c.takes.ensures c.if-not-takes.false (not-false _ (sym c.ne.ensures ∙ c.if-ne.false)) c.number_fits.ensures
