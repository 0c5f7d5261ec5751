-- `scalars::read_scalar` meets its contract: at the end no value stands, else the first byte says which reader finds one.
-- By that byte and the dialect.
use mathlib.Core.Path.{sym, ◌∙◌}
use Rattle.strings.specs.declared.dialects.Dialect.TheVariants as Asked
use Rattle.strings.proofs.CharRuns.{handed_on}
use Rattle.tokens.proofs.StringTokens.{dialect_complete}
use Rattle.tokens.proofs.ScalarReads.{no_more, reads-string, string-fault, schema_no_value}
use Rattle.tokens.proofs.scalars.read_scalar.Goals as goal

pub returns-then-s-i : goal.returns-then-s-i
returns-then-s-i c = no_more _ _ _ c.if-s-i.true

pub returns-in_err-string : goal.returns-in_err-string
returns-in_err-string c =
    rw (handed_on c.from_residual.result c.from_residual.ensures.1)
    (string-fault (dialect_complete c.args.source.dialect) _ _ c.if-s-i.false (sym c.opens_string.ensures ∙ c.if-opens_string.true) c.in_err-string.ensures)

pub returns-then-opens_string : goal.returns-then-opens_string
returns-then-opens_string c =
    rw c.string_node.ensures
    (reads-string (dialect_complete c.args.source.dialect) _ _ c.if-s-i.false (sym c.opens_string.ensures ∙ c.if-opens_string.true) c.in_ok-string.ensures)

pub returns-in-Schema : goal.returns-in-Schema
returns-in-Schema c =
    rw c.in-Schema.is
    (c.read_bool.ensures.told Asked.Schema
    (schema_no_value (rw c.in-Schema.is at c.requires) c.if-s-i.false (rw c.in-Schema.is at (sym c.opens_string.ensures ∙ c.if-opens_string.false))))

pub read_unquoted-requires : goal.read_unquoted-requires
read_unquoted-requires c =
    (c.if-s-i.false, rw c.in-Message.is at c.requires, rw c.in-Message.is at (sym c.opens_string.ensures ∙ c.if-opens_string.false))
