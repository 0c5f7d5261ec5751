-- `separators::read_key` meets its contract: the key after blanks, with its colon.
-- By the byte after the blanks, the string there, and the colon.
use mathlib.Core.Path.{sym, ◌∙◌}
use Rattle.strings.proofs.CharRuns.{handed_on}
use Rattle.tokens.proofs.KeyReads.{key-end, no_key, key-fault, colon-fault, a-key}
use Rattle.tokens.proofs.StringTokens.{dialect_complete}
use Rattle.tokens.proofs.separators.read_key.Goals as goal
use Rattle.tokens.proofs.separators.read_key.Goals.{then-s-start-via-then-s-start, then-s-start-via-else-s-start+then-not-opens_string}

pub returns-then-s-start : goal.returns-then-s-start
returns-then-s-start c =
    elim c.then-s-start.branch [
      | then-s-start-via-then-s-start w ↦ key-end c.skip_blanks-start.ensures w.if-s-start.true
      | then-s-start-via-else-s-start+then-not-opens_string w ↦ no_key c.skip_blanks-start.ensures w.if-s-start.false (sym w.opens_string.ensures ∙ w.if-not-opens_string.true)
    ]

pub returns-in_err-string : goal.returns-in_err-string
returns-in_err-string c =
    rw (handed_on c.from_residual.result c.from_residual.ensures.1)
    (key-fault c.skip_blanks-start.ensures c.if-s-start.false (dialect_complete c.args.source.dialect) (sym c.opens_string.ensures ∙ c.if-not-opens_string.false)
    c.in_err-string.ensures)

pub returns-in_err-past : goal.returns-in_err-past
returns-in_err-past c =
    rw (handed_on c.from_residual-in_err-past.result c.from_residual-in_err-past.ensures.1)
    (colon-fault c.skip_blanks-start.ensures c.if-s-start.false (dialect_complete c.args.source.dialect) (sym c.opens_string.ensures ∙ c.if-not-opens_string.false)
    c.in_ok-string.ensures c.in_err-past.ensures)

pub returns : goal.returns
returns c =
    rw c.key_kind.ensures
    (a-key c.skip_blanks-start.ensures c.if-s-start.false (dialect_complete c.args.source.dialect) (sym c.opens_string.ensures ∙ c.if-not-opens_string.false)
    c.in_ok-string.ensures c.in_ok-past.ensures)
