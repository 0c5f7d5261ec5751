-- `separators::colon` meets its contract: the colon after blanks, or none.
-- By the byte after the blanks.
use Rattle.tokens.proofs.KeyReads.{colon-end, no_colon, a-colon}
use Rattle.tokens.proofs.StringTokens.{dialect_complete}
use Rattle.tokens.proofs.separators.colon.Goals as goal
use Rattle.tokens.proofs.separators.colon.Goals.{then-s-c-via-then-s-c, then-s-c-via-else-s-c+then-s-c-ne58}

pub returns-then-s-c : goal.returns-then-s-c
returns-then-s-c c =
    elim c.then-s-c.branch [
      | then-s-c-via-then-s-c w ↦ colon-end c.skip_blanks-c.ensures w.if-s-c.true
      | then-s-c-via-else-s-c+then-s-c-ne58 w ↦ no_colon c.skip_blanks-c.ensures w.if-s-c.false w.if-s-c-ne58.true
    ]

pub returns : goal.returns
returns c = a-colon c.skip_blanks-c.ensures (dialect_complete c.args.source.dialect) c.if-s-c.false c.if-s-c-ne58.false
