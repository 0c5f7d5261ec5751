-- `rows::rows::owns_struct` says whether a row's inline struct follows it.
-- The row must be one that owns and link on; then the next row decides.
use mathlib.Core.Logic.{inl, inr}
use Rattle.rows.proofs.RowFacts.{owns-kind, owns_no_link, owns-linked}
use Rattle.rows.proofs.rows.owns_struct.Goals as goal
use Rattle.rows.proofs.rows.owns_struct.Goals.{else-owner-ne-UNION-via-then-owner-ne-UNION+else-owner-ne-COMMAND, else-owner-ne-UNION-via-else-owner-ne-UNION}

pub returns-then-owner-ne-COMMAND : goal.returns-then-owner-ne-COMMAND
returns-then-owner-ne-COMMAND c = owns-kind _ _ _ c.word-owner.ensures c.if-owner-ne-UNION.true c.if-owner-ne-COMMAND.true

pub returns-then-word-s : goal.returns-then-word-s
returns-then-word-s c = owns_no_link _ _ c.next_row-s.ensures _ c.word.ensures c.if-word-s.true

pub returns : goal.returns
returns c =
    owns-linked _ _ c.next_row-s.ensures _ c.word.ensures _ _ c.word-owner.ensures (elim c.else-owner-ne-UNION.branch [ else-owner-ne-UNION-via-then-owner-ne-UNION+else-owner-ne-COMMAND w ↦ inl w.if-owner-ne-COMMAND.false | else-owner-ne-UNION-via-else-owner-ne-UNION w ↦ inr w.if-owner-ne-UNION.false ]) c.if-word-s.false c.is_unnamed.ensures
