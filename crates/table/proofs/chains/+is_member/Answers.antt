-- `is_member` meets its contract: a walk up the chain of bases, which asks each struct's own children last.
-- The measure is the number of structs left.
use mathlib.Core.Path.{sym, ◌∙◌}
use Rattle.table.proofs.ChainLaws.{walk_none, walk_out, walk-on, is_member-walk}
use Rattle.table.proofs.chains.+is_member.Goals as goal

pub returns-then-link-eq0 : goal.returns-then-link-eq0
returns-then-link-eq0 t c = walk_none (is_member-walk _ _) c.if-link-eq0.true

pub returns-then-left-eq0 : goal.returns-then-left-eq0
returns-then-left-eq0 t c = walk_out (is_member-walk _ _) c.if-link-eq0.false c.if-left-eq0.true

pub returns-then-is_member : goal.returns-then-is_member
returns-then-is_member t c = c.if-is_member.true ∙ walk-on (is_member-walk _ _) c.if-link-eq0.false c.if-left-eq0.false c.word.ensures (sym c.if-is_member.true ∙ c.is_member.ensures)

pub returns-else-is_member : goal.returns-else-is_member
returns-else-is_member t c =
    c.is_child.ensures ∙ walk-on (is_member-walk _ _) c.if-link-eq0.false c.if-left-eq0.false c.word.ensures (sym c.if-is_member.false ∙ c.is_member.ensures)
