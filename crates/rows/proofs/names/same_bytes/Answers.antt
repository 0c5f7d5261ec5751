-- `names::same_bytes` says whether two slices are equal: slices of one length are compared as wholes.
use mathlib.Core.Path.{sym, ap, ◌∙◌}
use lib.ListN.{length}
use Rattle.grammar.proofs.Lists.{different}
use Rattle.strings.proofs.Parts.{parts_whole}
use Rattle.rows.proofs.names.same_bytes.Goals as goal

pub returns-then-n-y : goal.returns-then-n-y
returns-then-n-y c = let a = c.args in sym (different a.x.now a.y.now (λ e. c.if-n-y.true (ap length e)))

pub returns : goal.returns
returns c = c.same_parts.ensures ∙ parts_whole _ _ c.if-n-y.false
