-- `lists::child_meant` meets its contract: a long list is looked up, a short one looked through.
use mathlib.Core.Path.{sym, ◌∙◌}
use Rattle.children.proofs.lists.child_meant.Goals as goal

pub returns-then-is_long : goal.returns-then-is_long
returns-then-is_long c = record { told = λ cs g u. c.indexed_child.ensures.told (sym c.is_long.ensures ∙ c.if-is_long.true) cs g u }

pub returns : goal.returns
returns c = record { told = λ cs g u. c.short_child.ensures.told cs g.sound_table u }
