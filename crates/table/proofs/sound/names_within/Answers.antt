-- `names_within` meets its contract: of the rows from the first on, what is left to look at.
-- At each row the end of its name is asked.
use mathlib.Core.Path.{refl}
use native.Mathlib.Omega.{arith}
use Rattle.table.specs.RuleParts.{names_within}
use Rattle.rows.proofs.LoopLaws.{every-starts, all-fails, all-on, all-ends}
use Rattle.table.proofs.SoundLaws.{name-past, name-within}
use Rattle.table.proofs.sound.names_within.Goals as goal

pub loop-r-init : goal.loop-r-init
unfolding names_within
loop-r-init c = every-starts c.args.rows.now _ refl

pub returns-then-schema-word : goal.returns-then-schema-word
returns-then-schema-word c =
    all-fails c.loop-r.invariant (omega arith)
    (name-past c.word.ensures
    c.word-in-loop-r.ensures c.if-schema-word.true)

pub loop-r-preserved : goal.loop-r-preserved
loop-r-preserved c =
    all-on c.loop-r.invariant (omega arith)
    (name-within c.word.ensures
    c.word-in-loop-r.ensures c.if-schema-word.false)

pub returns : goal.returns
returns c = all-ends c.loop-r.invariant (omega arith)
