use mathlib.Core.Path.{refl}
use Rattle.stream.specs.Serving.States.{stands_for, Normal}
use Rattle.stream.proofs.StateLaws.{words_at}
use Rattle.stream.proofs.state.words_of.Goals as goal

pub returns-in-Between : goal.returns-in-Between
unfolding stands_for
returns-in-Between c = rw (c.in-Between.is, c.start.ensures) (record { stands = refl; normal = Normal.between })

pub returns-in-Skipping : goal.returns-in-Skipping
unfolding stands_for
returns-in-Skipping c = rw c.in-Skipping.is (record { stands = refl; normal = Normal.skipping })

pub returns-in-Inside : goal.returns-in-Inside
returns-in-Inside c = rw c.in-Inside.is (words_at _ c.number.ensures c.bits.ensures)
