use Rattle.stream.proofs.StateLaws.{place_at, no_mode, no_brackets}
use Rattle.stream.proofs.state.state_of.Goals as goal

pub returns-in-Some-Some : goal.returns-in-Some-Some
returns-in-Some-Some c = place_at c.in-Some-Some.brackets (record { known = c.in-Some-Some.ensures.0; same = c.in-Some-Some.ensures.1 }) c.in-Some-Some.ensures'

pub returns-in_default : goal.returns-in_default
returns-in_default c = no_brackets _ _ _ c.if-w-eq-BETWEEN.false c.in_default.ensures.0 c.in_default.ensures'

pub returns-in_default-2 : goal.returns-in_default-2
returns-in_default-2 c = no_mode _ _ _ c.if-w-eq-BETWEEN.false (rw c.in_default.is-0 at c.numbered.ensures)
