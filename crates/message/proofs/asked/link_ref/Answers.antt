use mathlib.Core.Path.{refl}
use Rattle.message.proofs.AskingLaws.{no_link, a-link}
use Rattle.message.proofs.asked.link_ref.Goals as goal

-- src/asked.rt:37:9
pub returns-then-link-eq0 : goal.returns-then-link-eq0
returns-then-link-eq0 c = no_link c.if-link-eq0.true refl

-- src/asked.rt:33:1
pub returns : goal.returns
returns c = a-link c.if-link-eq0.false refl
