-- `chars::two_bytes` reads two bytes of UTF-8.
-- The first byte is the last of one, and the second of the same after it.
use mathlib.Core.Path.{◌∙◌}
use Rattle.strings.proofs.CharRuns.{handed_on}
use Rattle.strings.proofs.Utf8.{one_byte, bytes-fault, bytes-code}
use Rattle.strings.proofs.chars.two_bytes.Goals as goal

pub returns-in_err-first : goal.returns-in_err-first
returns-in_err-first c = handed_on c.from_residual.result c.from_residual.ensures.1 ∙ bytes-fault 1 c.in_err-first.ensures

pub returns : goal.returns
returns c = one_byte c.last_byte-2.ensures ∙ bytes-code 1 c.in_ok-first.ensures
