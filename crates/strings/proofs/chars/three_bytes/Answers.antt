-- `chars::three_bytes` reads three bytes of UTF-8.
-- The first byte, and then two.
use native.Mathlib.Omega.{arith}
use mathlib.Core.Path.{◌∙◌}
use Rattle.strings.proofs.CharRuns.{handed_on}
use Rattle.strings.proofs.Utf8.{bytes-fault, bytes-code, byte-upto}
use Rattle.strings.proofs.chars.three_bytes.Goals as goal

pub returns-in_err-first : goal.returns-in_err-first
returns-in_err-first c = handed_on c.from_residual.result c.from_residual.ensures.1 ∙ bytes-fault 2 c.in_err-first.ensures

pub two_bytes-requires : goal.two_bytes-requires
two_bytes-requires c = omega (arith, byte-upto c.in_ok-first.ensures)

pub returns : goal.returns
returns c = c.two_bytes.ensures ∙ bytes-code 2 c.in_ok-first.ensures
