-- `chars::last_byte` reads one byte of UTF-8.
-- Each way out is a constructor of the contract.
use native.Mathlib.Omega.{arith}
use mathlib.Core.Path.{refl}
use Rattle.strings.specs.Chars.TailByte.{no_byte}
use Rattle.strings.proofs.Utf8.{byte-below, byte_above, byte_joins}
use Rattle.strings.proofs.chars.last_byte.Goals as goal
use Rattle.strings.proofs.chars.last_byte.Goals.{then-b-low-via-then-b-low, then-b-low-via-else-b-low+then-high-b}

pub returns-then-s-i : goal.returns-then-s-i
returns-then-s-i c = no_byte c.if-s-i.true

pub returns-then-b-low : goal.returns-then-b-low
returns-then-b-low c =
    elim c.then-b-low.branch [ then-b-low-via-then-b-low w ↦ byte-below c.if-s-i.false w.if-b-low.true | then-b-low-via-else-b-low+then-high-b w ↦ byte_above c.if-s-i.false w.if-high-b.true ]

pub returns : goal.returns
returns c = byte_joins c.if-s-i.false refl (omega arith) (omega arith)
