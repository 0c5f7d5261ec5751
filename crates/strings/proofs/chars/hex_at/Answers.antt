-- `chars::hex_at` gives the value of the hexadecimal digit at a place.
-- Each way out is one range of bytes, or none of the three.
use native.Mathlib.Omega.{arith}
use Rattle.grammar.proofs.Booleans.Outside.{below, above}
use Rattle.strings.proofs.MessageChars.{hex-end, hex-none, hex_09, hex_AF, hex_af}
use Rattle.strings.proofs.chars.hex_at.Goals as goal

pub returns-then-s-i : goal.returns-then-s-i
returns-then-s-i c = hex-end _ _ c.if-s-i.true

pub returns-in-48-to-57 : goal.returns-in-48-to-57
returns-in-48-to-57 c = hex_09 _ _ c.if-s-i.false (omega arith) (omega arith)

pub returns-in-65-to-70 : goal.returns-in-65-to-70
returns-in-65-to-70 c = hex_AF _ _ c.if-s-i.false (omega arith) (omega arith)

pub returns-in-97-to-102 : goal.returns-in-97-to-102
returns-in-97-to-102 c = hex_af _ _ c.if-s-i.false (omega arith) (omega arith)

pub returns-in_default : goal.returns-in_default
returns-in_default c = hex-none _ _ c.if-s-i.false (below (omega arith)) (below (omega arith)) (below (omega arith))

pub returns-in_default-2 : goal.returns-in_default-2
returns-in_default-2 c = hex-none _ _ c.if-s-i.false (above (omega arith)) (below (omega arith)) (below (omega arith))

pub returns-in_default-3 : goal.returns-in_default-3
returns-in_default-3 c =
    hex-none _ _ c.if-s-i.false (above (omega arith)) (above (omega arith)) (below (omega arith))

pub returns-in_default-4 : goal.returns-in_default-4
returns-in_default-4 c =
    hex-none _ _ c.if-s-i.false (above (omega arith)) (above (omega arith)) (above (omega arith))
