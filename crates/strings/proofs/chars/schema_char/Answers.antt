-- `chars::schema_char` reads a character of a schema string as the machine does.
-- By its first byte, and after a backslash by the second.
use native.Mathlib.Omega.{arith}
use mathlib.Core.Path.{refl}
use Rattle.grammar.specs.Serving.Machine.Schema.{schema}
use Rattle.grammar.proofs.Booleans.Outside.{below, above}
use Rattle.strings.proofs.CharRuns.{none-at-end}
use Rattle.strings.proofs.SchemaChars.{none-at_apostrophe, starts_none, starts-plain, escape-ends, escape-other, escape-both}
use Rattle.strings.proofs.chars.schema_char.Goals as goal
use Rattle.strings.proofs.chars.schema_char.Goals.{then-b-eq39-via-then-b-eq39, then-b-eq39-via-else-b-eq39+then-b-lt32, then-b-eq39-via-else-b-eq39+else-b-lt32+then-b-gt126, then-s-i-2-via-then-s-i-2, then-s-i-2-via-else-s-i-2+then-s-i-ne92}

pub returns-then-s-i : goal.returns-then-s-i
returns-then-s-i c = none-at-end schema _ _ c.if-s-i.true

pub returns-then-b-eq39 : goal.returns-then-b-eq39
returns-then-b-eq39 c =
    elim c.then-b-eq39.branch [
      | then-b-eq39-via-then-b-eq39 w ↦ none-at_apostrophe _ _ c.if-s-i.false w.if-b-eq39.true
      | then-b-eq39-via-else-b-eq39+then-b-lt32 w ↦ starts_none _ _ c.if-s-i.false w.if-b-eq39.false (below w.if-b-lt32.true) (omega arith)
      | then-b-eq39-via-else-b-eq39+else-b-lt32+then-b-gt126 w ↦ starts_none _ _ c.if-s-i.false w.if-b-eq39.false (above w.if-b-gt126.true) (omega arith)
    ]

pub returns-then-b-ne92 : goal.returns-then-b-ne92
returns-then-b-ne92 c = starts-plain _ _ c.if-s-i.false refl (omega arith) (omega arith) (omega arith) (omega arith)

pub returns-then-s-i-2 : goal.returns-then-s-i-2
returns-then-s-i-2 c =
    elim c.then-s-i-2.branch [ then-s-i-2-via-then-s-i-2 w ↦ escape-ends _ _ c.if-s-i.false c.if-b-ne92.false w.if-s-i-2.true | then-s-i-2-via-else-s-i-2+then-s-i-ne92 w ↦ escape-other _ _ c.if-s-i.false c.if-b-ne92.false w.if-s-i-2.false w.if-s-i-ne92.true ]

pub returns : goal.returns
returns c = escape-both _ _ c.if-s-i.false c.if-b-ne92.false c.if-s-i-2.false c.if-s-i-ne92.false
