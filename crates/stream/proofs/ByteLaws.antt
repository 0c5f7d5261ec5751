-- A plain byte of a string is kept, and the string goes on.
-- It is no quotation mark and no backslash, and does not clear.
use Prim.Native.Nat.{ℕ, ◌<◌}
use Prim.Native.Char.{code}
use native.Mathlib.Omega.{arith}
use mathlib.Core.Path.{◌≡◌, ap, ◌∙◌}
use mathlib.Core.Bool.{Bool, true, false, not, ◌&&◌}
use mathlib.Core.List.{List}
use lib.Dec.{eqb}
use borrow.Author.Tests.{ne_eqb, le-ltb, not-true}
use Rattle.grammar.specs.Notation.{within}
use Rattle.grammar.proofs.Booleans.{both, within-true}
use Rattle.stream.specs.Stream.{clears}
use Rattle.stream.specs.Serving.Modes as modes
use Rattle.stream.specs.Serving.Modes.{Mode, turn, begin_char}
use Rattle.stream.specs.Serving.Feeding as feeding
use Rattle.stream.specs.Serving.Feeding.{Standing, outcome_of}
use Rattle.stream.specs.Serving.Contracts.{plain}
use Rattle.stream.proofs.Bytes as rules
use Rattle.stream.proofs.Bytes.{Gives}

string-turn : (b : ℕ) (d : Bool) (fs : List Bool) → eqb b (code "\"") ≡ false → eqb b (code "\\") ≡ false → within 0x20 0x7F b ≡ true → turn (Mode.in_string d) fs b ≡ modes.Turn.to (Mode.in_string d) fs
unfolding turn begin_char
string-turn b d fs e f g = rw (e, f, g)

pub plain-keeps : {limit : ℕ} (b : ℕ) {d : Bool} {fs : List Bool} {n : ℕ} → plain b ≡ true → n < limit → Gives limit (Standing.inside (Mode.in_string d) fs n) b (feeding.Outcome.keep (Mode.in_string d) fs)
unfolding plain
plain-keeps {limit} b {d} {fs} {n} p h =
    let x = both (within 0x20 0x7F b) (not (eqb b (code "\""))) (both (within 0x20 0x7F b && not (eqb b (code "\""))) (not (eqb b (code "\\"))) p).0 in
    let y = (both (within 0x20 0x7F b && not (eqb b (code "\""))) (not (eqb b (code "\\"))) p).1 in
    let z = within-true 0x20 0x7F b x.0 in
    let g : b ≡ 0xFF → ⊥ = omega arith in
    let e : clears b ≡ false = rw (ne_eqb b 0xFF g, le-ltb b 0x20 z.0) in
    let k : Gives limit (Standing.inside (Mode.in_string d) fs n) b (outcome_of (turn (Mode.in_string d) fs b)) = rules.turns b e h in
    record { told = k.told ∙ ap outcome_of (string-turn b d fs (not-true (eqb b (code "\"")) x.1) (not-true (eqb b (code "\\")) y) x.0) }
