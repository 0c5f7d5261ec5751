-- The place of the first LF, and how many bytes stand before it.
use Prim.Native.Nat.{ℕ, ◌+◌, ◌<◌, ◌≤◌}
use native.Mathlib.Omega.{arith}
use mathlib.Core.Path.{◌≡◌, refl}
use mathlib.Core.Bool.{Bool, true, false, cond, not}
use mathlib.Core.List.{List, [], ◌∷◌}
use lib.Dec.{eqb, ltb}
use lib.ListN.{length}
use borrow.Author.Tests.{ltb-true, ltb-false}
use Rattle.std.specs.Prelude.{◌==◌, position, Option, Some, None}
use Rattle.std.specs.List.{position_or_len}
use Rattle.std.proofs.lemmas.List.Sums.{prefix_len-le-length}
use Rattle.lines.specs.Lines.{before_lf, or_next}

-- LF stands there; or there is none, and all bytes stand before it
abbrev pub Ends : List ℕ → Option ℕ → Type 0
Ends s (Some n) = (n ≡ before_lf s) × (n < length s)
Ends s None = before_lf s ≡ length s

one_byte : (t : Bool) {p q : ℕ} → p ≡ q → cond (not t) (1 + p) 0 ≡ or_next t q
one_byte true e = refl
one_byte false e = omega arith

as_counted : (s : List ℕ) → position_or_len (λ b. b == 10) s ≡ before_lf s
unfolding before_lf
as_counted [] = refl
as_counted (b ∷ s) = one_byte (eqb b 10) (as_counted s)

by_test : (s : List ℕ) (k : ℕ) (t : Bool) → ltb k (length s) ≡ t → k ≤ length s → k ≡ before_lf s → Ends s (cond t (Some k) None)
by_test s k true e h q = (q, ltb-true k (length s) e)
by_test s k false e h q = let l = ltb-false k (length s) e in omega arith

pub line_ends : (s : List ℕ) → Ends s (position (λ b. b == 10) s)
line_ends s = let k : ℕ = position_or_len (λ b. b == 10) s in by_test s k (ltb k (length s)) refl (prefix_len-le-length _ s) (as_counted s)
