-- Serves theorems on readings: values that stand in order and nest, and how many of them span a place.
use Rattle.std.specs.Prelude.{ℕ, ◌+◌, ◌≤◌, cond, ◌&&◌, ◌⊎◌, List, [], ◌∷◌, ltb, leb}
use Rattle.grammar.specs.Tree.{start_of, end_of}
use Rattle.rules.specs.Readings.{Typed}

abbrev pub starts_at : Typed → ℕ
starts_at t = start_of t.value

abbrev pub ends_at : Typed → ℕ
ends_at t = end_of t.value

-- the later one u starts no earlier than t, and comes after it or is inside it
abbrev pub Follows : Typed → Typed → Type 0
Follows t u = (starts_at t ≤ starts_at u) × ((ends_at t ≤ starts_at u) ⊎ (ends_at u ≤ ends_at t))

-- t comes before all of these
abbrev pub Before : Typed → List Typed → Type 0
Before t [] = Unit {0}
Before t (u ∷ us) = Follows t u × Before t us

abbrev pub Nested : List Typed → Type 0
Nested [] = Unit {0}
Nested (t ∷ ts) = Before t ts × Nested ts

-- how many of these start by a place and end after it
abbrev pub spanning : ℕ → List Typed → ℕ
spanning place [] = 0
spanning place (t ∷ ts) = cond (leb (starts_at t) place && ltb place (ends_at t)) 1 0 + spanning place ts
