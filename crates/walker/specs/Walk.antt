-- Reference, Viewer: a reader asked again and again.
use Rattle.std.specs.Prelude.{ℕ, zero, suc, List, [], ◌∷◌, Option}
use Rattle.grammar.specs.Tree.{start_of, end_of}
use Rattle.rules.specs.Readings.{Typed}
use Rattle.walker.specs.declared.records.Record.{Record}
use Rattle.walker.specs.Seeing.{whole, seen_at, place_after}

-- what so many asks give, from a place on
unfoldable pub asked : List ℕ → ℕ → ℕ → List (Option Record)
asked ws zero n = []
asked ws (suc k) n = seen_at ws n ∷ asked ws k (place_after ws n)

-- the place after so many asks
unfoldable pub place_then : List ℕ → ℕ → ℕ → ℕ
place_then ws zero n = n
place_then ws (suc k) n = place_then ws k (place_after ws n)

-- a value of a reading, as its record is seen
abbrev pub seen_of : Typed → Option Record
seen_of t = whole (start_of t.value) (end_of t.value) t.ref t.array
