-- Reference, Viewer: the records around a record. A record opens within those before it that go on after its start. Any words may come, records that do not nest too.
use Rattle.std.specs.Prelude.{ℕ, true, false, cond, List, [], ◌∷◌, ltb, length, Option, Some, None}
use Rattle.walker.specs.declared.records.Record.{Record}

-- of the ends of the open records, the innermost first: those that go on after a start
unfoldable pub still_open : ℕ → List ℕ → List ℕ
still_open start [] = []
still_open start (e ∷ es) = elim (ltb start e) [ true ↦ e ∷ es | false ↦ still_open start es ]

-- one more, where there is room
unfoldable pub opened : ℕ → ℕ → List ℕ → List ℕ
opened room e es = cond (ltb (length es) room) (e ∷ es) es

-- after a record was seen
abbrev pub open_after : ℕ → Option Record → List ℕ → List ℕ
open_after room (Some r) es = opened room r.end (still_open r.start es)
open_after room None es = es
