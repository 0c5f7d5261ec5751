-- Reference, Viewer: the records of a message as a tree: a line each, indented by the records that are open around it.
use Rattle.std.specs.Prelude.{ℕ, zero, suc, ◌+◌, ◌-◌, ◌*◌, ◌/◌, min, cond, List, [], ◌∷◌, ◌++◌, ltb, length, replicate, Option, Some, None}
use Prim.Native.Char.{code}
use Rattle.grammar.specs.Limits.{record_words}
use Rattle.grammar.specs.Notation.{text}
use Rattle.grammar.specs.Tree.{start_of, end_of}
use Rattle.rules.specs.Readings.{Typed}
use Rattle.walker.specs.declared.records.Record.{Record}
use Rattle.walker.specs.Seeing.{seen_at, place_after, part_of}
use Rattle.trees.specs.Escapes.{shown}
use Rattle.trees.specs.Nesting.{still_open, open_after}
use Rattle.trees.specs.Labelling.{label_text}
use Rattle.trees.specs.Typing.{type_text}

-- of any records, more than 80 open ones indent no further; those of an accepted message never are so many, and its lines below know no limit
abbrev pub deepest : ℕ
deepest = 80

-- two spaces, and two for each of the records around
abbrev pub indent : ℕ → List ℕ
indent k = replicate (2 * (1 + k)) (code " ")

unfoldable pub indent_text : ℕ → List ℕ
indent_text k = indent (min k deepest)

-- the text of the value; absent arguments have none
abbrev pub value_shown : List ℕ → List ℕ
value_shown [] = text "(absent)"
value_shown (b ∷ l) = shown (b ∷ l)

unfoldable pub value_text : List ℕ → ℕ → ℕ → List ℕ
value_text m start end = value_shown (part_of m start end)

-- the line of the record number n, within k records: its label, then its type and its text
unfoldable pub left_text : List ℕ → List ℕ → List ℕ → ℕ → ℕ → ℕ → List ℕ
left_text T m ws n a k = indent_text k ++ label_text T m ws n a

unfoldable pub right_text : List ℕ → List ℕ → List ℕ → ℕ → ℕ → ℕ → ℕ → List ℕ
right_text S T m a e t f = text ": " ++ (type_text S T t f ++ (text " = " ++ (value_text m a e ++ (code "\n" ∷ []))))

-- over a schema, its table, a message, its record words and the room for ends; at a place within open records
module _ (S T m ws : List ℕ) (room : ℕ) where
  abbrev pub record_line : ℕ → List ℕ → Option Record → List ℕ
  record_line n es None = []
  record_line n es (Some r) = left_text T m ws n r.start (length (still_open r.start es)) ++ right_text S T m r.start r.end r.reference r.array

  unfoldable pub line_at : ℕ → List ℕ → List ℕ
  line_at n es = record_line n es (seen_at ws n)

  unfoldable pub open_then : ℕ → List ℕ → List ℕ
  open_then n es = open_after room (seen_at ws n) es

  -- the lines of so many asks, from a place on
  unfoldable pub lines_of : ℕ → ℕ → List ℕ → List ℕ
  lines_of zero n es = []
  lines_of (suc k) n es = line_at n es ++ lines_of k (place_after ws n) (open_then n es)

  -- the lines of all records from a place on
  unfoldable pub lines_from : ℕ → List ℕ → List ℕ
  lines_from n es = lines_of (length ws / record_words - n) n es

-- how many of these values are open at a place: they end after it
abbrev pub open_at : List Typed → ℕ → ℕ
open_at [] place = 0
open_at (u ∷ us) place = cond (ltb place (end_of u.value)) 1 0 + open_at us place

-- The lines of a reading's values, after those before them, the last first. Each is indented by as many as are open where it starts: in a message the values that it is inside of.
module _ (S T m ws : List ℕ) where
  abbrev pub value_line : List Typed → Typed → List ℕ
  value_line us t =
      (indent (open_at us (start_of t.value)) ++ label_text T m ws (length us) (start_of t.value)) ++ right_text S T m (start_of t.value) (end_of t.value) t.ref t.array

  unfoldable pub reading_lines : List Typed → List Typed → List ℕ
  reading_lines us [] = []
  reading_lines us (t ∷ ts) = value_line us t ++ reading_lines (t ∷ us) ts
