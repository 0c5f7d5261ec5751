-- Lines of a tree: the text of a value, one record's line, and the lines of the rest.
use Prim.Native.Nat.{ℕ, suc, ◌+◌, ◌-◌, ◌*◌, ◌/◌, ◌≤◌, ◌<◌, min}
use Prim.Native.Char.{code}
use native.Mathlib.Omega.{arith}
use mathlib.Core.Path.{◌≡◌, refl, sym, ap, ◌∙◌}
use mathlib.Core.List.{List, [], ◌∷◌, ◌++◌}
use lib.ListN.{length, replicate, length-replicate, length-append}
use Rattle.std.specs.Prelude.{Option, Some, None}
use Rattle.grammar.specs.Limits.{record_words}
use Rattle.grammar.specs.Notation.{text}
use Rattle.walker.specs.declared.records.Record.{Record}
use Rattle.walker.specs.Seeing.{seen_at, place_after, part_of}
use Rattle.walker.proofs.SeeingLaws.{after-whole}
use Rattle.trees.specs.Escapes.{shown}
use Rattle.trees.specs.Nesting.{still_open, opened, open_after}
use Rattle.trees.specs.Labelling.{label_text}
use Rattle.trees.specs.Typing.{type_text}
use Rattle.trees.specs.TreeText.{deepest, indent_text, value_shown, value_text, left_text, right_text, record_line, line_at, open_then, lines_of, lines_from}
use Rattle.trees.specs.Serving.Rooms.{indent_room, shown_room}
use Rattle.trees.proofs.ShownLaws.{shown_length}

pub indent_is : (k : ℕ) → indent_text k ≡ replicate (2 * (1 + min k deepest)) (code " ")
unfolding indent_text
indent_is k = refl

pub indent_length : (k : ℕ) → length (indent_text k) ≤ indent_room
unfolding indent_text
indent_length k = omega (arith, length-replicate (2 * (1 + min k deepest)) (code " "))

-- the text of a value
absent : (v : List ℕ) → length v ≡ 0 → value_shown v ≡ text "(absent)"
absent [] h = refl
absent (b ∷ v) h = let y : suc (length v) ≡ 0 = h in absurd (omega arith)

there : (v : List ℕ) → (length v ≡ 0 → ⊥) → value_shown v ≡ shown v
there [] h = absurd (h refl)
there (b ∷ v) h = refl

module _ (m : List ℕ) (start end : ℕ) where
  pub value_absent : length (part_of m start end) ≡ 0 → value_text m start end ≡ text "(absent)"
  unfolding value_text
  value_absent h = absent (part_of m start end) h

  pub value_there : (length (part_of m start end) ≡ 0 → ⊥) → value_text m start end ≡ shown (part_of m start end)
  unfolding value_text
  value_there h = there (part_of m start end) h

  some_length : (v : List ℕ) → length (value_shown v) ≤ shown_room
  some_length [] = omega arith
  some_length (b ∷ v) = shown_length (b ∷ v)

  pub value_length : length (value_text m start end) ≤ shown_room
  unfolding value_text
  value_length = some_length (part_of m start end)

-- one record's line
pub left_is : (T m ws : List ℕ) (n start k : ℕ) → left_text T m ws n start k ≡ indent_text k ++ label_text T m ws n start
unfolding left_text
left_is T m ws n start k = refl

pub right_is : (S T m : List ℕ) (a e t f : ℕ) → right_text S T m a e t f ≡ text ": " ++ (type_text S T t f ++ (text " = " ++ (value_text m a e ++ (10 ∷ []))))
unfolding right_text
right_is S T m a e t f = refl

module _ (S T m ws : List ℕ) (room n : ℕ) (es : List ℕ) where
  pub line_is : (r : Record) → Some r ≡ seen_at ws n → line_at S T m ws room n es ≡ left_text T m ws n r.start (length (still_open r.start es)) ++ right_text S T m r.start r.end r.reference r.array
  unfolding line_at
  line_is r e = ap (record_line S T m ws room n es) (sym e)

  pub open_is : (r : Record) → Some r ≡ seen_at ws n → open_then S T m ws room n es ≡ opened room r.end (still_open r.start es)
  unfolding open_then
  open_is r e = ap (λ (x : Option Record). open_after room x es) (sym e)

  pub line_none : None ≡ seen_at ws n → line_at S T m ws room n es ≡ []
  unfolding line_at
  line_none e = ap (record_line S T m ws room n es) (sym e)

  pub open_none : None ≡ seen_at ws n → open_then S T m ws room n es ≡ es
  unfolding open_then
  open_none e = ap (λ (x : Option Record). open_after room x es) (sym e)

module _ (S T m ws : List ℕ) (room : ℕ) where
  -- the lines from a place on are those of its record and of the rest
  pub lines-on : (n : ℕ) (es : List ℕ) → n < length ws / record_words → lines_from S T m ws room n es ≡ line_at S T m ws room n es ++ lines_from S T m ws room (place_after ws n) (open_then S T m ws room n es)
  unfolding lines_from lines_of
  lines-on n es h =
      let w = length ws / record_words in
      let f : w - n ≡ suc (w - place_after ws n) = omega (arith, after-whole ws n h) in
      ap (λ (k : ℕ). lines_of S T m ws room k n es) f
