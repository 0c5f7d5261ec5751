-- Reference, Viewer: where a text goes wrong, for a person: the line and column as editors count them, the line around the place, cut to fit a terminal, and a caret under the byte there.
use Rattle.std.specs.Prelude.{ℕ, zero, suc, ◌+◌, ◌-◌, Bool, true, false, cond, not, ◌||◌, List, [], ◌∷◌, ◌++◌, eqb, ltb, length, take, drop, get_or, replicate}
use Rattle.grammar.specs.Notation.{text}
use Rattle.lines.specs.Lines.{before_lf}
use Rattle.lines.specs.Text.{decimal_text}
use Rattle.trees.specs.Backwards.{back}
use Rattle.trees.specs.Escapes.{shown_byte, shown_bytes}

-- no line is wider
abbrev pub most_columns : ℕ
most_columns = 80

-- columns for the bytes of the line before the place, and for those from it on
abbrev pub side_columns : ℕ
side_columns = 36

abbrev pub columns_of : ℕ → ℕ
columns_of b = length (shown_byte b)

-- a byte that is not shown: it ends the line, or takes more columns than are left
abbrev pub shuts : ℕ → ℕ → Bool
shuts columns b = eqb b 10 || ltb columns (columns_of b)

-- where the bytes begin that are shown before a place, in so many columns
unfoldable pub cut_from : ℕ → List ℕ → ℕ → ℕ
cut_from columns s zero = zero
cut_from columns s (suc i) = elim (shuts columns (get_or s i 0)) [ true ↦ suc i | false ↦ cut_from (columns - columns_of (get_or s i 0)) s i ]

-- and where those end that are shown from a place on
unfoldable pub cut_to : ℕ → ℕ → List ℕ → ℕ
cut_to columns p [] = p
cut_to columns p (b ∷ l) = elim (shuts columns b) [ true ↦ p | false ↦ cut_to (columns - columns_of b) (suc p) l ]

-- the line goes on: with the nearest byte before the cut, or with the first after it
abbrev pub goes_on : List ℕ → Bool
goes_on [] = false
goes_on (b ∷ l) = not (eqb b 10)

unfoldable pub dots : Bool → List ℕ
dots more = cond more (text "...") []

-- how many lines end here, and in all of these bytes
abbrev pub ends_line : ℕ → ℕ
ends_line b = cond (eqb b 10) 1 0

unfoldable pub line_ends : List ℕ → ℕ
line_ends [] = 0
line_ends (b ∷ l) = ends_line b + line_ends l

-- of a text and a place in it or at its end
module _ (s : List ℕ) (p : ℕ) where
  -- the bytes of its line before the place, and those from it on
  unfoldable pub lead_text : List ℕ
  lead_text = let i = cut_from side_columns s p in text "  " ++ (dots (goes_on (back s i)) ++ shown_bytes (take (p - i) (drop i s)))

  unfoldable pub rest_text : List ℕ
  rest_text = let e = cut_to side_columns p (drop p s) in shown_bytes (take (e - p) (drop p s)) ++ dots (goes_on (drop e s))

  -- the caret stands under the first byte of the rest
  unfoldable pub caret_text : List ℕ
  caret_text = replicate (length lead_text) 32 ++ text "^"

  unfoldable pub excerpt : List ℕ
  excerpt = lead_text ++ (rest_text ++ (10 ∷ (caret_text ++ (10 ∷ []))))

  -- lines and columns are counted from 1, a column is a byte
  abbrev pub line_of : ℕ
  line_of = suc (line_ends (back s p))

  abbrev pub column_of : ℕ
  column_of = suc (before_lf (back s p))

  unfoldable pub position_text : List ℕ
  position_text = text "  line " ++ (decimal_text line_of ++ (text ", column " ++ decimal_text column_of))

  unfoldable pub position_line : List ℕ
  position_line = position_text ++ (10 ∷ [])
