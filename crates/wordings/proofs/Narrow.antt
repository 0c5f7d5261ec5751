-- No line that shows a refusal is wider than a terminal: 80 columns.
-- The idea: the bytes shown on either side of the place take no more columns than their side has, and the rest is fixed.
use Prim.Native.Nat.{ℕ, zero, suc, ◌+◌, ◌-◌, ◌≤◌, ◌<◌, ◌^◌}
use native.Mathlib.Omega.{arith}
use mathlib.Core.Path.{◌≡◌, refl, sym, ap, ◌∙◌}
use mathlib.Core.Bool.{Bool, true, false}
use mathlib.Core.List.{List, [], ◌∷◌, ◌++◌}
use lib.ListN.{length, take, drop, get_or, replicate, length-append, length-drop, length-replicate}
use lib.Seq.{take-suc, get_or-drop}
use Rattle.grammar.specs.Notation.{text}
use Rattle.rules.specs.declared.SchemaRefusal.{SchemaRefusal}
use Rattle.rules.specs.declared.SchemaRefusal.TheVariants as R
use Rattle.rules.specs.declared.MessageRefusal.{MessageRefusal}
use Rattle.rules.specs.declared.MessageRefusal.TheVariants as M
use Rattle.rules.specs.SchemaAnswers as Schemas
use Rattle.rules.specs.MessageAnswers as Messages
use Rattle.lines.specs.Text.{decimal_text}
use Rattle.lines.proofs.TextLaws.{number_length}
use Rattle.trees.specs.Backwards.{back}
use Rattle.trees.specs.Escapes.{shown_byte, shown_bytes}
use Rattle.trees.proofs.ShownLaws.{shown-append, shown_one, shown_none}
use Rattle.wordings.specs.Excerpts.{most_columns, side_columns, columns_of, shuts, cut_from, cut_to, goes_on, dots, line_of, column_of, lead_text, rest_text, caret_text, position_text}
use Rattle.wordings.specs.Wordings.{refused_line}
use Rattle.wordings.proofs.ExcerptLaws.{not_shut, ends_few, column_few}

abbrev width : List ℕ → ℕ
width l = length (shown_bytes l)

width-on : (l : List ℕ) (b : ℕ) → width (l ++ (b ∷ [])) ≡ width l + columns_of b
width-on l b = ap length (shown-append l (b ∷ [])) ∙ length-append (shown_bytes l) (shown_bytes (b ∷ [])) ∙ ap (λ (x : List ℕ). width l + length x) (shown_one b)

none-wide : (columns : ℕ) (l : List ℕ) (n : ℕ) → n ≡ 0 → width (take n l) ≤ columns
none-wide columns l n e = let z : width (take n l) ≡ 0 = ap (λ (k : ℕ). width (take k l)) e ∙ ap length shown_none in omega arith

-- ---- before the place
from_low : (columns : ℕ) (s : List ℕ) (p : ℕ) → cut_from columns s p ≤ p
unfolding cut_from
from_low columns s zero = omega arith
from_low columns s (suc i) = go (shuts columns (get_or s i 0)) (from_low (columns - columns_of (get_or s i 0)) s i)
  where
    go : (t : Bool) → cut_from (columns - columns_of (get_or s i 0)) s i ≤ i → elim t [ true ↦ suc i | false ↦ cut_from (columns - columns_of (get_or s i 0)) s i ] ≤ suc i
    go true h = omega arith
    go false h = omega arith

-- the bytes from c up to one more
one_more : (s : List ℕ) (c i : ℕ) → c ≤ i → i < length s → take (suc i - c) (drop c s) ≡ take (i - c) (drop c s) ++ (get_or s i 0 ∷ [])
one_more s c i h k =
    let e : suc i - c ≡ suc (i - c) = omega arith in
    let f : c + (i - c) ≡ i = omega arith in
    let l : i - c < length (drop c s) = simp length-drop (omega arith) in
    ap (λ (n : ℕ). take n (drop c s)) e ∙ take-suc (drop c s) (i - c) 0 l ∙ ap (λ (x : ℕ). take (i - c) (drop c s) ++ (x ∷ [])) (get_or-drop c s (i - c) 0 ∙ ap (λ (n : ℕ). get_or s n 0) f)

abbrev from_wide : ℕ → List ℕ → ℕ → ℕ → Type 0
from_wide columns s p c = width (take (p - c) (drop c s)) ≤ columns

from_wide_lem : (columns : ℕ) (s : List ℕ) (p : ℕ) → p ≤ length s → from_wide columns s p (cut_from columns s p)
unfolding cut_from
from_wide_lem columns s zero h = none-wide columns (drop 0 s) (0 - 0) (omega arith)
from_wide_lem columns s (suc i) h = go (shuts columns (get_or s i 0)) refl (from_wide_lem (columns - columns_of (get_or s i 0)) s i (omega arith))
  where
    c : ℕ
    c = cut_from (columns - columns_of (get_or s i 0)) s i

    go : (t : Bool) → shuts columns (get_or s i 0) ≡ t → from_wide (columns - columns_of (get_or s i 0)) s i c → from_wide columns s (suc i) (elim t [ true ↦ suc i | false ↦ c ])
    go true e w = none-wide columns (drop (suc i) s) (suc i - suc i) (omega arith)
    go false e w =
        omega (
          arith,
          not_shut columns (get_or s i 0) e,
          ap width (one_more s c i (from_low (columns - columns_of (get_or s i 0)) s i) h),
          width-on (take (i - c) (drop c s)) (get_or s i 0),
        )

-- ---- from the place on
to_high : (columns p : ℕ) (l : List ℕ) → p ≤ cut_to columns p l
unfolding cut_to
to_high columns p [] = omega arith
to_high columns p (b ∷ l) = go (shuts columns b) (to_high (columns - columns_of b) (suc p) l)
  where
    go : (t : Bool) → suc p ≤ cut_to (columns - columns_of b) (suc p) l → p ≤ elim t [ true ↦ p | false ↦ cut_to (columns - columns_of b) (suc p) l ]
    go true h = omega arith
    go false h = omega arith

width_cons : (b : ℕ) (l : List ℕ) → width (b ∷ l) ≡ columns_of b + width l
unfolding shown_bytes
width_cons b l = length-append (shown_byte b) (shown_bytes l)

to-wide : (columns p : ℕ) (l : List ℕ) → width (take (cut_to columns p l - p) l) ≤ columns
unfolding cut_to
to-wide columns p [] = none-wide columns [] (p - p) (omega arith)
to-wide columns p (b ∷ l) = go (shuts columns b) refl (to-wide (columns - columns_of b) (suc p) l) (to_high (columns - columns_of b) (suc p) l)
  where
    e : ℕ
    e = cut_to (columns - columns_of b) (suc p) l

    go : (t : Bool) → shuts columns b ≡ t → width (take (e - suc p) l) ≤ columns - columns_of b → suc p ≤ e → width (take (elim t [ true ↦ p | false ↦ e ] - p) (b ∷ l)) ≤ columns
    go true q w h = none-wide columns (b ∷ l) (p - p) (omega arith)
    go false q w h =
        let k : e - p ≡ suc (e - suc p) = omega arith in
        omega (arith, not_shut columns b q, ap (λ (n : ℕ). width (take n (b ∷ l))) k, width_cons b (take (e - suc p) l))

-- ---- the lines
few-dots : (more : Bool) → length (dots more) ≤ 3
unfolding dots
few-dots true = omega arith
few-dots false = omega arith

module _ (s : List ℕ) (p : ℕ) (h : p ≤ length s) where
  lead-narrow : length (lead_text s p) ≤ 2 + 3 + side_columns
  unfolding lead_text
  lead-narrow =
      let i : ℕ = cut_from side_columns s p in
      let d : List ℕ = dots (goes_on (back s i)) in
      let b : List ℕ = shown_bytes (take (p - i) (drop i s)) in
      omega (arith, length-append (text "  ") (d ++ b), length-append d b, few-dots (goes_on (back s i)), from_wide_lem side_columns s p h)

  rest-narrow : length (rest_text s p) ≤ side_columns + 3
  unfolding rest_text
  rest-narrow =
      let e : ℕ = cut_to side_columns p (drop p s) in
      let b : List ℕ = shown_bytes (take (e - p) (drop p s)) in
      omega (arith, length-append b (dots (goes_on (drop e s))), few-dots (goes_on (drop e s)), to-wide side_columns p (drop p s))

  -- the line around the place, and that of the caret
  pub excerpt-narrow : (length (lead_text s p ++ rest_text s p) ≤ most_columns) × (length (caret_text s p) ≤ most_columns)
  unfolding caret_text
  excerpt-narrow = (
    omega (arith, length-append (lead_text s p) (rest_text s p), lead-narrow, rest-narrow),
    omega (arith, length-append (replicate (length (lead_text s p)) 32) (text "^"), length-replicate {A = ℕ} (length (lead_text s p)) 32, lead-narrow),
  )

  -- and that of the line and column
  pub position_narrow : length s < 2 ^ 32 → length (position_text s p) ≤ most_columns
  unfolding position_text
  position_narrow k =
      let line : ℕ = line_of s p in
      let column : ℕ = column_of s p in
      let tail : List ℕ = text ", column " ++ decimal_text column in
      omega (
        arith,
        length-append (text "  line ") (decimal_text line ++ tail),
        length-append (decimal_text line) tail,
        length-append (text ", column ") (decimal_text column),
        number_length line (omega (arith, ends_few s p)),
        number_length column (omega (arith, column_few s p)),
      )

-- a refusal in words, with its LF
pub schema-narrow : (x : SchemaRefusal) → length (refused_line (Schemas.refusal_number x)) ≤ suc most_columns
unfolding refused_line decimal_text
schema-narrow R.TooLong = omega arith
schema-narrow R.NotText = omega arith
schema-narrow R.RepeatedKey = omega arith
schema-narrow R.NotDefinitions = omega arith
schema-narrow R.BadName = omega arith
schema-narrow R.RepeatedName = omega arith
schema-narrow R.UnknownName = omega arith
schema-narrow R.BadChain = omega arith
schema-narrow R.BadUnion = omega arith
schema-narrow R.BadAlternate = omega arith
schema-narrow R.BadReturn = omega arith
schema-narrow R.TooManyRows = omega arith
schema-narrow R.NoRoom = omega arith

pub message-narrow : (x : MessageRefusal) → length (refused_line (Messages.refusal_number x)) ≤ suc most_columns
unfolding refused_line decimal_text
message-narrow M.UnsoundTable = omega arith
message-narrow M.TooLong = omega arith
message-narrow M.NotText = omega arith
message-narrow M.TooDeep = omega arith
message-narrow M.RepeatedKey = omega arith
message-narrow M.NotEnvelope = omega arith
message-narrow M.UnknownCommand = omega arith
message-narrow M.NotOutOfBand = omega arith
message-narrow M.NoReading = omega arith
message-narrow M.NoRoom = omega arith
