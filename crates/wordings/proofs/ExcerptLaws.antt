-- The bytes around a place that are shown, byte by byte: where the cut begins and ends, whether the line goes on, and its columns.
use Prim.Native.Nat.{ℕ, zero, suc, ◌+◌, ◌-◌, ◌≤◌, ◌<◌}
use native.Mathlib.Numerals.{add-one}
use native.Mathlib.Omega.{arith}
use mathlib.Core.Path.{◌≡◌, refl, sym, ap, ◌∙◌}
use mathlib.Core.Bool.{Bool, true, false, cond, not, ◌||◌}
use mathlib.Core.List.{List, [], ◌∷◌, ◌++◌, append_assoc}
use lib.Dec.{eqb, ltb}
use lib.ListN.{length, take, drop, get_or, replicate, drop_of_length-le, length-append, length-take, length-drop}
use lib.Seq.{drop-cons}
use borrow.Author.Tests.{eq-eqb, ne_eqb, ltb-false}
use Rattle.grammar.specs.Notation.{text}
use Rattle.lines.specs.Lines.{or_next, before_lf}
use Rattle.lines.specs.Text.{decimal_text}
use Rattle.trees.specs.Backwards.{back}
use Rattle.trees.specs.Escapes.{printable, hex_byte, shown_byte, shown_bytes}
use Rattle.trees.proofs.BackLaws.{back_next, back_start}
use Rattle.trees.proofs.ShownLaws.{low_byte, above_range, plain_byte, each_length}
use Rattle.wordings.specs.Excerpts.{side_columns, columns_of, shuts, cut_from, cut_to, goes_on, dots, ends_line, line_ends, line_of, column_of, lead_text, rest_text, caret_text, excerpt, position_text, position_line}
use Rattle.wordings.specs.Serving.Rooms.{lead_room, rest_room}

-- ---- columns
pub low_columns : (b : ℕ) → b < 32 → columns_of b ≡ 4
low_columns b h = ap length (low_byte b h)

pub high_columns : (b : ℕ) → 126 < b → columns_of b ≡ 4
high_columns b h = ap length (sym (above_range b h))

pub one_column : (b : ℕ) → 32 ≤ b → b ≤ 126 → columns_of b ≡ 1
one_column b h k = ap length (plain_byte b h k)

one_or_four : (b : ℕ) (t : Bool) → 1 ≤ length (cond t (b ∷ []) (hex_byte b))
one_or_four b true = omega arith
one_or_four b false = omega arith

pub some_columns : (b : ℕ) → 1 ≤ columns_of b
unfolding shown_byte
some_columns b = one_or_four b (printable b)

-- ---- a byte that is not shown
or_right : (x y : Bool) → x || y ≡ false → y ≡ false
or_right true true e = e
or_right true false e = refl
or_right false y e = e

module _ (columns b : ℕ) where
  pub shuts_end : b ≡ 10 → shuts columns b ≡ true
  shuts_end e = ap (shuts columns) e

  pub shuts_by : (b ≡ 10 → ⊥) → shuts columns b ≡ ltb columns (columns_of b)
  shuts_by n = ap (λ (t : Bool). t || ltb columns (columns_of b)) (ne_eqb b 10 n)

  pub not_shut : shuts columns b ≡ false → columns_of b ≤ columns
  not_shut e = ltb-false columns (columns_of b) (or_right (eqb b 10) (ltb columns (columns_of b)) e)

-- ---- where the cut begins
module _ (columns : ℕ) (s : List ℕ) (i : ℕ) where
  from_by : (t : Bool) → shuts columns (get_or s i 0) ≡ t → cut_from columns s (suc i) ≡ elim t [ true ↦ suc i | false ↦ cut_from (columns - columns_of (get_or s i 0)) s i ]
  unfolding cut_from
  from_by t e = ap (λ (x : Bool). elim x [ true ↦ suc i | false ↦ cut_from (columns - columns_of (get_or s i 0)) s i ]) e

  pub from_stop : shuts columns (get_or s i 0) ≡ true → cut_from columns s (i + 1) ≡ i + 1
  from_stop e = ap (cut_from columns s) (add-one i) ∙ from_by true e ∙ sym (add-one i)

  pub from_on : shuts columns (get_or s i 0) ≡ false → cut_from columns s (i + 1) ≡ cut_from (columns - columns_of (get_or s i 0)) s i
  from_on e = ap (cut_from columns s) (add-one i) ∙ from_by false e

pub from_start : (columns : ℕ) (s : List ℕ) (i : ℕ) → i ≤ 0 → cut_from columns s i ≡ 0
unfolding cut_from
from_start columns s zero h = refl
from_start columns s (suc i) h = absurd (omega arith)

-- as many bytes as columns at most
pub from_near : (columns : ℕ) (s : List ℕ) (p : ℕ) → (cut_from columns s p ≤ p) × (p ≤ cut_from columns s p + columns)
unfolding cut_from
from_near columns s zero = (omega arith, omega arith)
from_near columns s (suc i) = go (shuts columns (get_or s i 0)) refl (from_near (columns - columns_of (get_or s i 0)) s i)
  where
    c : ℕ
    c = cut_from (columns - columns_of (get_or s i 0)) s i

    go : (t : Bool) → shuts columns (get_or s i 0) ≡ t → (c ≤ i) × (i ≤ c + (columns - columns_of (get_or s i 0))) → (elim t [ true ↦ suc i | false ↦ c ] ≤ suc i) × (suc i ≤ elim t [ true ↦ suc i | false ↦ c ] + columns)
    go true e h = (omega arith, omega arith)
    go false e h = (omega (arith, h.0), omega (arith, h.1, not_shut columns (get_or s i 0) e, some_columns (get_or s i 0)))

-- ---- where it ends
to_by : (columns p b : ℕ) (l : List ℕ) (t : Bool) → shuts columns b ≡ t → cut_to columns p (b ∷ l) ≡ elim t [ true ↦ p | false ↦ cut_to (columns - columns_of b) (suc p) l ]
unfolding cut_to
to_by columns p b l t e = ap (λ (x : Bool). elim x [ true ↦ p | false ↦ cut_to (columns - columns_of b) (suc p) l ]) e

module _ (columns : ℕ) (s : List ℕ) (i : ℕ) where
  pub to_stop : i < length s → shuts columns (get_or s i 0) ≡ true → cut_to columns i (drop i s) ≡ i
  to_stop h e = ap (cut_to columns i) (drop-cons s i 0 h) ∙ to_by columns i (get_or s i 0) (drop (suc i) s) true e

  pub to_on : i < length s → shuts columns (get_or s i 0) ≡ false → cut_to columns i (drop i s) ≡ cut_to (columns - columns_of (get_or s i 0)) (i + 1) (drop (i + 1) s)
  to_on h e =
      ap (cut_to columns i) (drop-cons s i 0 h) ∙ to_by columns i (get_or s i 0) (drop (suc i) s) false e ∙ ap (λ (n : ℕ). cut_to (columns - columns_of (get_or s i 0)) n (drop n s)) (sym (add-one i))

  pub to_end : length s ≤ i → cut_to columns i (drop i s) ≡ i
  unfolding cut_to
  to_end h = ap (cut_to columns i) (drop_of_length-le s h)

pub to_near : (columns p : ℕ) (l : List ℕ) → (p ≤ cut_to columns p l) × (cut_to columns p l ≤ p + columns) × (cut_to columns p l ≤ p + length l)
unfolding cut_to
to_near columns p [] = (omega arith, omega arith, omega arith)
to_near columns p (b ∷ l) = go (shuts columns b) refl (to_near (columns - columns_of b) (suc p) l)
  where
    c : ℕ
    c = cut_to (columns - columns_of b) (suc p) l

    go : (t : Bool) → shuts columns b ≡ t → (suc p ≤ c) × (c ≤ suc p + (columns - columns_of b)) × (c ≤ suc p + length l)
        → (p ≤ elim t [ true ↦ p | false ↦ c ]) × (elim t [ true ↦ p | false ↦ c ] ≤ p + columns) × (elim t [ true ↦ p | false ↦ c ] ≤ p + suc (length l))
    go true e h = (omega arith, omega arith, omega arith)
    go false e h = (omega (arith, h.0), omega (arith, h.1, not_shut columns b e, some_columns b), omega (arith, h.2))

-- ---- whether the line goes on
module _ (s : List ℕ) (i : ℕ) where
  pub goes_start : i ≤ 0 → goes_on (back s i) ≡ false
  goes_start h = ap goes_on (back_start s i h)

  pub goes_before : goes_on (back s (i + 1)) ≡ not (eqb (get_or s i 0) 10)
  goes_before = ap goes_on (back_next s i)

  pub goes_end : length s ≤ i → goes_on (drop i s) ≡ false
  goes_end h = ap goes_on (drop_of_length-le s h)

  pub goes_from : i < length s → goes_on (drop i s) ≡ not (eqb (get_or s i 0) 10)
  goes_from h = ap goes_on (drop-cons s i 0 h)

pub dots_some : dots true ≡ text "..."
unfolding dots
dots_some = refl

pub dots_none : dots false ≡ []
unfolding dots
dots_none = refl

pub dots_length : (t : Bool) → length (dots t) ≤ 3
unfolding dots
dots_length true = omega arith
dots_length false = omega arith

-- ---- the line and the caret
module _ (s : List ℕ) (p : ℕ) where
  pub lead_is : lead_text s p ≡ text "  " ++ (dots (goes_on (back s (cut_from side_columns s p))) ++ shown_bytes (take (p - cut_from side_columns s p) (drop (cut_from side_columns s p) s)))
  unfolding lead_text
  lead_is = refl

  pub rest_is : rest_text s p ≡ shown_bytes (take (cut_to side_columns p (drop p s) - p) (drop p s)) ++ dots (goes_on (drop (cut_to side_columns p (drop p s)) s))
  unfolding rest_text
  rest_is = refl

  pub lead_length : length (lead_text s p) ≤ lead_room
  unfolding lead_text
  lead_length =
      let i = cut_from side_columns s p in
      let d = dots (goes_on (back s i)) in
      let t = take (p - i) (drop i s) in
      let k : length t ≤ p - i = simp length-take (omega arith) in
      omega (arith, length-append d (shown_bytes t), dots_length (goes_on (back s i)), each_length t, k, (from_near side_columns s p).1)

  pub rest_length : length (rest_text s p) ≤ rest_room
  unfolding rest_text
  rest_length =
      let e = cut_to side_columns p (drop p s) in
      let d = dots (goes_on (drop e s)) in
      let t = take (e - p) (drop p s) in
      let k : length t ≤ e - p = simp length-take (omega arith) in
      omega (arith, length-append (shown_bytes t) d, dots_length (goes_on (drop e s)), each_length t, k, (to_near side_columns p (drop p s)).1)

  pub excerpt_is : excerpt s p ≡ lead_text s p ++ (rest_text s p ++ (10 ∷ (replicate (length (lead_text s p)) 32 ++ (text "^" ++ (10 ∷ [])))))
  unfolding excerpt caret_text
  excerpt_is = ap (λ (l : List ℕ). lead_text s p ++ (rest_text s p ++ (10 ∷ l))) (append_assoc (replicate (length (lead_text s p)) 32) (text "^") (10 ∷ []))

-- ---- lines and columns
pub ends_start : (s : List ℕ) (i : ℕ) → i ≤ 0 → line_ends (back s i) ≡ 0
unfolding line_ends
ends_start s i h = ap line_ends (back_start s i h)

pub ends_lf : (s : List ℕ) (i : ℕ) → get_or s i 0 ≡ 10 → line_ends (back s (i + 1)) ≡ 1 + line_ends (back s i)
unfolding line_ends
ends_lf s i e = ap line_ends (back_next s i) ∙ ap (λ (t : Bool). cond t 1 0 + line_ends (back s i)) (eq-eqb (get_or s i 0) 10 e)

pub ends_other : (s : List ℕ) (i : ℕ) → (get_or s i 0 ≡ 10 → ⊥) → line_ends (back s (i + 1)) ≡ line_ends (back s i)
unfolding line_ends
ends_other s i n = ap line_ends (back_next s i) ∙ ap (λ (t : Bool). cond t 1 0 + line_ends (back s i)) (ne_eqb (get_or s i 0) 10 n) ∙ omega arith

pub lf_start : (s : List ℕ) (i : ℕ) → i ≤ 0 → before_lf (back s i) ≡ 0
unfolding before_lf
lf_start s i h = ap before_lf (back_start s i h)

pub lf_here : (s : List ℕ) (i : ℕ) → get_or s i 0 ≡ 10 → before_lf (back s (i + 1)) ≡ 0
unfolding before_lf
lf_here s i e = ap before_lf (back_next s i) ∙ ap (λ (t : Bool). or_next t (before_lf (back s i))) (eq-eqb (get_or s i 0) 10 e)

pub lf_on : (s : List ℕ) (i : ℕ) → (get_or s i 0 ≡ 10 → ⊥) → before_lf (back s (i + 1)) ≡ suc (before_lf (back s i))
unfolding before_lf
lf_on s i n = ap before_lf (back_next s i) ∙ ap (λ (t : Bool). or_next t (before_lf (back s i))) (ne_eqb (get_or s i 0) 10 n)

pub ends_few : (s : List ℕ) (p : ℕ) → line_ends (back s p) ≤ p
unfolding line_ends back
ends_few s zero = omega arith
ends_few s (suc p) = let h = ends_few s p in omega (arith, one_at_most (eqb (get_or s p 0) 10))
  where
    one_at_most : (t : Bool) → cond t 1 0 ≤ 1
    one_at_most true = omega arith
    one_at_most false = omega arith

pub column_few : (s : List ℕ) (p : ℕ) → before_lf (back s p) ≤ p
unfolding before_lf back
column_few s zero = omega arith
column_few s (suc p) = let h = column_few s p in go (eqb (get_or s p 0) 10) h
  where
    go : (t : Bool) → before_lf (back s p) ≤ p → or_next t (before_lf (back s p)) ≤ suc p
    go true h = omega arith
    go false h = omega arith

pub position_is : (s : List ℕ) (p : ℕ) → position_line s p ≡ text "  line " ++ (decimal_text (line_of s p) ++ (text ", column " ++ (decimal_text (column_of s p) ++ (10 ∷ []))))
unfolding position_line position_text
position_is s p = ap (λ (l : List ℕ). text "  line " ++ l) (append_assoc (decimal_text (line_of s p)) (text ", column " ++ decimal_text (column_of s p)) (10 ∷ []))

pub position_length : (s : List ℕ) (p : ℕ) → length (decimal_text (line_of s p)) ≤ 20 → length (decimal_text (column_of s p)) ≤ 20 → length (position_line s p) ≤ 58
position_length s p h k =
    let a = decimal_text (line_of s p) in
    let b = decimal_text (column_of s p) in
    omega (arith, ap length (position_is s p), length-append a (text ", column " ++ (b ++ (10 ∷ []))), length-append b (10 ∷ []))
