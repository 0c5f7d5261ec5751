-- Laws of names: equal bytes, good names.
-- Equal bytes are a test of every place from the first on.
use Prim.Native.Nat.{ℕ, zero, suc, ◌+◌, ◌≤◌, ◌<◌}
use mathlib.Core.Path.{◌≡◌, refl, sym, ap, ◌∙◌}
use mathlib.Core.Bool.{Bool, true, false, not, ◌&&◌, ◌||◌, and-true, and-false}
use mathlib.Core.List.{List, [], ◌∷◌}
use native.Mathlib.Numerals.{add-one}
use native.Mathlib.Omega.{arith}
use lib.Dec.{eqb, leb}
use lib.ListN.{length, take, drop, get_or, drop_of_length-le}
use lib.Seq.{drop-cons}
use borrow.Author.Tests.{le-leb, lt-leb}
use Rattle.grammar.proofs.Lists.{different}
use Rattle.grammar.proofs.Booleans.{within-is, within-below, within-above}
use Rattle.grammar.specs.Lexis.{blank}
use Rattle.grammar.specs.Limits.{name_bytes}
use Rattle.grammar.specs.Notation.{text, within, same, all, digit}
use Rattle.rules.specs.Names.{letter, name_byte, good_name, c_byte, c_name, clash}
use Rattle.strings.proofs.Tables.{entry}
use Rattle.strings.specs.Classes.{class_of, tabulate, named_class}
use Rattle.rows.proofs.Walks.{up_to, up_to_of}

-- equal bytes of equal length
pub same-up_to : (x y : List ℕ) → length x ≡ length y → same x y ≡ up_to (λ k. eqb (get_or x k 0) (get_or y k 0)) 0 (length x)
same-up_to x y e =
    up_to_of (λ k. eqb (get_or x k 0) (get_or y k 0)) (length x) (λ i. same (drop i x) (drop i y))
    (λ i h. rw (add-one, drop-cons x i 0 h, drop-cons y i 0 (let g : i < length y = omega arith in g)))
    (λ i h. rw (drop_of_length-le x h, drop_of_length-le y (let g : length y ≤ i = omega arith in g))) 0

-- the bytes of a name in C, one by one
pub c_length : (x : List ℕ) → length (c_name x) ≡ length x
c_length [] = refl
c_length (b ∷ x) = ap suc (c_length x)

pub c_byte_lem : (x : List ℕ) (i : ℕ) → get_or (c_name x) i 0 ≡ c_byte (get_or x i 0)
c_byte_lem [] i = refl
c_byte_lem (b ∷ x) zero = refl
c_byte_lem (b ∷ x) (suc i) = c_byte_lem x i

-- names of equal length that clash
pub clash-up_to : (x y : List ℕ) → length x ≡ length y → clash x y ≡ up_to (λ k. eqb (c_byte (get_or x k 0)) (c_byte (get_or y k 0))) 0 (length x)
unfolding clash
clash-up_to x y e = simp (c_length, c_byte_lem) at (same-up_to (c_name x) (c_name y) (c_length x ∙ e ∙ sym (c_length y)))

pub clash-length : (x y : List ℕ) → (length x ≡ length y → ⊥) → false ≡ clash x y
unfolding clash
clash-length x y n = sym (different (c_name x) (c_name y) (λ e. n (sym (c_length x) ∙ ap length e ∙ c_length y)))

-- name bytes by their class
class_names : tabulate (λ b. named_class (class_of b)) 0 256 ≡ tabulate name_byte 0 256
unfolding class_of blank
class_names = refl

pub name_class : (b : ℕ) → b < 256 → named_class (class_of b) ≡ name_byte b
name_class b h = sym (entry (λ i. named_class (class_of i)) 256 b false h) ∙ ap (λ l. get_or l b false) class_names ∙ entry name_byte 256 b false h

-- all bytes of a name, one by one
module _ (l : List ℕ) (i : ℕ) {t : Bool} (w : t ≡ all name_byte (drop i l)) where
  all_next : i < length l → t ≡ (name_byte (get_or l i 0) && all name_byte (drop (i + 1) l))
  all_next h = w ∙ rw (add-one, drop-cons l i 0 h) refl

  pub all_hit : i < length l → name_byte (get_or l i 0) ≡ false → false ≡ t
  all_hit h e = sym (rw e at (all_next h))

  pub all_on : i < length l → name_byte (get_or l i 0) ≡ true → t ≡ all name_byte (drop (i + 1) l)
  all_on h e = rw e at (all_next h)

  pub all_end : length l ≤ i → true ≡ t
  all_end h = sym (w ∙ rw (drop_of_length-le l h) refl)

-- a name that begins with q_
abbrev reserved : List ℕ → Bool
reserved x = same (take 2 x) (text "q_")

-- a good name, by its parts
module _ (digits : Bool) where
  pub no_name : (x : List ℕ) → length x ≡ 0 → false ≡ good_name digits x
  no_name [] h = refl
  no_name (b ∷ x) h = absurd (omega arith)

  module _ (x : List ℕ) (some : length x ≡ 0 → ⊥) where
    abbrev starts : Bool
    starts = letter (get_or x 0 0) || digits && digit (get_or x 0 0)

    good_at : good_name digits x ≡ (starts && all name_byte (drop 1 x) && leb (length x) name_bytes && not (reserved x))
    good_at = go x some
      where
        go : (y : List ℕ) → (length y ≡ 0 → ⊥)
            → good_name digits y ≡ ((letter (get_or y 0 0) || digits && digit (get_or y 0 0)) && all name_byte (drop 1 y) && leb (length y) name_bytes && not (reserved y))
        go [] n = absurd (n refl)
        go (b ∷ y) n = refl

    pub name-long : name_bytes < length x → false ≡ good_name digits x
    name-long h = rw (good_at, lt-leb (length x) name_bytes h, and-false)

    pub name_start : starts ≡ false → false ≡ good_name digits x
    name_start h = rw (good_at, h)

    pub name-reserved : reserved x ≡ true → false ≡ good_name digits x
    name-reserved h = rw (good_at, h, and-false)

    pub name-rest : length x ≤ name_bytes → starts ≡ true → reserved x ≡ false → all name_byte (drop 1 x) ≡ good_name digits x
    name-rest h p q = rw (good_at, le-leb (length x) name_bytes h, p, q) (simp and-true)
