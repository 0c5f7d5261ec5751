-- What is seen at a place, from the words there.
use Prim.Native.Nat.{ℕ, suc, ◌+◌, ◌-◌, ◌*◌, ◌/◌, ◌≤◌, ◌<◌, min}
use native.Mathlib.Nat.{min-eq_left, min-eq_right, le_of_lt}
use native.Mathlib.Numerals.{add-one}
use native.Mathlib.Omega.{arith}
use mathlib.Core.Path.{◌≡◌, refl, sym, ap, ◌∙◌}
use mathlib.Core.List.{List, [], ◌∷◌}
use mathlib.Core.Bool.{Bool, true, false}
use lib.Dec.{leb}
use borrow.Author.Tests.{leb-true, leb-false}
use lib.ListN.{length, take, drop, get_or, length-drop}
use lib.Seq.{drop-cons, take_all}
use Rattle.grammar.specs.Limits.{record_words}
use Rattle.std.specs.Prelude.{Option, Some, None}
use Rattle.walker.specs.declared.records.Record.{Record}
use Rattle.walker.specs.Seeing.{whole, first_seen, seen_at, place_from, place_after, part_of}

-- four words are a record, fewer are none
four : (ws : List ℕ) (at : ℕ) → at + 3 < length ws → drop at ws ≡ get_or ws at 0 ∷ get_or ws (suc at) 0 ∷ get_or ws (suc (suc at)) 0 ∷ get_or ws (suc (suc (suc at))) 0 ∷ drop (suc (suc (suc (suc at)))) ws
four ws at h = rw (drop-cons ws at 0 (omega arith), drop-cons ws (suc at) 0 (omega arith), drop-cons ws (suc (suc at)) 0 (omega arith), drop-cons ws (suc (suc (suc at))) 0 (omega arith)) refl

few : (ws : List ℕ) → length ws < record_words → None ≡ first_seen ws
few [] h = refl
few (a ∷ []) h = refl
few (a ∷ b ∷ []) h = refl
few (a ∷ b ∷ c ∷ []) h = refl
few (a ∷ b ∷ c ∷ d ∷ ws) h = absurd (omega arith)

pub seen_whole : (ws : List ℕ) (n at : ℕ) → at ≡ record_words * n → n < length ws / record_words → whole (get_or ws at 0) (get_or ws (at + 1) 0) (get_or ws (at + 2) 0) (get_or ws (at + 3) 0) ≡ seen_at ws n
unfolding seen_at
seen_whole ws n at e h =
    let p : at + 1 ≡ suc at = omega arith in
    let q : at + 2 ≡ suc (suc at) = omega arith in
    let r : at + 3 ≡ suc (suc (suc at)) = omega arith in
    let f = four ws at (omega arith) in
    let g : whole (get_or ws at 0) (get_or ws (at + 1) 0) (get_or ws (at + 2) 0) (get_or ws (at + 3) 0) ≡ whole (get_or ws at 0) (get_or ws (suc at) 0) (get_or ws (suc (suc at)) 0) (get_or ws (suc (suc (suc at))) 0) = cc in
    g ∙ ap first_seen (sym f) ∙ ap (λ (k : ℕ). first_seen (drop k ws)) e

pub seen_none : (ws : List ℕ) (n : ℕ) → length ws / record_words ≤ n → None ≡ seen_at ws n
unfolding seen_at
seen_none ws n h = few (drop (record_words * n) ws) (simp length-drop (omega arith))

-- the place after a whole record, and at the end
pub after-whole : (ws : List ℕ) (n : ℕ) → n < length ws / record_words → n + 1 ≡ place_after ws n
unfolding place_after
after-whole ws n h = add-one n ∙ ap (λ (s : Option Record). place_from s n) (seen_whole ws n (record_words * n) refl h)

pub after-end : (ws : List ℕ) (n : ℕ) → length ws / record_words ≤ n → n ≡ place_after ws n
unfolding place_after
after-end ws n h = ap (λ (s : Option Record). place_from s n) (seen_none ws n h)

-- where the place moves, and where a record is seen, there is one; where it stays there is none
pub moved-below : (ws : List ℕ) (n : ℕ) → (place_after ws n ≡ n → ⊥) → n < length ws / record_words
moved-below ws n f = go (leb (length ws / record_words) n) refl
  where
    go : (t : Bool) → leb (length ws / record_words) n ≡ t → n < length ws / record_words
    go true k = absurd (f (sym (after-end ws n (leb-true (length ws / record_words) n k))))
    go false k = leb-false (length ws / record_words) n k

pub stayed-end : (ws : List ℕ) (n : ℕ) → place_after ws n ≡ n → length ws / record_words ≤ n
stayed-end ws n e = go (leb (length ws / record_words) n) refl
  where
    go : (t : Bool) → leb (length ws / record_words) n ≡ t → length ws / record_words ≤ n
    go true k = leb-true (length ws / record_words) n k
    go false k = let z : n + 1 ≡ n = after-whole ws n (leb-false (length ws / record_words) n k) ∙ e in absurd (omega arith)

pub seen_below : (ws : List ℕ) (n : ℕ) {r : Record} → seen_at ws n ≡ Some r → n < length ws / record_words
unfolding place_after
seen_below ws n e = moved-below ws n (λ f. let z : suc n ≡ n = sym (ap (λ (s : Option Record). place_from s n) e) ∙ f in omega arith)
