-- An entry of a table of texts is the part between its bounds. The idea: behind a first text everything is as without it, further on by its length.
use Prim.Native.Nat.{ℕ, zero, suc, ◌+◌, ◌-◌, ◌≤◌, ◌<◌}
use native.Mathlib.Nat.{not-suc-le-zero, le_of_suc-le-suc}
use native.Mathlib.Omega.{arith}
use mathlib.Core.Path.{◌≡◌, refl, ap, ◌∙◌}
use mathlib.Core.Bool.{true}
use mathlib.Core.List.{List, [], ◌∷◌, ◌++◌}
use lib.Dec.{leb}
use lib.ListN.{length, take, drop, get_or, length-append}
use borrow.Author.Tests.{leb-true}
use Rattle.grammar.specs.Notation.{all}
use Rattle.grammar.specs.Serving.TextTable.{joined_texts, bounds_from}
use Rattle.grammar.proofs.Booleans.{both}

front : (t r : List ℕ) → take (length t) (t ++ r) ≡ t
front [] r = refl
front (b ∷ t) r = ap (λ (l : List ℕ). b ∷ l) (front t r)

behind : (t r : List ℕ) (i : ℕ) → drop (length t + i) (t ++ r) ≡ drop i r
behind [] r i = let e : 0 + i ≡ i = omega arith in ap (λ (k : ℕ). drop k r) e
behind (b ∷ t) r i = let e : suc (length t) + i ≡ suc (length t + i) = omega arith in ap (λ (k : ℕ). drop k (b ∷ (t ++ r))) e ∙ behind t r i

record Entry (a : ℕ) (ts : List (List ℕ)) (k : ℕ) : Type 0 where
  place : ℕ
  begins : get_or (bounds_from a ts) k 0 ≡ a + place
  stops : get_or (bounds_from a ts) (suc k) 0 ≡ a + place + length (get_or ts k [])
  within : place + length (get_or ts k []) ≤ length (joined_texts ts)
  text : take (length (get_or ts k [])) (drop place (joined_texts ts)) ≡ get_or ts k []

first : (a : ℕ) (ts : List (List ℕ)) → get_or (bounds_from a ts) 0 0 ≡ a
first a [] = refl
first a (t ∷ ts) = refl

entry : (ts : List (List ℕ)) (a k : ℕ) → k < length ts → Entry a ts k
entry [] a k h = absurd (not-suc-le-zero h)
entry (t ∷ ts) a zero h = record {
  place = 0;
  begins = omega arith;
  stops = first (a + length t) ts ∙ omega arith;
  within = omega (arith, length-append t (joined_texts ts));
  text = front t (joined_texts ts);
}
entry (t ∷ ts) a (suc k) h =
    let e = entry ts (a + length t) k (le_of_suc-le-suc h) in
    record {
      place = length t + e.place;
      begins = e.begins ∙ omega arith;
      stops = e.stops ∙ omega arith;
      within = omega (arith, e.within, length-append t (joined_texts ts));
      text = ap (take (length (get_or ts k []))) (behind t (joined_texts ts) e.place) ∙ e.text;
    }

-- the part between two bounds, and that it is one
pub record Part (ts : List (List ℕ)) (k from to : ℕ) : Type 0 where
  pub rises : from ≤ to
  pub within : to ≤ length (joined_texts ts)
  pub size : to - from ≡ length (get_or ts k [])
  pub text : take (to - from) (drop from (joined_texts ts)) ≡ get_or ts k []

pub part_at : (ts : List (List ℕ)) (k : ℕ) {j from to : ℕ} → k < length ts → j ≡ suc k → from ≡ get_or (bounds_from 0 ts) k 0 → to ≡ get_or (bounds_from 0 ts) j 0 → Part ts k from to
part_at ts k {j} {from} {to} h i p q =
    let e = entry ts 0 k h in
    let f : from ≡ e.place = p ∙ e.begins ∙ omega arith in
    let t : to ≡ e.place + length (get_or ts k []) = q ∙ ap (λ (x : ℕ). get_or (bounds_from 0 ts) x 0) i ∙ e.stops ∙ omega arith in
    let s : to - from ≡ length (get_or ts k []) = omega arith in
    record {
      rises = omega arith;
      within = omega (arith, e.within);
      size = s;
      text = ap (λ (n : ℕ). take n (drop from (joined_texts ts))) s ∙ ap (λ (n : ℕ). take (length (get_or ts k [])) (drop n (joined_texts ts))) f ∙ e.text;
    }

-- no entry is longer than so many bytes, if all are told to be no longer; past the last there is none
pub entry-short : (most : ℕ) (ts : List (List ℕ)) (k : ℕ) → all (λ (t : List ℕ). leb (length t) most) ts ≡ true → length (get_or ts k []) ≤ most
entry-short most [] k h = omega arith
entry-short most (t ∷ ts) zero h = leb-true (length t) most (both (leb (length t) most) (all (λ (u : List ℕ). leb (length u) most) ts) h).0
entry-short most (t ∷ ts) (suc k) h = entry-short most ts k (both (leb (length t) most) (all (λ (u : List ℕ). leb (length u) most) ts) h).1

pub no_entry : (ts : List (List ℕ)) (k : ℕ) → length ts ≤ k → get_or ts k [] ≡ []
no_entry [] k h = refl
no_entry (t ∷ ts) zero h = absurd (not-suc-le-zero h)
no_entry (t ∷ ts) (suc k) h = no_entry ts k (le_of_suc-le-suc h)
