-- Two lists of one length are equal where their blocks are, and what is left after these.
use Prim.Native.Nat.{ℕ, zero, suc, ◌+◌, ◌*◌, ◌/◌, ◌≤◌}
use native.Mathlib.Nat.{le_of_suc-le-suc}
use native.Mathlib.Omega.{arith}
use mathlib.Core.Path.{◌≡◌, refl, sym, ap, ap₂, ◌∙◌}
use mathlib.Core.Bool.{Bool, true, false, ◌&&◌}
use mathlib.Core.List.{List, [], ◌∷◌}
use lib.Dec.{eqb}
use lib.ListN.{length, take, drop, length-drop}
use lib.Pointwise.{pointwise}
use Rattle.std.proofs.lemmas.List.{drop-drop}
use Rattle.std.proofs.Math.Nat.{div-mul-le_self}
use Rattle.std.specs.Simd.{first_chunks}
use Rattle.grammar.specs.Notation.{same}

as_same : (x y : List ℕ) → pointwise eqb x y ≡ same x y
as_same [] [] = refl
as_same [] (b ∷ y) = refl
as_same (a ∷ x) [] = refl
as_same (a ∷ x) (b ∷ y) = ap (λ (t : Bool). eqb a b && t) (as_same x y)

and-apart : (p q r : Bool) → (p && q) && r ≡ p && (q && r)
and-apart true q r = refl
and-apart false q r = refl

same-cut : (n : ℕ) (x y : List ℕ) → n ≤ length x → n ≤ length y → same (take n x) (take n y) && same (drop n x) (drop n y) ≡ same x y
same-cut zero x y p q = refl
same-cut (suc n) [] y p q = absurd (omega arith)
same-cut (suc n) (a ∷ x) [] p q = absurd (omega arith)
same-cut (suc n) (a ∷ x) (b ∷ y) p q =
    and-apart (eqb a b) _ _ ∙ ap (λ (t : Bool). eqb a b && t) (same-cut n x y (le_of_suc-le-suc p) (le_of_suc-le-suc q))

-- the first k blocks of eight, and what is left
blocks : (k : ℕ) (x y : List ℕ) → k * 8 ≤ length x → k * 8 ≤ length y
    → pointwise (pointwise eqb) (first_chunks 8 k x) (first_chunks 8 k y) && same (drop (k * 8) x) (drop (k * 8) y) ≡ same x y
blocks zero x y p q = refl
blocks (suc k) x y p q =
    and-apart (pointwise eqb (take 8 x) (take 8 y)) _ _ ∙ (ap₂ (λ (s t : Bool). s && t) (as_same (take 8 x) (take 8 y)) (rest (blocks k (drop 8 x) (drop 8 y) (simp length-drop (omega arith)) (simp length-drop (omega arith)))) ∙ same-cut 8 x y (omega arith) (omega arith))
  where
    rest : pointwise (pointwise eqb) (first_chunks 8 k (drop 8 x)) (first_chunks 8 k (drop 8 y)) && same (drop (k * 8) (drop 8 x)) (drop (k * 8) (drop 8 y)) ≡ same (drop 8 x) (drop 8 y)
        → pointwise (pointwise eqb) (first_chunks 8 k (drop 8 x)) (first_chunks 8 k (drop 8 y)) && same (drop (suc k * 8) x) (drop (suc k * 8) y) ≡ same (drop 8 x) (drop 8 y)
    rest h = let e : suc k * 8 ≡ 8 + k * 8 = omega arith in rw (e, ← drop-drop (k * 8) 8 x, ← drop-drop (k * 8) 8 y) h

module _ (x y : List ℕ) {xs ys : List (List ℕ)} (same_length : length x ≡ length y) (f : xs ≡ first_chunks 8 (length x / 8) x) (g : ys ≡ first_chunks 8 (length y / 8) y) where
  cut : pointwise (pointwise eqb) xs ys && same (drop (length x / 8 * 8) x) (drop (length y / 8 * 8) y) ≡ same x y
  cut =
      let e : length y / 8 * 8 ≤ length y = div-mul-le_self (length y) 8 in
      rw (f, g, same_length) (blocks (length y / 8) x y (rw same_length e) e)

  -- some block differs
  pub blocks-differ : {t : Bool} → t ≡ pointwise (pointwise eqb) xs ys → t ≡ false → t ≡ same x y
  blocks-differ p n = n ∙ (ap (λ (s : Bool). s && same (drop (length x / 8 * 8) x) (drop (length y / 8 * 8) y)) (sym n ∙ p) ∙ cut)

  -- all blocks are equal, and what is left decides
  pub blocks-agree : {u v : List ℕ} {t r : Bool} → u ≡ drop (length x / 8 * 8) x → v ≡ drop (length y / 8 * 8) y → t ≡ pointwise (pointwise eqb) xs ys → t ≡ true → r ≡ pointwise eqb u v → r ≡ same x y
  blocks-agree {u} {v} h k p n w =
      w ∙ (as_same u v ∙ (ap₂ (λ (a b : List ℕ). same a b) h k ∙ (ap (λ (s : Bool). s && same (drop (length x / 8 * 8) x) (drop (length y / 8 * 8) y)) (sym n ∙ p) ∙ cut)))
