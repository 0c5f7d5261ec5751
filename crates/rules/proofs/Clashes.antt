-- All that is used of names that clash: equal names do, the order of two is free, a built-in clashes with its own name only.
-- The laws on `clash` alone open it; lists of names whose hashes are alike are the business of crate rows (`clash-hash`). The rest follows by the lists.
use Prim.Native.Nat.{ℕ}
use Prim.Native.Char.{code}
use mathlib.Core.Path.{◌≡◌, refl, sym, ap, ap₂, ◌∙◌}
use mathlib.Core.Bool.{Bool, true, false, not, ◌&&◌}
use mathlib.Core.List.{List, [], ◌∷◌, ◌++◌, map, Memᴰ}
use lib.Dec.{eqb}
use borrow.Author.Tests.{eqb-true, eqb-false, ne_eqb, not-true}
use Rattle.grammar.specs.Notation.{same, all, apart}
use Rattle.grammar.proofs.Lists.{same_true, same-is, same_false, different, all_true, all_of}
use Rattle.rules.specs.Types.{built_ins}
use Rattle.rules.specs.Names.{same_name, c_byte, c_name, clash}
use Rattle.rules.specs.Rules.{no_clash}
use Rattle.rules.proofs.Lists.{and_left, and_right, and_of, not_of, of_not}

pub same-clash : (x y : List ℕ) → same_name x y ≡ true → clash x y ≡ true
unfolding clash
same-clash x y e = same-is (c_name x) (c_name y) (ap c_name (same_true x y e))

pub clash-sym : (x y : List ℕ) → clash x y ≡ clash y x
unfolding clash
clash-sym x y = go (same (c_name x) (c_name y)) refl
  where
    go : (b : Bool) → same (c_name x) (c_name y) ≡ b → b ≡ same (c_name y) (c_name x)
    go true e = sym (same-is (c_name y) (c_name x) (sym (same_true (c_name x) (c_name y) e)))
    go false e = sym (different (c_name y) (c_name x) (λ p. same_false (c_name x) (c_name y) e (sym p)))

-- no byte of a built-in's name is the same in C as another
abbrev alone : ℕ → Bool
alone b = not (eqb b (code "-")) && not (eqb b (code "_"))

byte-alone : (a b : ℕ) → alone b ≡ true → eqb (c_byte a) (c_byte b) ≡ eqb a b
byte-alone a b h = go (eqb a (code "-")) refl
  where
    no_dash : (b ≡ code "-" → ⊥)
    no_dash = eqb-false b (code "-") (not-true (eqb b (code "-")) (and_left (not (eqb b (code "-"))) (not (eqb b (code "_"))) h))

    no_bar : (b ≡ code "_" → ⊥)
    no_bar = eqb-false b (code "_") (not-true (eqb b (code "_")) (and_right (not (eqb b (code "-"))) (not (eqb b (code "_"))) h))

    go : (t : Bool) → eqb a (code "-") ≡ t → eqb (c_byte a) (c_byte b) ≡ eqb a b
    go true e =
        let p : a ≡ code "-" = eqb-true a (code "-") e in
        rw (p, ne_eqb b (code "-") no_dash) (ne_eqb (code "_") b (λ q. no_bar (sym q)) ∙ sym (ne_eqb (code "-") b (λ q. no_dash (sym q))))
    go false e = rw (e, ne_eqb b (code "-") no_dash)

name-alone : (x y : List ℕ) → all alone y ≡ true → same (c_name x) (c_name y) ≡ same x y
name-alone [] [] h = refl
name-alone [] (b ∷ y) h = refl
name-alone (a ∷ x) [] h = refl
name-alone (a ∷ x) (b ∷ y) h = ap₂ ◌&&◌ (byte-alone a b (and_left (alone b) (all alone y) h)) (name-alone x y (and_right (alone b) (all alone y) h))

pub built_in-clash : (x y : List ℕ) → Memᴰ y built_ins → clash x y ≡ same_name x y
unfolding clash
built_in-clash x y m = name-alone x y (all_true (all alone) built_ins refl y m)

-- a name clashes with none of a list
abbrev pub fresh : List ℕ → List (List ℕ) → Bool
fresh x l = all (λ y. not (clash x y)) l

pub built_in-fresh : (x : List ℕ) → fresh x built_ins ≡ all (λ y. not (same_name x y)) built_ins
built_in-fresh x = go built_ins (λ y m. built_in-clash x y m)
  where
    go : (l : List (List ℕ)) → ((y : List ℕ) → Memᴰ y l → clash x y ≡ same_name x y) → fresh x l ≡ all (λ y. not (same_name x y)) l
    go [] h = refl
    go (y ∷ l) h = rw (h y (Memᴰ.head refl), go l (λ z m. h z (Memᴰ.tail m)))

-- names that do not clash are not equal
pub apart-same : (l : List (List ℕ)) → apart clash l ≡ true → apart same l ≡ true
apart-same [] h = refl
apart-same (x ∷ l) h =
    and_of (all (λ y. not (same x y)) l) (apart same l)
    (all_of (λ y. not (same x y)) l (λ y m. not_of (same x y) (λ e. of_not (clash x y) (all_true (λ y. not (clash x y)) l (and_left (fresh x l) (apart clash l) h) y m) (same-clash x y e))))
    (apart-same l (and_right (fresh x l) (apart clash l) h))

-- two lists, each apart, that do not clash
module _ (name : ℕ → List ℕ) where
  fresh-append : (x : List ℕ) (xs ys : List ℕ) → fresh x (map name xs) ≡ true → fresh x (map name ys) ≡ true → fresh x (map name (xs ++ ys)) ≡ true
  fresh-append x [] ys h k = k
  fresh-append x (y ∷ xs) ys h k =
      and_of (not (clash x (name y))) (fresh x (map name (xs ++ ys))) (and_left (not (clash x (name y))) (fresh x (map name xs)) h)
      (fresh-append x xs ys (and_right (not (clash x (name y))) (fresh x (map name xs)) h) k)

  pub apart-append : (xs ys : List ℕ) → apart clash (map name xs) ≡ true → apart clash (map name ys) ≡ true → no_clash (map name xs) (map name ys) ≡ true
      → apart clash (map name (xs ++ ys)) ≡ true
  apart-append [] ys h k c = k
  apart-append (x ∷ xs) ys h k c =
      let own : Bool = fresh (name x) (map name xs) in
      let others : Bool = fresh (name x) (map name ys) in
      and_of (fresh (name x) (map name (xs ++ ys))) (apart clash (map name (xs ++ ys)))
      (fresh-append (name x) xs ys (and_left own (apart clash (map name xs)) h) (and_left others (no_clash (map name xs) (map name ys)) c))
      (apart-append xs ys (and_right own (apart clash (map name xs)) h) k (and_right others (no_clash (map name xs) (map name ys)) c))
