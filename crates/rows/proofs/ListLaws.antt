-- Laws of tests and of `all` and `any` of lists: images, appended lists, tests that agree.
-- By induction on the list; a test that decides is taken by its two values.
use Prim.Native.Nat.{ℕ}
use mathlib.Core.Path.{◌≡◌, refl, sym, ap, ◌∙◌}
use mathlib.Core.Bool.{Bool, true, false, ◌&&◌, ◌||◌, and-false, and_assoc, or_assoc}
use mathlib.Core.List.{List, [], ◌∷◌, ◌++◌, map, map-append}
use mathlib.Core.Option.{Option, none, some}
use lib.Dec.{eqb}
use borrow.Author.Tests.{eqb-true, eqb-false, eq-eqb, ne_eqb}
use Rattle.grammar.specs.Notation.{all, same}
use Rattle.rules.specs.Rules.{any, is}

module _ {A : Type 0} (f : A → Bool) where
  pub all_append : (l k : List A) → all f (l ++ k) ≡ all f l && all f k
  all_append [] k = refl
  all_append (x ∷ l) k = ap (λ (t : Bool). f x && t) (all_append l k) ∙ sym (and_assoc (f x) (all f l) (all f k))

  pub any_append : (l k : List A) → any f (l ++ k) ≡ any f l || any f k
  any_append [] k = refl
  any_append (x ∷ l) k = ap (λ (t : Bool). f x || t) (any_append l k) ∙ sym (or_assoc (f x) (any f l) (any f k))

-- images
module _ {A B : Type 0} (f : A → B) (g : B → Bool) where
  pub all_map : (l : List A) → all g (map f l) ≡ all (λ x. g (f x)) l
  all_map [] = refl
  all_map (x ∷ l) = ap (λ (t : Bool). g (f x) && t) (all_map l)

  pub any-map : (l : List A) → any g (map f l) ≡ any (λ x. g (f x)) l
  any-map [] = refl
  any-map (x ∷ l) = ap (λ (t : Bool). g (f x) || t) (any-map l)

  pub all-map-append : (l k : List A) → all g (map f (l ++ k)) ≡ all g (map f l) && all g (map f k)
  all-map-append l k = ap (all g) (map-append f l k) ∙ all_append g (map f l) (map f k)

-- tests that agree
pub all_same : {A : Type 0} (f g : A → Bool) (l : List A) → ((x : A) → f x ≡ g x) → all f l ≡ all g l
all_same f g [] h = refl
all_same f g (x ∷ l) h = rw (h x, all_same f g l h)

pub any_same : {A : Type 0} (f g : A → Bool) (l : List A) → ((x : A) → f x ≡ g x) → any f l ≡ any g l
any_same f g [] h = refl
any_same f g (x ∷ l) h = rw (h x, any_same f g l h)

pub all_true : {A : Type 0} (f : A → Bool) (l : List A) → ((x : A) → f x ≡ true) → all f l ≡ true
all_true f [] h = refl
all_true f (x ∷ l) h = rw (h x) (all_true f l h)

pub any_none : {A : Type 0} (f : A → Bool) (l : List A) → ((x : A) → f x ≡ false) → any f l ≡ false
any_none f [] h = refl
any_none f (x ∷ l) h = rw (h x) (any_none f l h)

-- two tests of each element
pub all_both : {A : Type 0} (f g : A → Bool) (l : List A) → all (λ x. f x && g x) l ≡ all f l && all g l
all_both f g [] = refl
all_both f g (x ∷ l) = go (f x) (g x) (all_both f g l)
  where
    go : (s t : Bool) → all (λ x. f x && g x) l ≡ all f l && all g l → (s && t) && all (λ x. f x && g x) l ≡ (s && all f l) && (t && all g l)
    go true true h = h
    go true false h = sym (and-false (all f l))
    go false t h = refl

pub eqb-sym : (a b : ℕ) → eqb a b ≡ eqb b a
eqb-sym a b = go (eqb a b) refl
  where
    go : (t : Bool) → eqb a b ≡ t → t ≡ eqb b a
    go true e = sym (eq-eqb b a (sym (eqb-true a b e)))
    go false e = sym (ne_eqb b a (λ p. eqb-false a b e (sym p)))

pub same-sym : (x y : List ℕ) → same x y ≡ same y x
same-sym [] [] = refl
same-sym [] (b ∷ y) = refl
same-sym (a ∷ x) [] = refl
same-sym (a ∷ x) (b ∷ y) = rw (eqb-sym a b, same-sym x y)

-- that there is a value, and then a test that asks the same of it
pub is_guard : {A : Type 0} (o : Option A) (f : A → Bool) (b : Bool) → ((a : A) → o ≡ some a → b ≡ f a) → is o (λ _. true) && b ≡ is o f
is_guard none f b h = refl
is_guard (some a) f b h = h a refl
