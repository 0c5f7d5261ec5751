-- Laws of tests and lists, each once: `◌&&◌`, `◌||◌`, `same`, `all`, `any`, `any_of`, `up_from`, `map`, `apart` and `value_at` said of members.
-- Each goes by the list; where a test decides, a helper cases on its value and keeps the equation.
use Prim.Native.Nat.{ℕ, zero, suc, ◌+◌, ◌≤◌, ◌<◌}
use mathlib.Core.Path.{◌≡◌, refl, sym, ap, ◌∙◌, subst}
use mathlib.Core.Bool.{Bool, true, false, not, cond, ◌&&◌, ◌||◌}
use mathlib.Core.Logic.{◌↔◌, ◌⊎◌, inl, inr, ⊎_elim}
use mathlib.Core.List.Memᴰ
use mathlib.Core.List.{List, [], ◌∷◌, map, Memᴰ}
use mathlib.Core.Option.{Option, none, some}
use native.Mathlib.Nat.{eq-or-lt_of_le}
use native.Mathlib.Decide.{dec_lt}
use native.Mathlib.Omega.{arith}
pub use Rattle.grammar.proofs.Booleans.{clash, none-not-some}
pub use Rattle.grammar.proofs.Lists.{same_true, same_refl, same-is, all_true, all_of}
use Rattle.grammar.specs.Notation.{same, all, apart}
use Rattle.grammar.specs.Tree.{Json, Fields}
use Rattle.grammar.specs.Tree.Fields.{no_fields, field}
use Rattle.grammar.specs.Keys.{keys_of}
use Rattle.rules.specs.Values.{value_at, any_of}
use Rattle.rules.specs.Rows.{up_from}
use Rattle.rules.specs.Rules.{any, those, is}

-- numbers
pub not-less : {a b : ℕ} → (a < b → ⊥) → b ≤ a
not-less {a} {b} h = elim (dec_lt a b) [ yes y ↦ absurd (h y) | no n ↦ omega arith ]

-- tests
pub and_left : (a b : Bool) → a && b ≡ true → a ≡ true
and_left true b e = refl
and_left false b e = e

pub and_right : (a b : Bool) → a && b ≡ true → b ≡ true
and_right true b e = e
and_right false b e = absurd (clash e refl)

pub and_of : (a b : Bool) → a ≡ true → b ≡ true → a && b ≡ true
and_of a b p q = rw (p, q)

pub or_cases : (a b : Bool) → a || b ≡ true → (a ≡ true) ⊎ (b ≡ true)
or_cases true b e = inl refl
or_cases false b e = inr e

pub or_left : (a b : Bool) → a ≡ true → a || b ≡ true
or_left a b p = rw p

pub or_right : (a b : Bool) → b ≡ true → a || b ≡ true
or_right true b p = refl
or_right false b p = p

pub or_implies : (a b : Bool) → not a || b ≡ true → a ≡ true → b ≡ true
or_implies true b h e = h
or_implies false b h e = absurd (clash e refl)

pub not_of : (b : Bool) → (b ≡ true → ⊥) → not b ≡ true
not_of true h = absurd (h refl)
not_of false h = refl

pub of_not : (b : Bool) → not b ≡ true → b ≡ true → ⊥
of_not true h k = clash k (sym h)
of_not false h k = clash k refl

-- some element, those elements
module _ {A : Type 0} (f : A → Bool) where
  pub any-true : (l : List A) → any f l ≡ true → (x : A) × Memᴰ x l × (f x ≡ true)
  any-true [] h = absurd (clash h refl)
  any-true (y ∷ l) h =
      ⊎_elim (λ e. (y, Memᴰ.head refl, e)) (λ e. let r = any-true l e in (r.0, Memᴰ.tail r.1, r.2)) (or_cases (f y) (any f l) h)

  pub any_of_lem : (l : List A) (x : A) → Memᴰ x l → f x ≡ true → any f l ≡ true
  any_of_lem [] x m e = elim m [ ]
  any_of_lem (y ∷ l) x m e =
      ⊎_elim (λ (p : x ≡ y). or_left (f y) (any f l) (rw (← p) e)) (λ p. or_right (f y) (any f l) (any_of_lem l x p e)) (Memᴰ.cases_cons m)

  pub in_those : (l : List A) (x : A) → Memᴰ x l → f x ≡ true → Memᴰ x (those f l)
  in_those [] x m e = elim m [ ]
  in_those (y ∷ l) x m e = go (f y) refl (Memᴰ.cases_cons m) (λ p. in_those l x p e)
    where
      go : (b : Bool) → f y ≡ b → (x ≡ y) ⊎ Memᴰ x l → (Memᴰ x l → Memᴰ x (those f l)) → Memᴰ x (cond b (y ∷ those f l) (those f l))
      go true q (inl d) r = Memᴰ.head d
      go true q (inr p) r = Memᴰ.tail (r p)
      go false q (inl d) r = absurd (clash e (rw d q))
      go false q (inr p) r = r p

-- there is a value, and it has the property
pub is_true : {A : Type 0} (o : Option A) (f : A → Bool) → is o f ≡ true → (a : A) × (o ≡ some a) × (f a ≡ true)
is_true none f h = absurd (clash h refl)
is_true (some a) f h = (a, refl, h)

pub is_at : {A : Type 0} (o : Option A) (f : A → Bool) (a : A) → is o f ≡ true → o ≡ some a → f a ≡ true
is_at o f a h e = subst (λ x. is x f ≡ true) e h

pub any_of-true : (l : List (List ℕ)) (k : List ℕ) → any_of l k ≡ true → Memᴰ k l
any_of-true [] k h = absurd (clash h refl)
any_of-true (x ∷ l) k h = ⊎_elim (λ e. Memᴰ.head (same_true k x e)) (λ e. Memᴰ.tail (any_of-true l k e)) (or_cases (same k x) (any_of l k) h)

pub any_of_of : (l : List (List ℕ)) (k : List ℕ) → Memᴰ k l → any_of l k ≡ true
any_of_of [] k m = elim m [ ]
any_of_of (x ∷ l) k m =
    ⊎_elim (λ e. or_left (same k x) (any_of l k) (same-is k x e)) (λ p. or_right (same k x) (any_of l k) (any_of_of l k p)) (Memᴰ.cases_cons m)

-- the numbers from a on
pub up_from_bounds : (n a x : ℕ) → Memᴰ x (up_from a n) → (a ≤ x) × (x < a + n)
up_from_bounds zero a x m = elim m [ ]
up_from_bounds (suc n) a x m =
    ⊎_elim (λ (e : x ≡ a). (omega arith, omega arith)) (λ p. let r = up_from_bounds n (suc a) x p in (omega arith, omega arith)) (Memᴰ.cases_cons m)

pub in_up_from : (n a x : ℕ) → a ≤ x → x < a + n → Memᴰ x (up_from a n)
in_up_from zero a x h k = absurd (omega arith)
in_up_from (suc n) a x h k =
    ⊎_elim (λ (e : a ≡ x). Memᴰ.head (sym e)) (λ (p : a < x). Memᴰ.tail (in_up_from n (suc a) x p (omega arith))) (eq-or-lt_of_le h)

-- the images of members
module _ {A B : Type 0} (f : A → B) where
  pub in_map : (l : List A) (x : A) → Memᴰ x l → Memᴰ (f x) (map f l)
  in_map [] x m = elim m [ ]
  in_map (y ∷ l) x m = ⊎_elim (λ e. Memᴰ.head (ap f e)) (λ p. Memᴰ.tail (in_map l x p)) (Memᴰ.cases_cons m)

  pub of_map : (l : List A) (y : B) → Memᴰ y (map f l) → (x : A) × Memᴰ x l × (y ≡ f x)
  of_map [] y m = elim m [ ]
  of_map (x ∷ l) y m =
      ⊎_elim (λ e. (x, Memᴰ.head refl, e)) (λ p. let r = of_map l y p in (r.0, Memᴰ.tail r.1, r.2)) (Memᴰ.cases_cons m)

-- x is related to no element of l
abbrev fresh : {A : Type 0} → (A → A → Bool) → A → List A → Bool
fresh g x l = all (λ y. not (g x y)) l

-- of two members whose images are related, both ways, there is one only
pub apart-only : {A B : Type 0} (f : A → B) (g : B → B → Bool) (l : List A) → apart g (map f l) ≡ true
    → (x y : A) → Memᴰ x l → Memᴰ y l → g (f x) (f y) ≡ true → g (f y) (f x) ≡ true → x ≡ y
apart-only f g [] h x y p q u v = elim p [ ]
apart-only {A} f g (z ∷ l) h x y p q u v =
    go (Memᴰ.cases_cons p) (Memᴰ.cases_cons q)
    (λ p' q'. apart-only f g l (and_right (fresh g (f z) (map f l)) (apart g (map f l)) h) x y p' q' u v)
  where
    clear : (w : A) → Memᴰ w l → g (f z) (f w) ≡ true → ⊥
    clear w m =
        of_not (g (f z) (f w))
        (all_true (λ b. not (g (f z) b)) (map f l) (and_left (fresh g (f z) (map f l)) (apart g (map f l)) h) (f w) (in_map f l w m))

    go : (x ≡ z) ⊎ Memᴰ x l → (y ≡ z) ⊎ Memᴰ y l → (Memᴰ x l → Memᴰ y l → x ≡ y) → x ≡ y
    go (inl d) (inl e) r = d ∙ sym e
    go (inl d) (inr e) r = absurd (clear y e (rw (← d) u))
    go (inr d) (inl e) r = absurd (clear x d (rw (← e) v))
    go (inr d) (inr e) r = r d e

module _ (name : ℕ → List ℕ) where
  pub apart_injective : (ms : List ℕ) → apart same (map name ms) ≡ true → (m m' : ℕ) → Memᴰ m ms → Memᴰ m' ms → name m ≡ name m' → m ≡ m'
  apart_injective ms h m m' p q e = apart-only name same ms h m m' p q (same-is (name m) (name m') e) (same-is (name m') (name m) (sym e))

-- a key is there where it has a value
pub key-there : (fs : Fields) (k : List ℕ) → (any_of (keys_of fs) k ≡ true) ↔ ((j : Json) × (value_at k fs ≡ some j))
key-there no_fields k = (λ h. absurd (clash h refl), λ r. absurd (none-not-some r.1))
key-there (field a e key j fs) k = go (same key k) refl (key-there fs k)
  where
    later : same key k ≡ false → same k key || any_of (keys_of fs) k ≡ true → any_of (keys_of fs) k ≡ true
    later q h = ⊎_elim (λ e. absurd (clash (same-is key k (sym (same_true k key e))) q)) (λ e. e) (or_cases (same k key) (any_of (keys_of fs) k) h)

    go : (b : Bool) → same key k ≡ b → (any_of (keys_of fs) k ≡ true) ↔ ((i : Json) × (value_at k fs ≡ some i))
        → (same k key || any_of (keys_of fs) k ≡ true) ↔ ((i : Json) × (cond b (some j) (value_at k fs) ≡ some i))
    go true q r = (λ _. (j, refl), λ _. or_left (same k key) (any_of (keys_of fs) k) (same-is k key (sym (same_true key k q))))
    go false q r = (λ h. r.0 (later q h), λ i. or_right (same k key) (any_of (keys_of fs) k) (r.1 i))
