-- The first element of a list that passes a test is the first that has what the test decides.
use Prim.Native.Nat.{ℕ, zero, suc}
use native.Mathlib.Omega.{arith}
use mathlib.Core.Path.{◌≡◌, refl, sym, ap, ◌∙◌, subst}
use mathlib.Core.Bool.{Bool, true, false, cond}
use mathlib.Core.Logic.{inl, inr, ⊎_elim}
use mathlib.Core.List.Memᴰ
use mathlib.Core.List.{List, [], ◌∷◌, Memᴰ}
use mathlib.Core.Option.{none, some}
use lib.ListN.{drop, get_elem?}
use Rattle.rules.specs.Refusals.{FirstOf}
use Rattle.rules.specs.Serving.Answers.{first}
use Rattle.rules.proofs.Lists.{clash, none-not-some}

-- a test that is not true is false
pub decided : (b : Bool) → (b ≡ true → ⊥) → b ≡ false
decided true h = absurd (h refl)
decided false h = refl

-- an element by its place: it is in the list, and the list from its place on begins with it
pub nth : {A : Type 0} (l : List A) (i : ℕ) (x : A) → get_elem? l i ≡ some x → Memᴰ x l
nth [] i x e = let z : ◌≡◌ {A = ℕ} 0 1 = cc in absurd (omega arith)
nth (y ∷ l) zero x e = Memᴰ.head (let z : x ≡ y = cc in z)
nth (y ∷ l) (suc i) x e = Memᴰ.tail (nth l i x e)

pub drop_nth : {A : Type 0} (l : List A) (i : ℕ) (x : A) → get_elem? l i ≡ some x → drop i l ≡ x ∷ drop (suc i) l
drop_nth [] i x e = let z : ◌≡◌ {A = ℕ} 0 1 = cc in absurd (omega arith)
drop_nth (y ∷ l) zero x e = let z : y ≡ x = cc in rw z
drop_nth (y ∷ l) (suc i) x e = drop_nth l i x e

module _ {A : Type 0} (f : A → Bool) where
  pub first-none : (l : List A) → first f l ≡ none → (y : A) → Memᴰ y l → f y ≡ false
  first-none [] e y m = absurd (Memᴰ.not-nil m)
  first-none (z ∷ l) e y m = go (f z) refl e (first-none l)
    where
      go : (b : Bool) → f z ≡ b → cond b (some z) (first f l) ≡ none → (first f l ≡ none → (y : A) → Memᴰ y l → f y ≡ false) → f y ≡ false
      go true t h r = let w : ◌≡◌ {A = ℕ} 0 1 = cc in absurd (omega arith)
      go false t h r = ⊎_elim (λ (q : y ≡ z). let w : f y ≡ f z = cc in w ∙ t) (λ n. r h y n) (Memᴰ.cases_cons m)

  pub none_first : (l : List A) → ((y : A) → Memᴰ y l → f y ≡ false) → first f l ≡ none
  none_first [] h = refl
  none_first (z ∷ l) h = rw (h z (Memᴰ.head refl)) (none_first l (λ y m. h y (Memᴰ.tail m)))

  -- of a property that the test decides
  module _ (P : A → Type 0) (to : (x : A) → f x ≡ true → P x) (from : (x : A) → P x → f x ≡ true) where
    pub first_of : (l : List A) {x : A} → first f l ≡ some x → FirstOf P l x
    first_of [] e = absurd (none-not-some e)
    first_of (y ∷ l) {x} e = go (f y) refl e (first_of l)
      where
        go : (b : Bool) → f y ≡ b → cond b (some y) (first f l) ≡ some x → (first f l ≡ some x → FirstOf P l x) → FirstOf P (y ∷ l) x
        go true t h r = let z : y ≡ x = cc in inl (z, subst P z (to y t))
        go false t h r = inr ((λ p. clash (from y p) t), r h)

    pub of_first : (l : List A) {x : A} → FirstOf P l x → first f l ≡ some x
    of_first [] h = absurd h
    of_first (y ∷ l) h =
        ⊎_elim (λ p. rw (from y (subst P (sym p.0) p.1)) (ap some p.0)) (λ q. rw (decided (f y) (λ t. q.0 (to y t))) (of_first l q.1)) h
