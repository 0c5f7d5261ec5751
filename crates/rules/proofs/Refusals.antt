-- The first of a list that has a property has it, and is the only first one.
use mathlib.Core.Path.{◌≡◌, sym, ◌∙◌, subst}
use mathlib.Core.Logic.{⊎_elim}
use mathlib.Core.List.{List, [], ◌∷◌}
use Rattle.rules.specs.Refusals.{FirstOf}

module _ {A : Type 0} (P : A → Type 0) where
  pub first-has : (xs : List A) {x : A} → FirstOf P xs x → P x
  first-has [] h = absurd h
  first-has (y ∷ ys) h = ⊎_elim (λ p. p.1) (λ q. first-has ys q.1) h

  pub first-only : (xs : List A) {x y : A} → FirstOf P xs x → FirstOf P xs y → x ≡ y
  first-only [] h g = absurd h
  first-only (z ∷ zs) h g =
      ⊎_elim (λ p. ⊎_elim (λ q. sym p.0 ∙ q.0) (λ q. absurd (q.0 (subst P (sym p.0) p.1))) g)
      (λ p. ⊎_elim (λ q. absurd (p.0 (subst P (sym q.0) q.1))) (λ q. first-only zs p.1 q.1) g) h
