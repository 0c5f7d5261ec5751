-- Reference, Order of refusals: of those that apply, the first in the order in which they are judged is given.
use Rattle.std.specs.Prelude.{◌≡◌, ◌⊎◌, List, [], ◌∷◌}

-- x is the first of the list that has the property
abbrev pub FirstOf : {A : Type 0} → (A → Type 0) → List A → A → Type 0
FirstOf P [] x = ⊥
FirstOf P (y ∷ ys) x = ((y ≡ x) × P x) ⊎ ((P y → ⊥) × FirstOf P ys x)
