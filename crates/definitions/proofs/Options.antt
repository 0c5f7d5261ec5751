-- Laws of values that may be absent.
use mathlib.Core.Path.{◌≡◌, refl, sym}
use mathlib.Core.Option.{Option, none, some}
use Rattle.grammar.specs.Tree.{Json}
use Rattle.grammar.proofs.Booleans.{none-not-some, some_is}
use Rattle.rules.specs.Definitions.{must}
use Rattle.rules.specs.Values.{◌>>=◌}

module _ {A B : Type 0} (g : A → B) where
  -- some value came of a value
  pub came_of : (x : Option A) {y : B} → (x >>= λ a. some (g a)) ≡ some y → (a : A) × (x ≡ some a) × (y ≡ g a)
  came_of none e = none-not-some e
  came_of (some a) e = (a, refl, sym (some_is e))

  -- none came of none
  pub none_of : (x : Option A) → (x >>= λ a. some (g a)) ≡ none → x ≡ none
  none_of none e = refl
  none_of (some a) e = none-not-some (sym e)

  pub then : {C : Type 0} (h : B → Option C) (x : Option A) → ((x >>= λ a. some (g a)) >>= h) ≡ (x >>= λ a. h (g a))
  then h none = refl
  then h (some a) = refl

  pub must-then : (shape : Json → Option A) (o : Option Json) → must (λ j. shape j >>= λ a. some (g a)) o ≡ (must shape o >>= λ a. some (g a))
  must-then shape none = refl
  must-then shape (some j) = refl

pub never : {A B : Type 0} (x : Option A) → ◌≡◌ {A = Option B} (x >>= λ a. none) none
never none = refl
never (some a) = refl

pub both-there : {A B C : Type 0} (f : A → B → C) {x : Option A} {y : Option B} {a : A} {b : B} → x ≡ some a → y ≡ some b → (x >>= λ i. y >>= λ j. some (f i j)) ≡ some (f a b)
both-there f e g = rw (e, g)
