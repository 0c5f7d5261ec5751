-- The first key that repeats one before it in the same object, for every tree that the nodes hold.
use Rattle.std.specs.Prelude.{ℕ, ◌≡◌, List, Option, Some, None}
use Rattle.std.proofs.Math.Option as Math
use Rattle.grammar.specs.Tree.{Items}
use Rattle.grammar.specs.Serving.Machine.{Dialect}
use Rattle.grammar.specs.Serving.Repeats.{first_repeat_i}
use Rattle.text.specs.Nodes.{HoldsItems}

abbrev pub place_of : Option ℕ → Math.Option ℕ
place_of None = Math.none
place_of (Some p) = Math.some p

-- where it stands, in what the nodes below n hold
pub record FirstRepeat (D : Dialect) (s w : List ℕ) (n : ℕ) (r : Option ℕ) : Type 0 where
  pub told : (js : Items) (l : ℕ) → HoldsItems D s w js l 0 n → place_of r ≡ first_repeat_i js
