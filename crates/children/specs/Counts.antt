-- Serves contracts: how many members of a list are mandatory.
use Rattle.std.specs.Prelude.{ℕ, suc, cond, List, [], ◌∷◌, eqb}
use Rattle.rules.specs.Rows.{optional}

-- how many of the members ms are mandatory
unfoldable pub mandatory_in : List ℕ → List ℕ → ℕ
mandatory_in T [] = 0
mandatory_in T (m ∷ ms) = cond (eqb (optional T m) 0) (suc (mandatory_in T ms)) (mandatory_in T ms)
