-- Reference, Integers: the exact value of an integer token, as a sign and the number that its digits mean.
use Rattle.std.specs.Prelude.{ℕ, ◌+◌, ◌-◌, ◌*◌, Bool, false, cond, List, [], ◌∷◌, eqb}
use Prim.Native.Char.{code}

abbrev pub negative : List ℕ → Bool
negative [] = false
negative (b ∷ bs) = eqb b (code "-")

abbrev pub unsigned_part : List ℕ → List ℕ
unsigned_part [] = []
unsigned_part (b ∷ bs) = cond (eqb b (code "-")) bs (b ∷ bs)

-- the digits after some whose value is n
abbrev pub decimal : ℕ → List ℕ → ℕ
decimal n [] = n
decimal n (b ∷ bs) = decimal (n * 10 + (b - code "0")) bs
