-- Serves contracts: hashes of names, and a name that clashes with none of some rows.
use Rattle.std.specs.Prelude.{ℕ, ◌+◌, ◌-◌, ◌*◌, ◌%◌, ◌<◌, ◌≡◌, Bool, true, not, List, length, get_or}
use Rattle.grammar.specs.Notation.{all}
use Rattle.rules.specs.Names.{c_name, clash}
use Rattle.rules.specs.Rows.{name_of}
use Rattle.rules.specs.Rules.{names_of}

-- the byte that stands k bytes before the end of a list, or the first
abbrev pub back : List ℕ → ℕ → ℕ
back x k = get_or x (length x - k) 0

-- a number of the length and the first byte, and of the last three bytes
abbrev pub ends : List ℕ → ℕ
ends x = (length x + back x (length x)) % 256 + 37 * (back x 1 + 37 * (back x 2 + 37 * back x 3))

-- of a name, the number of what it becomes in C: names that clash share it
unfoldable pub hash_of : List ℕ → ℕ
hash_of x = ends (c_name x)

-- the words hold the hashes of the first rows
pub record Hashes (S T hashes : List ℕ) : Type 0 where
  pub told : (r : ℕ) → r < length hashes → get_or hashes r 0 ≡ hash_of (name_of S T r)

-- b tells of row r that its hash is there, and another than the one given
pub record Other (hashes : List ℕ) (r hash : ℕ) (b : Bool) : Type 0 where
  pub told : b ≡ true → (r < length hashes) × (get_or hashes r 0 ≡ hash → ⊥)

-- a name clashes with none of the rows rs
abbrev pub fresh_in : List ℕ → List ℕ → List ℕ → List ℕ → Bool
fresh_in S T x rs = all (λ y. not (clash x y)) (names_of S T rs)
