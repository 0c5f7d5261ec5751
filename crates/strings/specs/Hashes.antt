-- Serves contracts: the hash of what a string means, by which equal strings find each other, and what the parts of its reckoning find.
use Rattle.std.specs.Prelude.{ℕ, ◌+◌, ◌*◌, ◌%◌, ◌≡◌, Bool, List, [], ◌∷◌}
use Rattle.grammar.specs.Serving.Machine.{Dialect}
use Rattle.strings.specs.Strings.{Means}
use Rattle.strings.specs.Meanings.{Told}

-- a hash with one more code point; it stays below 2 ^ 32
abbrev pub hash_more : ℕ → ℕ → ℕ
hash_more m c = m % 0x4000000 * 61 + c % 0x200000

abbrev pub hash_from : ℕ → List ℕ → ℕ
hash_from m [] = m
hash_from m (c ∷ cs) = hash_from (hash_more m c) cs

-- the hash of a list of code points
unfoldable pub hash_of : List ℕ → ℕ
hash_of cs = hash_from 0 cs

-- the hash of a string's code points
pub record CodesHash (D : Dialect) (s : List ℕ) (a r : ℕ) : Type 0 where
  pub told : (e : ℕ) (cs : List ℕ) → Means D s a e cs → r ≡ hash_of cs

-- the hash of what the string from place a to e means
pub record MeansHash (D : Dialect) (s : List ℕ) (a e : ℕ) (plain : Bool) (r : ℕ) : Type 0 where
  pub told : (cs : List ℕ) → Means D s a e cs → Told plain s a e → r ≡ hash_of cs
