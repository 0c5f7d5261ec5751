-- Serves contracts: parts of texts compared.
use Rattle.std.specs.Prelude.{ℕ, ◌<◌, Bool, List, get_or, take, drop}
use Rattle.grammar.specs.Notation.{same}

-- every element is a byte
abbrev pub Bytes : List ℕ → Type 0
Bytes s = (x : ℕ) → get_or s x 0 < 256

-- whether n bytes of s from place i on are those of t from place j on
unfoldable pub same_parts : List ℕ → ℕ → List ℕ → ℕ → ℕ → Bool
same_parts s i t j n = same (take n (drop i s)) (take n (drop j t))
