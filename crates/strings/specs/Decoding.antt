-- Serves contracts: what a string means, decoded into lent bytes.
use Rattle.std.specs.Prelude.{ℕ, ◌≤◌, ◌≡◌, List, length, take}
use Rattle.grammar.specs.Serving.Machine.{Dialect}
use Rattle.std.specs.Prelude.{Option, Some, None}
use Rattle.strings.specs.Bytes.{Bytes}
use Rattle.strings.specs.Strings.{Means}

-- these code points are no bytes, or more than `room` of them
pub record NoBytes (room : ℕ) (cs : List ℕ) : Type 0 where
  pub other : (x : List ℕ) → Bytes x → length x ≤ room → x ≡ cs → ⊥

abbrev pub DecodedAs : List ℕ → List ℕ → Option ℕ → Type 0
DecodedAs cs bytes (Some n) = cs ≡ take n bytes
DecodedAs cs bytes None = NoBytes (length bytes) cs

abbrev pub decoded_size : Option ℕ → ℕ
decoded_size (Some n) = n
decoded_size None = 0

-- the string from place a on, decoded into the bytes
pub record Decodes (D : Dialect) (s : List ℕ) (a : ℕ) (bytes : List ℕ) (r : Option ℕ) : Type 0 where
  pub fits : decoded_size r ≤ length bytes
  pub told : (e : ℕ) (cs : List ℕ) → Means D s a e cs → DecodedAs cs bytes r
