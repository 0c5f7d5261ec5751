-- Serves contracts: whether strings mean the same, and what the parts of that comparison find.
use Rattle.std.specs.Prelude.{ℕ, ◌+◌, ◌-◌, ◌≡◌, Bool, true, ◌&&◌, List, length, take, drop, leb}
use Rattle.grammar.specs.Notation.{same}
use Rattle.grammar.specs.Serving.Machine.{Dialect}
use Rattle.strings.specs.Strings.{plain_string, Means}

-- a string can stand from place a to e: its two quotes, and all of it in the text
abbrev pub can_stand : List ℕ → ℕ → ℕ → Bool
can_stand s a e = leb e (length s) && leb 2 (e - a)

-- the bytes of the string from place a to e, its quotes left out
abbrev pub inside : List ℕ → ℕ → ℕ → List ℕ
inside s a e = take (e - a - 2) (drop (a + 1) s)

-- the code points of a string are those of a name, or of another string
pub record CodesMean (D : Dialect) (s : List ℕ) (a : ℕ) (name : List ℕ) (r : Bool) : Type 0 where
  pub told : (e : ℕ) (cs : List ℕ) → Means D s a e cs → r ≡ same cs name

pub record CodesSame (D : Dialect) (s : List ℕ) (a b : ℕ) (r : Bool) : Type 0 where
  pub told : (e f : ℕ) (cs ds : List ℕ) → Means D s a e cs → Means D s b f ds → r ≡ same cs ds

-- who says that a string is plain must be right
abbrev pub Told : Bool → List ℕ → ℕ → ℕ → Type 0
Told plain s a e = plain ≡ true → plain_string s a e ≡ true

-- the string from place a to e means the bytes of a name
pub record MeansName (D : Dialect) (s : List ℕ) (a e : ℕ) (plain : Bool) (name : List ℕ) (r : Bool) : Type 0 where
  pub told : (cs : List ℕ) → Means D s a e cs → Told plain s a e → r ≡ same cs name

-- the strings from place a to e and from b to f mean the same
pub record MeansSame (D : Dialect) (s : List ℕ) (a e : ℕ) (plain_a : Bool) (b f : ℕ) (plain_b : Bool) (r : Bool) : Type 0 where
  pub told : (cs ds : List ℕ) → Means D s a e cs → Means D s b f ds → Told plain_a s a e → Told plain_b s b f → r ≡ same cs ds
