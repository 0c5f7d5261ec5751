-- Notation that the definitions share: quoted text, tests on numbers and on lists of bytes, words in items of a width. No rule of the reference stands here.
use Rattle.std.specs.Prelude.{ℕ, ◌+◌, ◌*◌, Bool, true, false, not, ◌&&◌, List, [], ◌∷◌, leb, eqb, get_or}
use Prim.Native.String.{String}
use Prim.Native.String as Quoted
use Prim.Native.Char.{code}

-- the bytes of a quoted text (all of them ASCII here)
abbrev pub text : String → List ℕ
text Quoted.[] = []
text (Quoted.◌∷◌ c s) = code c ∷ text s

-- a number from `low` to `high`
abbrev pub within : ℕ → ℕ → ℕ → Bool
within low high b = leb low b && leb b high

-- a digit, 0 to 9
abbrev pub digit : ℕ → Bool
digit b = within (code "0") (code "9") b

-- two lists of bytes or code points are equal
abbrev pub same : List ℕ → List ℕ → Bool
same [] [] = true
same [] (y ∷ ys) = false
same (x ∷ xs) [] = false
same (x ∷ xs) (y ∷ ys) = eqb x y && same xs ys

-- `f` holds of every element
abbrev pub all : {A : Type 0} → (A → Bool) → List A → Bool
all f [] = true
all f (x ∷ xs) = f x && all f xs

-- no two elements are related by `f`
abbrev pub apart : {A : Type 0} → (A → A → Bool) → List A → Bool
apart f [] = true
apart f (x ∷ xs) = all (λ y. not (f x y)) xs && apart f xs

-- word i of item k, in items of `width` words, both counted from 0; 0 past the end
abbrev pub word_of : ℕ → List ℕ → ℕ → ℕ → ℕ
word_of width w k i = get_or w (width * k + i) 0
