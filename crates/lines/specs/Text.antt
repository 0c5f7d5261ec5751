-- Reference, Program: numbers as text, the shortest decimal digits, and lines of numbers split by single spaces.
use Rattle.std.specs.Prelude.{ℕ, zero, suc, ◌+◌, ◌/◌, ◌%◌, true, false, List, [], ◌∷◌, ◌++◌, ltb}
use Prim.Native.Char.{code}

-- the digits of a number, in at most so many steps: one digit, or those of a tenth and the last
abbrev pub digits_in : ℕ → ℕ → List ℕ
digits_in zero n = []
digits_in (suc steps) n = elim (ltb n 10) [ true ↦ (code "0" + n) ∷ [] | false ↦ digits_in steps (n / 10) ++ ((code "0" + n % 10) ∷ []) ]

unfoldable pub decimal_text : ℕ → List ℕ
decimal_text n = digits_in (suc n) n

-- each number after a space
unfoldable pub spaced_text : List ℕ → List ℕ
spaced_text [] = []
spaced_text (n ∷ ns) = code " " ∷ (decimal_text n ++ spaced_text ns)

-- numbers with a space between each two, and a line of them
unfoldable pub numbers_text : ℕ → List ℕ → List ℕ
numbers_text n ns = decimal_text n ++ spaced_text ns

unfoldable pub line_text : ℕ → List ℕ → List ℕ
line_text n ns = numbers_text n ns ++ (code "\n" ∷ [])
