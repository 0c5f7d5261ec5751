-- Serves contracts and proofs: texts that stand one after another, told apart by the places where they begin and where the last ends.
use Rattle.std.specs.Prelude.{ℕ, ◌+◌, List, [], ◌∷◌, ◌++◌, length}

abbrev pub joined_texts : List (List ℕ) → List ℕ
joined_texts [] = []
joined_texts (t ∷ ts) = t ++ joined_texts ts

abbrev pub bounds_from : ℕ → List (List ℕ) → List ℕ
bounds_from a [] = a ∷ []
bounds_from a (t ∷ ts) = a ∷ bounds_from (a + length t) ts
