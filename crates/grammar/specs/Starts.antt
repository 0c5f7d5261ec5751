-- Reference, Longest starts: where a text that is not valid goes wrong, and whether for lack of levels alone. For schemas both are number 2.
use Prim.Native.{Nat.ℕ, Nat.suc, Nat.◌≤◌, Nat.◌<◌, Char.code}
use mathlib.Core.{Path.◌≡◌, Logic.◌⊎◌, List.List, List.[], List.◌++◌}
use Rattle.std.specs.Prelude.{length, take, get_or}
use Rattle.grammar.specs.{Tree.Json, Tree.Items, Lexis.Lexis, Grammar.Value, Grammar.Text}

-- an opening bracket
abbrev pub Opening : ℕ → Type 0
Opening b = (b ≡ code "[") ⊎ (b ≡ code "{")

module _ (G : Lexis) where
  -- a valid text of at most lim levels
  abbrev pub Valid : ℕ → List ℕ → Type 0
  Valid lim l = (js : Items) × Text G lim l js

  -- the start of a valid text of at most lim levels, which may be of any length
  abbrev pub Viable : ℕ → List ℕ → Type 0
  Viable lim l = (rest : List ℕ) × Valid lim (l ++ rest)

  -- the first e bytes of l are its longest viable start
  pub record Longest (lim : ℕ) (l : List ℕ) (e : ℕ) : Type 0 where
    pub inside : e ≤ length l
    pub viable : Viable lim (take e l)
    pub longest : (n : ℕ) → e < n → n ≤ length l → Viable lim (take n l) → ⊥

  -- Message answers 24: after the longest viable start stands a byte that one level more would allow, so it opens level lim + 1 where a value may stand
  pub record TooDeep (lim : ℕ) (l : List ℕ) (e : ℕ) : Type 0 where
    pub longest : Longest lim l e
    pub next : e < length l
    pub deeper : Viable (suc lim) (take (suc e) l)

  -- A value may stand after the bytes l: whatever value without brackets is put there, some valid text of at most lim levels starts so. One value would not do: a digit may stand
  -- in a number too, and a string where a key may.
  abbrev pub ValueMayFollow : ℕ → List ℕ → Type 0
  ValueMayFollow lim l = (v : List ℕ) (q : ℕ) (j : Json) → Value G 0 (length l) v q [] j → Viable lim (l ++ v)

  -- Reference, Longest starts, word by word: after the longest viable start the next byte is an opening bracket, where a value may stand. In messages this is TooDeep (proofs/Openings).
  pub record OpensTooDeep (lim : ℕ) (l : List ℕ) (e : ℕ) : Type 0 where
    pub longest : Longest lim l e
    pub next : e < length l
    pub opening : Opening (get_or l e 0)
    pub value_place : ValueMayFollow lim (take e l)
