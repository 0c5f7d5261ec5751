-- Serves contracts: where a text that is not valid goes wrong, and not for lack of levels. That it is refused is said by the answers, of Valid and TooDeep alone.
use Rattle.std.specs.Prelude.{ℕ, suc, ◌<◌, List, length, take}
use Rattle.grammar.specs.Lexis.{Lexis}
use Rattle.grammar.specs.Starts.{Valid, Viable, Longest}

-- not valid, and after the longest viable start stands a byte that no number of levels would allow, or the text ends
pub record Broken (G : Lexis) (lim : ℕ) (l : List ℕ) (e : ℕ) : Type 0 where
  pub longest : Longest G lim l e
  pub invalid : Valid G lim l → ⊥
  pub never : e < length l → (n : ℕ) → Viable G n (take (suc e) l) → ⊥
