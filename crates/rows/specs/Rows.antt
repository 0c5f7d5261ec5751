-- Serves contracts: the row after another, and walks from row to row that no number is too large for.
use Rattle.std.specs.Prelude.{ℕ, ◌+◌, ◌-◌, ◌≤◌, ◌<◌, ◌^◌, ◌≡◌, List}
use Rattle.rules.specs.Rows.{next, first_child, child_count}

-- A row's number as loops and words give it: a table has fewer than 2 ^ 32 words, and a link or a type reference fits one. So counting the rows of
-- a walk from there on, of which there are at most 2 ^ 32 again, goes past no number of the machine.
abbrev pub Near : ℕ → Type 0
Near r = r < 2 ^ 39

-- a row whose inline struct and children can still be counted, wherever a walk has led: past 2 ^ 61 a walk goes on by single rows only
abbrev pub Countable : ℕ → Type 0
Countable r = r < 2 ^ 61 + 2 ^ 34

-- n is the next of row r; it is the row after it, or no larger than the words of a table allow
pub record Follows (T : List ℕ) (r n : ℕ) : Type 0 where
  pub is : n ≡ next T r
  pub low : n ≤ 2 ^ 61 + (r - 2 ^ 61) + 1

-- a walk of n rows from c on has room: no row on it has too large a number
pub record Room (c n : ℕ) : Type 0 where
  pub few : n ≤ 2 ^ 32
  pub low : c + n < 2 ^ 62

-- a is the first child of row r, and n the count of its children
pub record First (T : List ℕ) (r a : ℕ) : Type 0 where
  pub is : a ≡ first_child T r
  pub low : a < 2 ^ 61 + 2 ^ 35

pub record Counted (T : List ℕ) (r n : ℕ) : Type 0 where
  pub is : n ≡ child_count T r
  pub few : n < 2 ^ 32
