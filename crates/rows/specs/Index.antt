-- Serves contracts: an index of rows by the hashes of their names, and a name looked up in it.
use Rattle.std.specs.Prelude.{ℕ, ◌≤◌, ◌≡◌, Bool, true, List, ◌∷◌, length}
use Rattle.buckets.specs.Buckets.{buckets, Free, Chain, Indexed}
use Rattle.rules.specs.Rows.{name_of}
use Rattle.rows.specs.Hashes.{hash_of, fresh_in}

-- an item is a row, and its number is its place
abbrev pub itself : ℕ → ℕ
itself r = r

abbrev pub row_hash : List ℕ → List ℕ → ℕ → ℕ
row_hash S T r = hash_of (name_of S T r)

-- the index has the rows rs, the first one added last
pub record RowIndex (S T heads links rs : List ℕ) : Type 0 where
  pub wide : length heads ≡ buckets
  pub chains : Indexed itself (row_hash S T) heads links rs

-- b tells whether the name x clashes with none of the rows that follow the word `head`, of which there are no more than links
pub record Unlisted (S T links : List ℕ) (head : ℕ) (x : List ℕ) (b : Bool) : Type 0 where
  pub told : (rs : List ℕ) → Chain itself links head rs → length rs ≤ length links → b ≡ fresh_in S T x rs

-- b tells whether the name of row r clashes with none in the index; if so, the row has come into it
pub record Entered (S T heads links : List ℕ) (r : ℕ) (heads' links' : List ℕ) (b : Bool) : Type 0 where
  pub told : (rs : List ℕ) → RowIndex S T heads links rs → Free itself r rs → length rs ≤ length links
      → (b ≡ fresh_in S T (name_of S T r) rs) × (b ≡ true → RowIndex S T heads' links' (r ∷ rs))
