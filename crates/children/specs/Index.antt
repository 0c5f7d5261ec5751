-- Serves contracts: the index of children that a message's keys and strings are looked up in. Only long lists are in it.
use Rattle.std.specs.Prelude.{ℕ, ◌+◌, ◌≤◌, ◌<◌, ◌≡◌, Bool, true, ltb, length, get_or, take, drop}
use mathlib.Core.List.{List, Memᴰ}
use Rattle.grammar.specs.Limits.{table_rows}
use Rattle.buckets.specs.Buckets.{buckets, All, Indexed}
use Rattle.strings.specs.Hashes.{hash_more, hash_of}
use Rattle.rules.specs.Rows.{child_count, children, name_of}
use Rattle.rules.specs.Sound.{sound}
use Rattle.children.specs.Counts.{mandatory_in}

-- the words of an index: heads of buckets; then for each row a link, its owner and a count
abbrev pub index_words : ℕ
index_words = buckets + table_rows + table_rows + table_rows

unfoldable pub heads_of : List ℕ → List ℕ
heads_of ix = take buckets ix

unfoldable pub links_of : List ℕ → List ℕ
links_of ix = take table_rows (drop buckets ix)

unfoldable pub owners_of : List ℕ → List ℕ
owners_of ix = take table_rows (drop (buckets + table_rows) ix)

abbrev pub owner_place : ℕ → ℕ
owner_place c = buckets + table_rows + c

abbrev pub count_place : ℕ → ℕ
count_place r = buckets + table_rows + table_rows + r

-- a list of more children than these is long
abbrev pub short_list : ℕ
short_list = 16

unfoldable pub is_long : List ℕ → ℕ → Bool
is_long T r = ltb short_list (child_count T r)

-- a child that an index lists, and the row whose child it is
pub record Child : Type 0 where
  pub row : ℕ
  pub owner : ℕ

abbrev pub child_at : ℕ → ℕ → Child
child_at c r = record { row = c; owner = r }

abbrev pub row_of : Child → ℕ
row_of y = y.row

-- the hash of its name, with its owner as one more code point
abbrev pub child_hash : List ℕ → List ℕ → Child → ℕ
child_hash S T y = hash_more (hash_of (name_of S T y.row)) y.owner

-- it is a child of its owner, which is noted at its row
pub record Noted (T ix : List ℕ) (y : Child) : Type 0 where
  pub child : Memᴰ y.row (children T y.owner)
  pub note : get_or (owners_of ix) y.row 0 ≡ y.owner

-- the items are in chains, each in the bucket of its hash, with their owners; their rows are below n, and there are no more than n
pub record Chained (S T ix : List ℕ) (items : List Child) (n : ℕ) : Type 0 where
  pub words : length ix ≡ index_words
  pub chains : Indexed row_of (child_hash S T) (heads_of ix) (links_of ix) items
  pub below : All (λ y. row_of y < n) items
  pub few : length items ≤ n
  pub owners : (y : Child) → Memᴰ y items → Noted T ix y

-- every child of row r is among the items, and the mandatory ones are counted
pub record Owned (T ix : List ℕ) (items : List Child) (r : ℕ) : Type 0 where
  pub listed : (c : ℕ) → Memᴰ c (children T r) → Memᴰ (child_at c r) items
  pub counted : get_or ix (count_place r) 0 ≡ mandatory_in T (children T r)

-- every long list is in the index
pub record Filled (S T ix : List ℕ) : Type 0 where
  pub items : List Child
  pub chained : Chained S T ix items table_rows
  pub owned : (r : ℕ) → is_long T r ≡ true → Owned T ix items r

-- what a lookup is given: a sound table, and its index
pub record IndexedTable (S T ix : List ℕ) : Type 0 where
  pub sound_table : sound S T ≡ true
  pub filled : Filled S T ix
