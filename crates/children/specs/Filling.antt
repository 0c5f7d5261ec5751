-- Serves contracts: what the functions that fill an index make of it, whatever it listed before.
use Rattle.std.specs.Prelude.{ℕ, suc, ◌+◌, ◌≤◌, ◌≡◌, true, false, length, get_or, set}
use mathlib.Core.List.{List, ◌∷◌, Memᴰ}
use Rattle.buckets.specs.Buckets.{buckets, bucket_of}
use Rattle.rules.specs.Rows.{next, owns, first_child, children, past_children}
use Rattle.children.specs.Counts.{mandatory_in}
use Rattle.children.specs.Index.{count_place, owner_place, is_long, Child, child_at, Chained, Owned}

-- row c was put first in the bucket of a hash
pub record Put (ix : List ℕ) (hash c : ℕ) (ix' : List ℕ) : Type 0 where
  pub stored : ix' ≡ set (set ix (buckets + c) (get_or ix (bucket_of hash) 0)) (bucket_of hash) (suc c)

-- row r was noted as the owner of row c
pub record OwnerPut (ix : List ℕ) (c r : ℕ) (ix' : List ℕ) : Type 0 where
  pub stored : ix' ≡ set ix (owner_place c) r

-- the mandatory children of row r were counted
pub record Counted (T ix : List ℕ) (r : ℕ) (ix' : List ℕ) : Type 0 where
  pub stored : ix' ≡ set ix (count_place r) (mandatory_in T (children T r))

-- to the items came the children of row r
pub record Grown (S T ix : List ℕ) (r : ℕ) (items : List Child) : Type 0 where
  pub more : List Child
  pub chained : Chained S T ix more (past_children T r)
  pub kept : (y : Child) → Memᴰ y items → Memᴰ y more
  pub come : (x : ℕ) → Memᴰ x (children T r) → Memᴰ (child_at x r) more

pub record ChildrenAdded (S T ix : List ℕ) (r : ℕ) (ix' : List ℕ) : Type 0 where
  pub room : length ix' ≡ length ix
  pub counts : (x : ℕ) → get_or ix' (count_place x) 0 ≡ get_or ix (count_place x) 0
  pub told : (items : List Child) → Chained S T ix items (first_child T r) → Grown S T ix' r items

-- the rows in the index are below n; the lists of these owners are in it, where they are long
pub record Listing (S T ix : List ℕ) (n : ℕ) (owners : List ℕ) : Type 0 where
  pub items : List Child
  pub chained : Chained S T ix items n
  pub owned : (r : ℕ) → Memᴰ r owners → is_long T r ≡ true → Owned T ix items r

-- the list of row r came into the index, if it is long
pub record ListAdded (S T ix : List ℕ) (r : ℕ) (ix' : List ℕ) : Type 0 where
  pub room : length ix' ≡ length ix
  pub told : (n : ℕ) (owners : List ℕ) → Listing S T ix n owners → n ≤ first_child T r → Listing S T ix' (past_children T r) (r ∷ owners)

-- the list of row r's inline struct did, if it has one
pub record InlineAdded (S T ix : List ℕ) (r : ℕ) (ix' : List ℕ) : Type 0 where
  pub room : length ix' ≡ length ix
  pub there : owns T r ≡ true → ListAdded S T ix (next T r) ix'
  pub none : owns T r ≡ false → ix' ≡ ix
