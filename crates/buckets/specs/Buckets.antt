-- Serves contracts: an index of items by a hash that equal things share. An item is of any type; `place` gives its number and `hash` its hash.
use Prim.{Unit}
use Rattle.std.specs.Prelude.{ℕ, suc, ◌%◌, ◌<◌, ◌≡◌, cond, List, [], ◌∷◌, eqb, get_or, set}

abbrev pub buckets : ℕ
buckets = 512

-- the bucket of a hash
abbrev pub bucket_of : ℕ → ℕ
bucket_of hash = hash % buckets

-- item i was put first in the bucket of its hash
pub record Added (heads links : List ℕ) (hash i : ℕ) (heads' links' : List ℕ) : Type 0 where
  pub head : heads' ≡ set heads (bucket_of hash) (suc i)
  pub link : links' ≡ set links i (get_or heads (bucket_of hash) 0)

-- P holds of every item
abbrev pub All : {A : Type 0} → (A → Type 0) → List A → Type 0
All P [] = Unit {0}
All P (y ∷ ys) = P y × All P ys

module _ {A : Type 0} (place : A → ℕ) where
  -- no item has the number i
  abbrev pub Free : ℕ → List A → Type 0
  Free i = All (λ y. place y ≡ i → ⊥)

  -- the items that follow a word: 0 for none, else the first item's number and one
  abbrev pub Chain : List ℕ → ℕ → List A → Type 0
  Chain links x [] = x ≡ 0
  Chain links x (y ∷ ys) = (x ≡ suc (place y)) × Chain links (get_or links (place y) 0) ys

module _ {A : Type 0} (hash : A → ℕ) where
  -- the items of bucket h
  abbrev pub in_bucket : ℕ → List A → List A
  in_bucket h [] = []
  in_bucket h (y ∷ ys) = cond (eqb (bucket_of (hash y)) h) (y ∷ in_bucket h ys) (in_bucket h ys)

module _ {A : Type 0} (place hash : A → ℕ) (links : List ℕ) where
  -- the link of each item leads to the items after it in its bucket
  abbrev pub Linked : List A → Type 0
  Linked [] = Unit {0}
  Linked (y ∷ ys) = Chain place links (get_or links (place y) 0) (in_bucket hash (bucket_of (hash y)) ys) × Linked ys

-- the chain of each bucket has its items, in the order of the list
pub record Indexed {A : Type 0} (place hash : A → ℕ) (heads links : List ℕ) (items : List A) : Type 0 where
  pub chains : (h : ℕ) → h < buckets → Chain place links (get_or heads h 0) (in_bucket hash h items)
