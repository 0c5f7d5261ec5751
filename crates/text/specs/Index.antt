-- Serves contracts: a key looked up in an index of those before it, by the hash of what it means.
use Rattle.std.specs.Prelude.{ℕ, suc, ◌+◌, ◌-◌, ◌<◌, ◌≡◌, Bool, true, false, not, List, get_or, Result, Ok, Err}
use Rattle.grammar.specs.Notation.{same, all}
use Rattle.grammar.specs.Serving.Machine.{Dialect}
use Rattle.buckets.specs.Buckets.{All, Chain}
use Rattle.sorted.specs.declared.repeats.GivenUp.{GivenUp}
use Rattle.sorted.specs.Repeats.{Repeat}
use Rattle.strings.specs.Hashes.{hash_of}
use Rattle.text.specs.Fields.{SameKeys, node_of, Keys}

-- the item of key number p: how far its node is from node b
abbrev pub item_of : List ℕ → ℕ → ℕ → ℕ
item_of w b p = node_of w b p - b

-- the key i nodes after node b, if that is before node a, means what the key at node a does
pub record SameAfter (D : Dialect) (s w : List ℕ) (b i a : ℕ) (r : Bool) : Type 0 where
  pub told : b + i < a → SameKeys D s w (b + i) a r

-- number p comes before number m, and the word after its link is the hash of what it means
pub record Listed (w : List ℕ) (b : ℕ) (f : ℕ → List ℕ) (links : List ℕ) (m p : ℕ) : Type 0 where
  pub before : p < m
  pub hash : get_or links (suc (item_of w b p)) 0 ≡ hash_of (f p)

-- no number of a list means what number m does
abbrev pub none_means : (ℕ → List ℕ) → ℕ → List ℕ → Bool
none_means f m = all (λ p. not (same (f p) (f m)))

abbrev pub Sees : (ℕ → List ℕ) → ℕ → List ℕ → Result Bool GivenUp → Type 0
Sees f m ps (Ok false) = none_means f m ps ≡ true
Sees f m ps (Ok true) = Repeat f m
Sees f m ps (Err e) = Unit {0}

-- what a walk along the chain from word x on says of the key at node a, which has the hash
pub record LooksUp (D : Dialect) (s w : List ℕ) (b a hash : ℕ) (links : List ℕ) (x : ℕ) (r : Result Bool GivenUp) : Type 0 where
  pub told : (n : ℕ) (f : ℕ → List ℕ) (count m : ℕ) → Keys D s w b n f count → m < count → a ≡ node_of w b m → hash ≡ hash_of (f m) → (ps : List ℕ)
      → Chain (item_of w b) links x ps → All (Listed w b f links m) ps → Sees f m ps r
