-- Serves contracts: the keys of one object by number, over its nodes, and the first of them that repeats one before it.
use Rattle.std.specs.Prelude.{ℕ, zero, suc, ◌<◌, ◌≡◌, Bool, true, false, eqb, List, Option, Some, None, Result, Ok, Err}
use Rattle.grammar.specs.Notation.{same}
use Rattle.grammar.specs.Serving.Machine.{Dialect}
use Rattle.sorted.specs.declared.repeats.GivenUp.{GivenUp}
use Rattle.sorted.specs.Repeats.{Repeat, NoneTo}
use Rattle.strings.specs.Strings.{Means}
use Rattle.strings.specs.Hashes.{hash_of}
use Rattle.tokens.specs.NodeKinds.{plain_key_node}
use Rattle.tokens.specs.Tokens.{key_node}
use Rattle.text.specs.Nodes.{Node, next}

-- node a is a key that means cs
pub record KeyAt (D : Dialect) (s w : List ℕ) (a : ℕ) (cs : List ℕ) : Type 0 where
  pub start : ℕ
  pub end : ℕ
  pub node_is : Node w a (key_node s start end) start end
  pub means : Means D s start end cs

-- whether a node's kind is that of a key whose bytes are its code points
abbrev pub plain_key : ℕ → Bool
plain_key kind = eqb kind plain_key_node

-- two keys mean the same
pub record SameKeys (D : Dialect) (s w : List ℕ) (a b : ℕ) (r : Bool) : Type 0 where
  pub told : (cs ds : List ℕ) → KeyAt D s w a cs → KeyAt D s w b ds → r ≡ same cs ds

-- the hash of what the key at node a means
pub record KeyHash (D : Dialect) (s w : List ℕ) (a r : ℕ) : Type 0 where
  pub told : (cs : List ℕ) → KeyAt D s w a cs → r ≡ hash_of cs

-- the node of key number m, where that of number 0 is b
unfoldable pub node_of : List ℕ → ℕ → ℕ → ℕ
node_of w b zero = b
node_of w b (suc m) = next w (node_of w b m)

-- from node b up to node n stand the keys of an object, each with its value behind it; there are `count` of them, and number m means f m
pub record Keys (D : Dialect) (s w : List ℕ) (b n : ℕ) (f : ℕ → List ℕ) (count : ℕ) : Type 0 where
  pub at : (m : ℕ) → m < count → KeyAt D s w (node_of w b m) (f m)
  pub on : (m : ℕ) → m < count → suc (node_of w b m) < node_of w b (suc m)
  pub end : node_of w b count ≡ n

-- whether number m means what none before it does
abbrev pub IsNew : (ℕ → List ℕ) → ℕ → Bool → Type 0
IsNew f m true = Repeat f m → ⊥
IsNew f m false = Repeat f m

-- whether the key at node a is new among those from node b on
pub record NewKey (D : Dialect) (s w : List ℕ) (b a : ℕ) (r : Bool) : Type 0 where
  pub told : (n : ℕ) (f : ℕ → List ℕ) (count m : ℕ) → Keys D s w b n f count → m < count → a ≡ node_of w b m → IsNew f m r

-- node i is that of a key that repeats one before it
pub record RepeatAt (w : List ℕ) (b : ℕ) (f : ℕ → List ℕ) (count i : ℕ) : Type 0 where
  pub number : ℕ
  pub below : number < count
  pub node : i ≡ node_of w b number
  pub repeats : Repeat f number

abbrev pub TellsKey : List ℕ → ℕ → (ℕ → List ℕ) → ℕ → Result (Option ℕ) GivenUp → Type 0
TellsKey w b f count (Ok None) = NoneTo f count
TellsKey w b f count (Ok (Some i)) = (r : RepeatAt w b f count i) × NoneTo f r.number
TellsKey w b f count (Err e) = Unit {0}

-- what a search finds among the keys from node b up to node n
pub record FindsKey (D : Dialect) (s w : List ℕ) (b n : ℕ) (r : Result (Option ℕ) GivenUp) : Type 0 where
  pub told : (f : ℕ → List ℕ) (count : ℕ) → Keys D s w b n f count → TellsKey w b f count r
