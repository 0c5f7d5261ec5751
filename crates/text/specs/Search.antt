-- Serves contracts: the search for repeated keys through all objects, in the order of their nodes.
use Rattle.std.specs.Prelude.{ℕ, suc, ◌+◌, ◌≤◌, ◌<◌, ◌≡◌, ◌⊎◌, List, min, Option, Some, None, Ok}
use Rattle.grammar.specs.Serving.Machine.{Dialect}
use Rattle.sorted.specs.Repeats.{Repeat}
use Rattle.tokens.specs.NodeKinds.{object_node}
use Rattle.text.specs.Nodes.{next, node_kind}
use Rattle.text.specs.Fields.{node_of, Keys, RepeatAt, FindsKey}

-- the lesser of a node and what a search found
abbrev pub lesser_of : ℕ → Option ℕ → ℕ
lesser_of best None = best
lesser_of best (Some i) = min best i

module _ (D : Dialect) (s w : List ℕ) where
  -- what a search finds in node k: nothing in one that is no object
  pub record FindsAt (k : ℕ) (r : Option ℕ) : Type 0 where
    pub told : ((node_kind w k ≡ object_node → ⊥) × (r ≡ None)) ⊎ ((node_kind w k ≡ object_node) × FindsKey D s w (k + 1) (next w k) (Ok r))

  -- the keys of the objects whose nodes are from a up to n repeat one before them only from node `best` on
  abbrev pub NoneBefore : ℕ → ℕ → ℕ → Type 0
  NoneBefore best a n =
      (k : ℕ) → a ≤ k → k < n → node_kind w k ≡ object_node → (f : ℕ → List ℕ) (count : ℕ) → Keys D s w (suc k) (next w k) f count → (m : ℕ) → m < count → Repeat f m → best ≤ node_of w (suc k) m

  -- the key at node i repeats one before it in an object below node n
  pub record Hit (n i : ℕ) : Type 0 where
    pub k : ℕ
    pub below : k < n
    pub object : node_kind w k ≡ object_node
    pub told : (f : ℕ → List ℕ) (count : ℕ) → Keys D s w (suc k) (next w k) f count → RepeatAt w (suc k) f count i

  -- the objects before node `at` are searched, of n nodes: `best` is the least that was found, or n
  pub record Searched (n at best : ℕ) : Type 0 where
    pub upto : best ≤ n
    pub none : NoneBefore best 0 at
    pub found : best < n → Hit n best

  -- the least node of n whose key repeats one before it, or n
  pub record LeastNode (n r : ℕ) : Type 0 where
    pub at : ℕ
    pub searched : Searched n at r
    pub done : r ≤ at
