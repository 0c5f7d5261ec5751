-- What the nodes of a text say: the index that every later stage walks. One predicate says that nodes hold a tree.
use Rattle.std.specs.Prelude.{ℕ, suc, ◌-◌, ◌^◌, ◌<◌, ◌≡◌, List, [], ◌∷◌}
use Rattle.grammar.specs.Notation.{word_of}
use Rattle.grammar.specs.Tree.{Json, Items, Fields}
use Rattle.grammar.specs.Tree.Json.{leaf, arr, obj}
use Rattle.grammar.specs.Tree.Items.{no_items, item}
use Rattle.grammar.specs.Tree.Fields.{no_fields, field}
use Rattle.grammar.specs.Serving.Machine.{Dialect}
use Rattle.words.specs.Items.{put_item}
use Rattle.strings.specs.Strings.{Means}
use Rattle.tokens.specs.NodeKinds.{array_node, object_node}
use Rattle.tokens.specs.Tokens.{scalar_node, key_node, ScalarAt}

abbrev pub node_words : ℕ
node_words = 4

-- a text has fewer bytes than this, so that its places and the numbers of its nodes, and of those after them, fit a word
abbrev pub text_bound : ℕ
text_bound = 2 ^ 31

-- word i of node k: its kind, its start, its end, and the first node after it and what is inside it
abbrev pub node : List ℕ → ℕ → ℕ → ℕ
node w k i = word_of node_words w k i

abbrev pub node_kind : List ℕ → ℕ → ℕ
node_kind w k = node w k 0

abbrev pub node_start : List ℕ → ℕ → ℕ
node_start w k = node w k 1

abbrev pub node_end : List ℕ → ℕ → ℕ
node_end w k = node w k 2

abbrev pub next : List ℕ → ℕ → ℕ
next w k = node w k 3

-- the words after node k is written, if all of it fits
abbrev pub put_node : List ℕ → ℕ → ℕ → ℕ → ℕ → ℕ → List ℕ
put_node w k kind start end next = put_item node_words w k (kind ∷ start ∷ end ∷ next ∷ [])

-- node k has this kind, start and end
pub record Node (w : List ℕ) (k kind start end : ℕ) : Type 0 where
  pub has_kind : node_kind w k ≡ kind
  pub has_start : node_start w k ≡ start
  pub has_end : node_end w k ≡ end

module _ (D : Dialect) (s w : List ℕ) where
  abbrev mutual
    -- the node k and those after it hold the value, which has at most l levels: a node for each value and each key, in pre-order
    pub Holds : Json → ℕ → ℕ → Type 0
    Holds (leaf a e v) l k = Node w k (scalar_node s a e v) a e × (next w k ≡ suc k) × ScalarAt D s a e v
    Holds (arr a e js) l k = Node w k array_node a e × (k < next w k) × (0 < l) × HoldsItems js (l - 1) (suc k) (next w k)
    Holds (obj a e fs) l k = Node w k object_node a e × (k < next w k) × (0 < l) × HoldsFields fs (l - 1) (suc k) (next w k)

    -- from node k up to node n
    pub HoldsItems : Items → ℕ → ℕ → ℕ → Type 0
    HoldsItems no_items l k n = k ≡ n
    HoldsItems (item j js) l k n = (k < n) × Holds j l k × HoldsItems js l (next w k) n

    -- a member is its key's node and then its value's; the key's next is the value's
    pub HoldsFields : Fields → ℕ → ℕ → ℕ → Type 0
    HoldsFields no_fields l k n = k ≡ n
    HoldsFields (field a e cs j fs) l k n =
        (k < n) × Node w k (key_node s a e) a e × Means D s a e cs × Holds j l (suc k) × (next w k ≡ next w (suc k)) × HoldsFields fs l (next w k) n
