-- Serves contracts and proofs: arrays and objects as one, by cases: their brackets and nodes, what is in them, and where the machine of the grammar stands inside them.
use Rattle.std.specs.Prelude.{ℕ, ◌<◌, ◌≡◌, List, length, get_or, Option, Some, None}
use Prim.Native.Char.{code}
use Rattle.grammar.specs.Tree.{Json, Json.arr, Json.obj, Items, Items.no_items, Items.item, Fields, Fields.no_fields, Fields.field}
use Rattle.grammar.specs.Serving.Machine.{Dialect, Stack, Stack.in_array, Stack.in_object, Control, reverse_items, reverse_fields}
use Rattle.grammar.specs.Serving.Machine.Control.{AtValue, AtElement, AtFirstKey, AtKey}
use Rattle.tokens.specs.NodeKinds.{array_node, object_node}
use Rattle.text.specs.Nodes.{HoldsItems, HoldsFields}
use Rattle.text.specs.declared.containers.Container.{Container}
use Rattle.text.specs.declared.containers.Container.TheVariants.{Array, Object}

-- the bracket that opens a container, and the one that closes it
abbrev pub opening : Container → ℕ
opening Array = code "["
opening Object = code "{"

abbrev pub closing : Container → ℕ
closing Array = code "]"
closing Object = code "}"

-- the kind of its node
abbrev pub container_node : Container → ℕ
container_node Array = array_node
container_node Object = object_node

-- a container opens at place i, or none does
abbrev pub OpeningTold : List ℕ → ℕ → Option Container → Type 0
OpeningTold s i (Some c) = (i < length s) × (get_or s i 0 ≡ opening c)
OpeningTold s i None = (i < length s → get_or s i 0 ≡ opening Array → ⊥) × (i < length s → get_or s i 0 ≡ opening Object → ⊥)

pub record OpeningAt (s : List ℕ) (i : ℕ) (r : Option Container) : Type 0 where
  pub told : OpeningTold s i r

-- what is in a container: values, or members
abbrev pub Entries : Container → Type 0
Entries Array = Items
Entries Object = Fields

-- what stands before the value of an entry: nothing, or a key: its start, its end and what it means
abbrev pub KeyOf : Container → Type 0
KeyOf Array = Unit {0}
KeyOf Object = ℕ × ℕ × List ℕ

abbrev pub no_entries : (c : Container) → Entries c
no_entries Array = no_items
no_entries Object = no_fields

abbrev pub entry : (c : Container) → KeyOf c → Json → Entries c → Entries c
entry Array key v js = item v js
entry Object key v fs = field key.0 key.1 key.2 v fs

abbrev pub reverse_entries : (c : Container) → Entries c → Entries c → Entries c
reverse_entries Array = reverse_items
reverse_entries Object = reverse_fields

-- the value: its start, its end, and what is in it
abbrev pub container : (c : Container) → ℕ → ℕ → Entries c → Json
container Array = arr
container Object = obj

-- from node k up to node n
abbrev pub HoldsEntries : (D : Dialect) (s w : List ℕ) (c : Container) → Entries c → ℕ → ℕ → ℕ → Type 0
HoldsEntries D s w Array = HoldsItems D s w
HoldsEntries D s w Object = HoldsFields D s w

-- the machine past the bracket that opens at place a
abbrev pub at_first : (D : Dialect) → Container → ℕ → Control D
at_first D Array a = AtElement a
at_first D Object a = AtFirstKey a

-- where an entry is next, after those gathered, and the stack there
abbrev pub at_entry : (D : Dialect) (c : Container) → ℕ → Entries c → Control D
at_entry D Array a js = AtValue
at_entry D Object a fs = AtKey a fs

abbrev pub around_entry : (c : Container) → ℕ → Entries c → Stack → Stack
around_entry Array a js K = in_array a js K
around_entry Object a fs K = K

-- the stack around the value of an entry
abbrev pub around_value : (c : Container) → ℕ → Entries c → KeyOf c → Stack → Stack
around_value Array a js key K = in_array a js K
around_value Object a fs key K = in_object a fs key.0 key.1 key.2 K
