-- Serves contracts: what the nodes of a schema's values say: names as words of rows, types, flags.
use Rattle.std.specs.Prelude.{ℕ, zero, suc, ◌+◌, ◌≤◌, ◌≡◌, Bool, true, false, List, Some, None, Result, Ok, Err, length, get_or}
use Rattle.std.specs.Prelude as Std
use Rattle.std.proofs.Math.Option.{Option, none, some}
use Rattle.grammar.specs.Limits.{schema_bytes}
use Rattle.grammar.specs.Tree.{Json}
use Rattle.grammar.specs.Serving.Machine.Schema.{schema}
use Rattle.strings.specs.Strings.{Means}
use Rattle.tokens.specs.Tokens.{key_node}
use Rattle.text.specs.Nodes.{Node, Holds, node_end, node_start}
use Rattle.lookups.specs.Lookups.{ValueFound}
use Rattle.rules.specs.Definitions.{Name, TypeText, Data, quoted, starred, list_type, as_name, as_type, as_data, may}
use Rattle.rules.specs.Values.{◌>>=◌, if_absent, as_items, as_flag}
use Rattle.rules.specs.Rules.{is}
use Rattle.rules.specs.SchemaTable.{row, flag, list_flag, type_of, data_link}
use Rattle.rules.specs.Serving.RawTable.{packed}
use Rattle.definitions.specs.declared.shapes.TypeText as Text
use Rattle.definitions.specs.declared.writing.NotDefinitions.{NotDefinitions}

-- a value's node by its number, where 0 is nowhere
abbrev pub if_any : ℕ → Std.Option ℕ
if_any zero = None
if_any (suc v) = Some (suc v)

-- node k holds a value of a schema that is not too long; or it may be absent, and stand nowhere
pub record Held (s w : List ℕ) (j : Json) (k : ℕ) : Type 0 where
  pub small : length s ≤ schema_bytes
  pub level : ℕ
  pub holds : Holds schema s w j level k

pub record Found (s w : List ℕ) (o : Option Json) (k : Std.Option ℕ) : Type 0 where
  pub small : length s ≤ schema_bytes
  pub level : ℕ
  pub found : ValueFound schema s w level o k

-- node a is a key of such a schema from place x to e, and means this
pub record Keyed (s w : List ℕ) (a x e : ℕ) (key : List ℕ) : Type 0 where
  pub small : length s ≤ schema_bytes
  pub node_is : Node w a (key_node s x e) x e
  pub means : Means schema s x e key

-- the string or key at node k, but for its quotes and `skip` bytes after the first, is this name
pub record Named (w : List ℕ) (k skip : ℕ) (n : Name) : Type 0 where
  pub is : n ≡ quoted (node_start w k + skip) (node_end w k)
  pub within : n.start + n.size ≤ schema_bytes

-- a word about that name
pub record NameWord (w : List ℕ) (k skip : ℕ) (f : Name → ℕ) (r : ℕ) : Type 0 where
  pub told : (n : Name) → Named w k skip n → r ≡ f n

-- a row of a kind with that name, and 0 in its other words
pub record NamedRow (w : List ℕ) (k skip kind : ℕ) (r : List ℕ) : Type 0 where
  pub first : get_or r 0 0 ≡ kind
  pub told : (n : Name) → Named w k skip n → r ≡ row kind n 0 0 0 0

-- whether the key at node a has a `*` in front
pub record Star (s w : List ℕ) (a : ℕ) (r : Bool) : Type 0 where
  pub told : (x e : ℕ) (key : List ℕ) → Keyed s w a x e key → r ≡ starred key

-- a type, or one that may be absent, as two words of a row: what its name becomes, and 1 if it is a list
pub record WordsTaken {A : Type 0} (name_word list_word : A → ℕ) (o : Option A) (t : Text.TypeText) : Type 0 where
  pub type : A
  pub is : o ≡ some type
  pub place : t.name ≡ name_word type
  pub list : flag t.list ≡ list_word type

abbrev pub WordsTold : {A : Type 0} → (A → ℕ) → (A → ℕ) → Option A → Result Text.TypeText NotDefinitions → Type 0
WordsTold f g o (Ok t) = WordsTaken f g o t
WordsTold f g o (Err e) = o ≡ none

abbrev pub TypeTold : Option TypeText → Result Text.TypeText NotDefinitions → Type 0
TypeTold = WordsTold (type_of packed) list_flag

abbrev pub ReturnTold : Option (Option TypeText) → Result Text.TypeText NotDefinitions → Type 0
ReturnTold = WordsTold (if_absent 0 (type_of packed)) (if_absent 0 list_flag)

-- a type at node k: of a value that is no string, and of any value
pub record ReadsList (w : List ℕ) (k : ℕ) (r : Result Text.TypeText NotDefinitions) : Type 0 where
  pub told : (s : List ℕ) (j : Json) → Held s w j k → TypeTold (as_items j >>= list_type) r

pub record ReadsType (w : List ℕ) (k : ℕ) (r : Result Text.TypeText NotDefinitions) : Type 0 where
  pub told : (s : List ℕ) (j : Json) → Held s w j k → TypeTold (as_type j) r

pub record TakesReturn (w : List ℕ) (k : Std.Option ℕ) (r : Result Text.TypeText NotDefinitions) : Type 0 where
  pub told : (s : List ℕ) (o : Option Json) → Found s w o k → ReturnTold (may as_type o) r

-- a flag; absent, it is false
pub record FlagTaken (o : Option (Option Bool)) (b : Bool) : Type 0 where
  pub value : Option Bool
  pub is : o ≡ some value
  pub says : b ≡ if_absent false (λ b. b) value

abbrev pub FlagTold : Option (Option Bool) → Result Bool NotDefinitions → Type 0
FlagTold o (Ok b) = FlagTaken o b
FlagTold o (Err e) = o ≡ none

pub record TakesFlag (w : List ℕ) (k : Std.Option ℕ) (r : Result Bool NotDefinitions) : Type 0 where
  pub told : (s : List ℕ) (o : Option Json) → Found s w o k → FlagTold (may as_flag o) r

-- the link of a base or of data, of the owner at row n
pub record Links (w : List ℕ) (k : Std.Option ℕ) (n r : ℕ) : Type 0 where
  pub told : (s : List ℕ) (o : Option Json) → Found s w o k → (d : Option Data) → may as_data o ≡ some d → r ≡ if_absent 0 (data_link packed n) d

-- whether a struct's base is a name, or absent
pub record BaseFits (w : List ℕ) (k : Std.Option ℕ) (r : Bool) : Type 0 where
  pub told : (s : List ℕ) (o : Option Json) → Found s w o k → is (may as_name o) (λ _. true) ≡ r
