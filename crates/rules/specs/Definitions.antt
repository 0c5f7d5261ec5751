-- Reference, Definitions: definitions out of trees, by the table of keys.
use Rattle.std.specs.Prelude.{ℕ, ◌+◌, ◌-◌, Bool, true, false, cond, List, [], ◌∷◌, eqb}
use Prim.Native.Char.{code}
use Rattle.std.proofs.Math.Option.{Option, none, some}
use Rattle.grammar.specs.Notation.{text, all}
use Rattle.grammar.specs.Tree.{Json, Items, Fields, start_of, end_of, kind_of}
use Rattle.grammar.specs.Tree.Items.{no_items, item}
use Rattle.grammar.specs.Tree.Fields.{no_fields, field}
use Rattle.grammar.specs.Tree.Kind.{string}
use Rattle.grammar.specs.Keys.{keys_of}
use Rattle.rules.specs.Types.{same_kind}
use Rattle.rules.specs.Values.{◌>>=◌, if_absent, as_items, as_fields, as_flag, value_at, any_of}

-- a name where it stands in the schema: its first byte and how many bytes it has
pub record Name : Type 0 where
  pub start : ℕ
  pub size : ℕ

-- a type is a name, or a list of one name and nothing else: its name, and whether it is a list
pub record TypeText : Type 0 where
  pub name : Name
  pub list : Bool

pub record Member : Type 0 where
  pub name : Name
  pub optional : Bool
  pub type : TypeText

-- a union's base or a command's data: members written out, or a struct's name
pub data Data : Type 0 where
  inline : List Member → Data
  named : Name → Data

-- a branch and its struct, or an alternative and its type
pub record Pair : Type 0 where
  pub name : Name
  pub type : Name

-- What the keys of each kind say. Only what may be absent is an option, and so a schema gives each of these.
pub data Body : Type 0 where
  -- its values
  enum : List Name → Body
  -- its base and its members
  struct : Option Name → List Member → Body
  -- its base, its discriminator and its branches
  union : Data → Name → List Pair → Body
  -- its alternatives
  alternate : List Pair → Body
  -- its data, what it returns, and whether it allows out-of-band execution
  command : Option Data → Option TypeText → Bool → Body

pub record Definition : Type 0 where
  pub name : Name
  pub body : Body

-- Shapes of values. A string from place a to e is a name without its quotes.
abbrev pub quoted : ℕ → ℕ → Name
quoted a e = record { start = a + 1; size = e - a - 2 }

-- a string gives what its name gives; any other value is of another shape
abbrev pub name_or : {A : Type 0} → (Name → A) → (Json → Option A) → Json → Option A
name_or f other j = cond (same_kind (kind_of j) string) (some (f (quoted (start_of j) (end_of j)))) (other j)

abbrev pub as_name : Json → Option Name
as_name = name_or (λ n. n) (λ _. none)

abbrev pub list_type : Items → Option TypeText
list_type no_items = none
list_type (item j no_items) = as_name j >>= λ n. some (record { name = n; list = true })
list_type (item j (item k js)) = none

abbrev pub as_type : Json → Option TypeText
as_type = name_or (λ n. record { name = n; list = false }) (λ j. as_items j >>= list_type)

-- a field, whose key stands from place a to e. A member's: a `*` in front makes it optional and is no part of its name
abbrev pub starred : List ℕ → Bool
starred [] = false
starred (c ∷ cs) = eqb c (code "*")

abbrev pub keyed_member : ℕ → ℕ → Bool → TypeText → Member
keyed_member a e true t = record { name = quoted (a + 1) e; optional = true; type = t }
keyed_member a e false t = record { name = quoted a e; optional = false; type = t }

abbrev pub as_member : ℕ → ℕ → List ℕ → Json → Option Member
as_member a e key j = as_type j >>= λ t. some (keyed_member a e (starred key) t)

-- a branch's or an alternative's
abbrev pub as_pair : ℕ → ℕ → List ℕ → Json → Option Pair
as_pair a e key j = as_name j >>= λ t. some (record { name = quoted a e; type = t })

-- every element of an array, every field of an object
abbrev pub each_item : {A : Type 0} → (Json → Option A) → Items → Option (List A)
each_item shape no_items = some []
each_item shape (item j js) = do
  x ← shape j
  xs ← each_item shape js
  some (x ∷ xs)

abbrev pub each_field : {A : Type 0} → (ℕ → ℕ → List ℕ → Json → Option A) → Fields → Option (List A)
each_field shape no_fields = some []
each_field shape (field a e key j fs) = do
  x ← shape a e key j
  xs ← each_field shape fs
  some (x ∷ xs)

abbrev pub as_names : Json → Option (List Name)
as_names j = as_items j >>= each_item as_name

abbrev pub as_members : Json → Option (List Member)
as_members j = as_fields j >>= each_field as_member

abbrev pub as_pairs : Json → Option (List Pair)
as_pairs j = as_fields j >>= each_field as_pair

abbrev pub as_data : Json → Option Data
as_data = name_or named (λ j. as_members j >>= λ ms. some (inline ms))

-- the shape of a value that must be there, and of one that may be absent
abbrev pub must : {A : Type 0} → (Json → Option A) → Option Json → Option A
must shape o = o >>= shape

abbrev pub may : {A : Type 0} → (Json → Option A) → Option Json → Option (Option A)
may shape none = some none
may shape (some j) = shape j >>= λ a. some (some a)

-- the definition, if there is no key but these
abbrev pub only : List (List ℕ) → Fields → Name → Option Body → Option Definition
only ks fs n none = none
only ks fs n (some b) = cond (all (any_of ks) (keys_of fs)) (some (record { name = n; body = b })) none

-- The table of keys, row by row.
abbrev pub enum_body : Fields → Option Body
enum_body fs = must as_names (value_at (text "data") fs) >>= λ values. some (enum values)

abbrev pub struct_body : Fields → Option Body
struct_body fs = do
  ms ← must as_members (value_at (text "data") fs)
  base ← may as_name (value_at (text "base") fs)
  some (struct base ms)

abbrev pub union_body : Fields → Option Body
union_body fs = do
  base ← must as_data (value_at (text "base") fs)
  discriminator ← must as_name (value_at (text "discriminator") fs)
  branches ← must as_pairs (value_at (text "data") fs)
  some (union base discriminator branches)

abbrev pub alternate_body : Fields → Option Body
alternate_body fs = must as_pairs (value_at (text "data") fs) >>= λ alternatives. some (alternate alternatives)

abbrev pub command_body : Fields → Option Body
command_body fs = do
  arguments ← may as_data (value_at (text "data") fs)
  returns ← may as_type (value_at (text "returns") fs)
  oob ← may as_flag (value_at (text "allow-oob") fs)
  some (command arguments returns (if_absent false (λ b. b) oob))

-- Its kind is the kind key that it has. With two of them one is outside the other's keys.
abbrev pub kind_key : List ℕ → Fields → List (List ℕ) → Option Body → Option Definition → Option Definition
kind_key k fs others body otherwise = keyed (value_at k fs)
  where
    keyed : Option Json → Option Definition
    keyed none = otherwise
    keyed (some j) = do
      n ← as_name j
      only (k ∷ others) fs n body

abbrev pub as_definition : Fields → Option Definition
as_definition fs =
    kind_key (text "enum") fs (text "data" ∷ []) (enum_body fs)
    (kind_key (text "struct") fs (text "data" ∷ text "base" ∷ []) (struct_body fs)
    (kind_key (text "union") fs (text "base" ∷ text "discriminator" ∷ text "data" ∷ []) (union_body fs)
    (kind_key (text "alternate") fs (text "data" ∷ []) (alternate_body fs)
    (kind_key (text "command") fs (text "data" ∷ text "returns" ∷ text "allow-oob" ∷ []) (command_body fs) none))))

-- Schema answers 4: the definitions of a schema's top-level objects, if every one keeps the table of keys
unfoldable pub definitions : Items → Option (List Definition)
definitions = each_item (λ j. as_fields j >>= as_definition)
