-- Reference, Repeated keys: no key twice in one object, anywhere in the text. Keys are compared by meaning.
use Rattle.std.specs.Prelude.{ℕ, ◌≤◌, Bool, true, ◌&&◌}
use mathlib.Core.List.{List, [], ◌∷◌, Memᴰ}
use Rattle.grammar.specs.Notation.{same, apart}
use Rattle.grammar.specs.Tree.{Json, Items, Fields}
use Rattle.grammar.specs.Tree.Json.{leaf, arr, obj}
use Rattle.grammar.specs.Tree.Items.{no_items, item}
use Rattle.grammar.specs.Tree.Fields.{no_fields, field}

-- what the keys of an object mean
abbrev pub keys_of : Fields → List (List ℕ)
keys_of no_fields = []
keys_of (field a e key j fs) = key ∷ keys_of fs

abbrev mutual
  -- in this value and in every value inside it
  pub keys_once : Json → Bool
  keys_once (leaf a e v) = true
  keys_once (arr a e js) = keys_once_i js
  keys_once (obj a e fs) = apart same (keys_of fs) && keys_once_f fs

  pub keys_once_i : Items → Bool
  keys_once_i no_items = true
  keys_once_i (item j js) = keys_once j && keys_once_i js

  pub keys_once_f : Fields → Bool
  keys_once_f no_fields = true
  keys_once_f (field a e key j fs) = keys_once j && keys_once_f fs

mutual
  -- the key whose opening quote stands at this place repeats one before it in the same object: in this value or in a value inside it
  pub data Repeats : Json → ℕ → Type 0 where
    in_array : {a e p : ℕ} {js : Items} → RepeatsI js p → Repeats (arr a e js) p
    in_object : {a e p : ℕ} {fs : Fields} → RepeatsF [] fs p → Repeats (obj a e fs) p

  -- in one of these values: the elements of an array, the top-level objects of a schema
  pub data RepeatsI : Items → ℕ → Type 0 where
    in_item : {p : ℕ} {j : Json} {js : Items} → Repeats j p → RepeatsI (item j js) p
    in_items : {p : ℕ} {j : Json} {js : Items} → RepeatsI js p → RepeatsI (item j js) p

  -- in these fields of an object; the list is what the keys before them in the object mean
  pub data RepeatsF : List (List ℕ) → Fields → ℕ → Type 0 where
    again : {a e : ℕ} {key : List ℕ} {j : Json} {fs : Fields} {before : List (List ℕ)} → Memᴰ key before → RepeatsF before (field a e key j fs) a
    in_field : {a e p : ℕ} {key : List ℕ} {j : Json} {fs : Fields} {before : List (List ℕ)} → Repeats j p → RepeatsF before (field a e key j fs) p
    in_fields : {a e p : ℕ} {key : List ℕ} {j : Json} {fs : Fields} {before : List (List ℕ)} → RepeatsF (key ∷ before) fs p → RepeatsF before (field a e key j fs) p

-- p is the least place of which P holds
pub record Earliest (P : ℕ → Type 0) (p : ℕ) : Type 0 where
  pub is : P p
  pub least : (q : ℕ) → P q → p ≤ q
