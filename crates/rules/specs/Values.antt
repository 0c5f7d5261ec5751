-- Taking trees apart: notation for the rules on schemas and messages. No rule of the reference stands here.
use Rattle.std.specs.Prelude.{ℕ, Bool, false, cond, ◌||◌, List, [], ◌∷◌}
use Rattle.std.proofs.Math.Option.{Option, none, some}
use Rattle.grammar.specs.Notation.{same}
use Rattle.grammar.specs.Tree.{Scalar, Json, Items, Fields}
use Rattle.grammar.specs.Tree.Scalar.{null, bool, num, str}
use Rattle.grammar.specs.Tree.Json.{leaf, arr, obj}
use Rattle.grammar.specs.Tree.Fields.{no_fields, field}

-- what follows, where there is a value
infixl 20 ◌>>=◌
abbrev pub ◌>>=◌ : {A B : Type 0} → Option A → (A → Option B) → Option B
◌>>=◌ none f = none
◌>>=◌ (some a) f = f a

-- what a value gives, or the default if it is absent
abbrev pub if_absent : {A B : Type 0} → B → (A → B) → Option A → B
if_absent default f none = default
if_absent default f (some a) = f a

-- a value of one shape: an array, an object, a flag, a string
abbrev pub as_items : Json → Option Items
as_items (leaf a e v) = none
as_items (arr a e js) = some js
as_items (obj a e fs) = none

abbrev pub as_fields : Json → Option Fields
as_fields (leaf a e v) = none
as_fields (arr a e js) = none
as_fields (obj a e fs) = some fs

abbrev pub scalar_flag : Scalar → Option Bool
scalar_flag null = none
scalar_flag (bool b) = some b
scalar_flag (num i t) = none
scalar_flag (str cs) = none

abbrev pub as_flag : Json → Option Bool
as_flag (leaf a e v) = scalar_flag v
as_flag (arr a e js) = none
as_flag (obj a e fs) = none

abbrev pub scalar_string : Scalar → Option (List ℕ)
scalar_string null = none
scalar_string (bool b) = none
scalar_string (num i t) = none
scalar_string (str cs) = some cs

abbrev pub as_string : Json → Option (List ℕ)
as_string (leaf a e v) = scalar_string v
as_string (arr a e js) = none
as_string (obj a e fs) = none

-- the value under a key
abbrev pub value_at : List ℕ → Fields → Option Json
value_at k no_fields = none
value_at k (field a e key j fs) = cond (same key k) (some j) (value_at k fs)

-- it is one of these
abbrev pub any_of : List (List ℕ) → List ℕ → Bool
any_of [] k = false
any_of (x ∷ xs) k = same k x || any_of xs k
