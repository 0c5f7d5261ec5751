-- Reference, Trees: trees with places, what a text means. Every value and every key has its start and the place one past its end.
use Rattle.std.specs.Prelude.{ℕ, Bool, List}

-- A value without brackets. Reference, Trees: a number is its token and whether that is an integer, a string means a list of code points.
pub data Scalar : Type 0 where
  null : Scalar
  bool : Bool → Scalar
  num : Bool → List ℕ → Scalar
  str : List ℕ → Scalar

mutual
  -- a value: start, end, contents
  pub data Json : Type 0 where
    leaf : ℕ → ℕ → Scalar → Json
    arr : ℕ → ℕ → Items → Json
    obj : ℕ → ℕ → Fields → Json

  pub data Items : Type 0 where
    no_items : Items
    item : Json → Items → Items

  -- a key's start, end and meaning, its value, the fields after it
  pub data Fields : Type 0 where
    no_fields : Fields
    field : ℕ → ℕ → List ℕ → Json → Fields → Fields

abbrev pub start_of : Json → ℕ
start_of (leaf a e v) = a
start_of (arr a e js) = a
start_of (obj a e fs) = a

abbrev pub end_of : Json → ℕ
end_of (leaf a e v) = e
end_of (arr a e js) = e
end_of (obj a e fs) = e

-- Reference, Trees: the six JSON kinds
pub data Kind : Type 0 where
  object array string number boolean null_kind : Kind

abbrev pub scalar_kind : Scalar → Kind
scalar_kind null = null_kind
scalar_kind (bool b) = boolean
scalar_kind (num i t) = number
scalar_kind (str cs) = string

abbrev pub kind_of : Json → Kind
kind_of (leaf a e v) = scalar_kind v
kind_of (arr a e js) = array
kind_of (obj a e fs) = object
