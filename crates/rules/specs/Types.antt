-- Reference, Types: the built-in types, the JSON kinds that they take, and the ranges of the integer types.
use Rattle.std.specs.Prelude.{ℕ, suc, ◌-◌, ◌^◌, Bool, true, false, cond, ◌&&◌, List, [], ◌∷◌, map, eqb, ltb, leb, get_or, length}
use Rattle.std.proofs.Math.Option.{Option, none, some}
use Rattle.grammar.specs.Notation.{text}
use Rattle.grammar.specs.Tree.{Scalar, Json, Kind, kind_of}
use Rattle.grammar.specs.Tree.Scalar.{null, bool, num, str}
use Rattle.grammar.specs.Tree.Json.{leaf, arr, obj}
use Rattle.grammar.specs.Tree.Kind.{object, array, string, number, boolean, null_kind}
use Rattle.grammar.specs.Integers.{negative, unsigned_part, decimal}

-- the built-ins' names, by number from 1 on
abbrev pub built_ins : List (List ℕ)
built_ins =
    text "str" ∷ text "number" ∷ text "int" ∷ text "int8" ∷ text "int16" ∷ text "int32" ∷ text "int64" ∷ text "uint8"
    ∷ text "uint16" ∷ text "uint32" ∷ text "uint64" ∷ text "size" ∷ text "bool" ∷ text "null" ∷ text "any" ∷ []

-- Reference, Rows: a type reference from here on is to a row; from 1 on those below are to built-ins
abbrev pub first_row : ℕ
first_row = suc (length built_ins)

abbrev pub is_built_in : ℕ → Bool
is_built_in t = ltb 0 t && ltb t first_row

-- the built-in of all strings, and the last one, which takes every value
abbrev pub str_type : ℕ
str_type = 1

abbrev pub any_type : ℕ
any_type = length built_ins

-- the one JSON kind of each built-in; `any` has none of its own
abbrev pub built_in_kinds : List (Option Kind)
built_in_kinds =
    some string ∷ some number ∷ some number ∷ some number ∷ some number ∷ some number ∷ some number ∷ some number
    ∷ some number ∷ some number ∷ some number ∷ some number ∷ some boolean ∷ some null_kind ∷ none ∷ []

-- the grid's columns
abbrev pub column : Kind → ℕ
column object = 0
column array = 1
column string = 2
column number = 3
column boolean = 4
column null_kind = 5

abbrev pub same_kind : Kind → Kind → Bool
same_kind j k = eqb (column j) (column k)

abbrev pub takes_kind : Option Kind → Kind → Bool
takes_kind none k = true
takes_kind (some j) k = same_kind j k

-- the grid: a row for each built-in, of 6 JSON kinds
abbrev pub grid : List (List Bool)
grid = map (λ (k : Option Kind). map (takes_kind k) (object ∷ array ∷ string ∷ number ∷ boolean ∷ null_kind ∷ [])) built_in_kinds

-- built-in number b takes the JSON kind k; no other number takes any
unfoldable pub takes : ℕ → Kind → Bool
takes b k = get_or (get_or ([] ∷ grid) b []) (column k) false

-- the integers from -low to high
pub record Range : Type 0 where
  pub low : ℕ
  pub high : ℕ

abbrev pub signed_range : ℕ → Option Range
signed_range bits = some (record { low = 2 ^ (bits - 1); high = 2 ^ (bits - 1) - 1 })

abbrev pub unsigned_range : ℕ → Option Range
unsigned_range bits = some (record { low = 0; high = 2 ^ bits - 1 })

-- the range of each built-in's C type: int is as int64, size as uint64; the others have none
abbrev pub ranges : List (Option Range)
ranges =
    none ∷ none ∷ signed_range 64 ∷ signed_range 8 ∷ signed_range 16 ∷ signed_range 32 ∷ signed_range 64 ∷ unsigned_range 8
    ∷ unsigned_range 16 ∷ unsigned_range 32 ∷ unsigned_range 64 ∷ unsigned_range 64 ∷ none ∷ none ∷ none ∷ []

-- the exact value of the token, never the value wrapped
unfoldable pub in_range : Range → List ℕ → Bool
in_range r token = leb (decimal 0 (unsigned_part token)) (cond (negative token) r.low r.high)

-- a type with a range takes integers within it; one without takes any number token
abbrev pub number_fits : Option Range → Bool → List ℕ → Bool
number_fits none integer token = true
number_fits (some r) integer token = integer && in_range r token

abbrev pub scalar_in_range : ℕ → Scalar → Bool
scalar_in_range b null = true
scalar_in_range b (bool v) = true
scalar_in_range b (num integer token) = number_fits (get_or (none ∷ ranges) b none) integer token
scalar_in_range b (str cs) = true

-- only number tokens have a range to keep
abbrev pub value_in_range : ℕ → Json → Bool
value_in_range b (leaf a e v) = scalar_in_range b v
value_in_range b (arr a e js) = true
value_in_range b (obj a e fs) = true

-- Reference, Readings and records, a built-in: grid and range
unfoldable pub built_in_takes : ℕ → Json → Bool
built_in_takes b j = takes b (kind_of j) && value_in_range b j
