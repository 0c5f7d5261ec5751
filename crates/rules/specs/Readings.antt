-- Reference, Readings and records: the rules by which values have types. One rule of the reference, one constructor.
use Rattle.std.specs.Prelude.{ℕ, suc, ◌+◌, ◌≡◌, Bool, true, false}
use mathlib.Core.List.{List, [], ◌∷◌, ◌++◌, Memᴰ}
use Rattle.std.proofs.Math.Option.{some}
use Rattle.grammar.specs.Limits.{chain_structs}
use Rattle.grammar.specs.Tree.{Json, Items, Fields, start_of, end_of}
use Rattle.grammar.specs.Tree.Scalar.{str}
use Rattle.grammar.specs.Tree.Json.{leaf, arr, obj}
use Rattle.grammar.specs.Tree.Items.{no_items, item}
use Rattle.grammar.specs.Tree.Fields.{no_fields, field}
use Rattle.rules.specs.Kinds.{enum_kind, struct_kind, union_kind, alternate_kind}
use Rattle.rules.specs.Types.{first_row, built_in_takes}
use Rattle.rules.specs.Values.{value_at}
use Rattle.rules.specs.Rows.{kind, type_ref, array_mark, optional, union_base, discriminator, branch_struct, children, members, name_of}

-- a value and the type that a reading gives it: a type reference, and 1 if it is an array of that
pub record Typed : Type 0 where
  pub value : Json
  pub ref : ℕ
  pub array : ℕ

abbrev pub typed : Json → ℕ → ℕ → Typed
typed j t f = record { value = j; ref = t; array = f }

-- its record: start, end, type reference, 1 if array
abbrev pub record_of : Typed → List ℕ
record_of t = start_of t.value ∷ end_of t.value ∷ t.ref ∷ t.array ∷ []

abbrev pub records_of : List Typed → List ℕ
records_of [] = []
records_of (t ∷ ts) = record_of t ++ records_of ts

module _ (S T : List ℕ) where
  -- every mandatory one of the members ms is there
  abbrev pub Mandatory : List ℕ → Fields → Type 0
  Mandatory ms fs = (m : ℕ) → Memᴰ m ms → optional T m ≡ 0 → (j : Json) × (value_at (name_of S T m) fs ≡ some j)

  -- the members that the discriminator's value adds to those of the union at row r
  pub data Branch (r : ℕ) (fs : Fields) : List ℕ → Type 0 where
    branch : {d a e b : ℕ} {cs bs : List ℕ} → discriminator T r ≡ suc d → value_at (name_of S T d) fs ≡ some (leaf a e (str cs))
        → Memᴰ b (children T r) → name_of S T b ≡ cs → members T chain_structs (branch_struct T b) ≡ some bs → Branch r fs bs
    no_branch : {d a e : ℕ} {cs : List ℕ} → discriminator T r ≡ suc d → value_at (name_of S T d) fs ≡ some (leaf a e (str cs))
        → ((b : ℕ) → Memᴰ b (children T r) → name_of S T b ≡ cs → ⊥) → Branch r fs []

-- Whether a key that no member has is passed over, or leaves no reading. A command's arguments are read strictly, and no rule passes a key yet.
abbrev pub strict : Bool
strict = false

module _ (passes : Bool) (S T : List ℕ) where
  mutual
    -- Reads j t f ts: at the type reference t, as an array of it where f is 1, the value j has the reading ts
    pub data Reads : Json → ℕ → ℕ → List Typed → Type 0 where
      -- Built-in: grid and range, whatever the value's JSON kind; no records inside
      built_in : {j : Json} {t : ℕ} → built_in_takes t j ≡ true → Reads j t 0 (typed j t 0 ∷ [])
      -- Enum: a string equal to a value
      enum : {a e t v : ℕ} {cs : List ℕ} (r : ℕ) → t ≡ first_row + r → kind T r ≡ enum_kind → Memᴰ v (children T r) → name_of S T v ≡ cs
          → Reads (leaf a e (str cs)) t 0 (typed (leaf a e (str cs)) t 0 ∷ [])
      -- Struct: every key a member, every mandatory member there, each value read at its type
      struct : {a e t : ℕ} {fs : Fields} {ms : List ℕ} {ts : List Typed} (r : ℕ) → t ≡ first_row + r → kind T r ≡ struct_kind → members T chain_structs (suc r) ≡ some ms
          → Mandatory S T ms fs → ReadsFields ms fs ts → Reads (obj a e fs) t 0 (typed (obj a e fs) t 0 ∷ ts)
      -- Reference 0, of a command without data: as a struct with no members
      no_type : {a e : ℕ} {fs : Fields} {ts : List Typed} → ReadsFields [] fs ts → Reads (obj a e fs) 0 0 (typed (obj a e fs) 0 0 ∷ ts)
      -- Union: as a struct over the base's members and those of the branch
      union : {a e t : ℕ} {fs : Fields} {ms bs ns : List ℕ} {ts : List Typed} (r : ℕ) → t ≡ first_row + r → kind T r ≡ union_kind → members T chain_structs (union_base T r) ≡ some ms
          → Branch S T r fs bs → ns ≡ ms ++ bs → Mandatory S T ns fs → ReadsFields ns fs ts → Reads (obj a e fs) t 0 (typed (obj a e fs) t 0 ∷ ts)
      -- Alternate: its record, then an alternative's
      alternate : {j : Json} {t c : ℕ} {ts : List Typed} (r : ℕ) → t ≡ first_row + r → kind T r ≡ alternate_kind → Memᴰ c (children T r)
          → Reads j (type_ref T c) 0 ts → Reads j t 0 (typed j t 0 ∷ ts)
      -- Array: each element read at the element type
      array : {a e t : ℕ} {js : Items} {ts : List Typed} → ReadsItems js t ts → Reads (arr a e js) t 1 (typed (arr a e js) t 1 ∷ ts)

    pub data ReadsItems : Items → ℕ → List Typed → Type 0 where
      no_item : {t : ℕ} → ReadsItems no_items t []
      one_item : {t : ℕ} {j : Json} {js : Items} {ts us vs : List Typed} → Reads j t 0 ts → ReadsItems js t us → vs ≡ ts ++ us → ReadsItems (item j js) t vs

    -- the fields in message order, each a member of ms
    pub data ReadsFields : List ℕ → Fields → List Typed → Type 0 where
      no_field : {ms : List ℕ} → ReadsFields ms no_fields []
      one_field : {a e m : ℕ} {key ms : List ℕ} {j : Json} {fs : Fields} {ts us vs : List Typed} → Memᴰ m ms → name_of S T m ≡ key
          → Reads j (type_ref T m) (array_mark T m) ts → ReadsFields ms fs us → vs ≡ ts ++ us → ReadsFields ms (field a e key j fs) vs
