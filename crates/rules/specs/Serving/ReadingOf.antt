-- Serves proofs and evaluated cases: the reading as a function. Nobody has to believe it; proofs/ shows that in a sound table it gives what the rules allow.
use Rattle.std.specs.Prelude.{ℕ, zero, suc, ◌-◌, Bool, false, cond, not, ◌&&◌, ◌||◌, List, [], ◌∷◌, ◌++◌, eqb, ltb, leb}
use Rattle.std.proofs.Math.Option.{Option, none, some}
use Rattle.grammar.specs.Limits.{chain_structs}
use Rattle.grammar.specs.Notation.{same, all}
use Rattle.grammar.specs.Tree.{Scalar, Json, Items, Fields, Kind, kind_of}
use Rattle.grammar.specs.Tree.Scalar.{null, bool, num, str}
use Rattle.grammar.specs.Tree.Json.{leaf, arr, obj}
use Rattle.grammar.specs.Tree.Items.{no_items, item}
use Rattle.grammar.specs.Tree.Fields.{no_fields, field}
use Rattle.grammar.specs.Keys.{keys_of}
use Rattle.rules.specs.Types.{first_row, is_built_in, built_in_takes, same_kind}
use Rattle.rules.specs.Values.{as_string, value_at, any_of}
use Rattle.rules.specs.Rows.{is_enum, is_struct, is_union, is_alternate, type_ref, array_mark, optional, union_base, discriminator, branch_struct, children, members, name_of, type_kind}
use Rattle.rules.specs.Rules.{is, names_of}
use Rattle.rules.specs.SchemaTable.{member_in}
use Rattle.rules.specs.Readings.{Typed, typed}

-- a value's record and then the readings inside it; the readings of one value and then of those after it
abbrev pub under : Typed → Option (List Typed) → Option (List Typed)
under t none = none
under t (some ts) = some (t ∷ ts)

abbrev pub then : Option (List Typed) → Option (List Typed) → Option (List Typed)
then none us = none
then (some ts) none = none
then (some ts) (some us) = some (ts ++ us)

abbrev pub append : Option (List ℕ) → Option (List ℕ) → Option (List ℕ)
append none bs = none
append (some ms) none = none
append (some ms) (some bs) = some (ms ++ bs)

-- the first alternative of the JSON kind k, as a type reference
abbrev pub of_kind : List ℕ → Kind → List ℕ → Option ℕ
of_kind T k [] = none
of_kind T k (c ∷ cs) = cond (is (type_kind T (type_ref T c)) (λ j. same_kind j k)) (some (type_ref T c)) (of_kind T k cs)

pub data TypeChoice : Type 0 where
  direct missing : TypeChoice
  alternative : ℕ → TypeChoice

abbrev pub from_alternatives : Option ℕ → TypeChoice
from_alternatives none = missing
from_alternatives (some t) = alternative t

abbrev pub target : TypeChoice → ℕ → ℕ
target direct t = t
target missing t = 0
target (alternative u) t = u

abbrev pub ended : TypeChoice → Typed → Option (List Typed) → Option (List Typed)
ended direct x ts = ts
ended missing x ts = none
ended (alternative u) x ts = under x ts

-- at a built-in the value alone, by grid and range; else what is read there
abbrev pub built_in_or : Json → ℕ → ℕ → Option (List Typed) → Option (List Typed)
built_in_or j t f other = cond (eqb f 0 && is_built_in t) (cond (built_in_takes t j) (some (typed j t f ∷ [])) none) other

abbrev pub rows_in : Option (List ℕ) → List ℕ
rows_in none = []
rows_in (some ms) = ms

abbrev pub found : ℕ → Option (List Typed) → Option (List Typed)
found zero ts = none
found (suc m) ts = ts

module _ (S T : List ℕ) where
  -- a string that is a value of an enum
  unfoldable pub enum_has : ℕ → Scalar → Bool
  enum_has t v =
      leb first_row t && is_enum T (t - first_row) && is_one v
    where
      is_one : Scalar → Bool
      is_one null = false
      is_one (bool b) = false
      is_one (num i token) = false
      is_one (str cs) = any_of (names_of S T (children T (t - first_row))) cs

  -- the struct link of the branch that a name chooses, 0 if none
  abbrev pub branch_link : List ℕ → List ℕ → ℕ
  branch_link cs [] = 0
  branch_link cs (b ∷ bs) = cond (same cs (name_of S T b)) (branch_struct T b) (branch_link cs bs)

  abbrev pub chosen : ℕ → Option Json → Option (List ℕ)
  chosen r none = none
  chosen r (some j) = elim (as_string j) [ none ↦ none | some cs ↦ members T chain_structs (branch_link cs (children T r)) ]

  -- the members that an object has at a type: those of a struct, or of a union's base and branch; reference 0 has none
  unfoldable pub members_at : ℕ → Fields → Option (List ℕ)
  members_at t fs =
      cond (eqb t 0) (some [])
      (cond (ltb t first_row) none
      (cond (is_struct T (t - first_row)) (members T chain_structs (suc (t - first_row)))
      (cond (is_union T (t - first_row))
      (append (members T chain_structs (union_base T (t - first_row))) (chosen (t - first_row) (value_at (name_of S T (discriminator T (t - first_row) - 1)) fs))) none)))

  abbrev pub mandatory_there : List ℕ → Fields → Bool
  mandatory_there ms fs = all (λ m. not (eqb (optional T m) 0) || any_of (keys_of fs) (name_of S T m)) ms

  -- by which type a value of kind k is read: the one given, or an alternate's alternative of that kind
  unfoldable pub type_choice : Kind → ℕ → ℕ → TypeChoice
  type_choice k t f = cond (eqb f 0 && leb first_row t && is_alternate T (t - first_row)) (from_alternatives (of_kind T k (children T (t - first_row)))) direct

module _ (passes : Bool) (S T : List ℕ) where
  abbrev mutual
    -- at a type that is no alternate
    pub plain_reading : Json → ℕ → ℕ → Option (List Typed)
    plain_reading (leaf a e v) t f = built_in_or (leaf a e v) t f (cond (eqb f 0 && enum_has S T t v) (some (typed (leaf a e v) t f ∷ [])) none)
    plain_reading (arr a e js) t f = built_in_or (arr a e js) t f (cond (eqb f 1) (under (typed (arr a e js) t f) (items_reading js t)) none)
    plain_reading (obj a e fs) t f =
        built_in_or (obj a e fs) t f
        (cond (eqb f 0 && is (members_at S T t fs) (λ ms. mandatory_there S T ms fs)) (under (typed (obj a e fs) t f) (fields_reading fs (rows_in (members_at S T t fs)))) none)

    pub items_reading : Items → ℕ → Option (List Typed)
    items_reading no_items t = some []
    items_reading (item j js) t = then (ended (type_choice S T (kind_of j) t 0) (typed j t 0) (plain_reading j (target (type_choice S T (kind_of j) t 0) t) 0)) (items_reading js t)

    pub fields_reading : Fields → List ℕ → Option (List Typed)
    fields_reading no_fields ms = some []
    fields_reading (field a e key j fs) ms =
        let m = member_in S T key ms - 1 in
        let v = type_choice S T (kind_of j) (type_ref T m) (array_mark T m) in
        found (member_in S T key ms) (then (ended v (typed j (type_ref T m) (array_mark T m)) (plain_reading j (target v (type_ref T m)) (array_mark T m))) (fields_reading fs ms))

  -- the reading of a value at the type reference t, as an array of it where f is 1
  abbrev pub reading_of : Json → ℕ → ℕ → Option (List Typed)
  reading_of j t f = ended (type_choice S T (kind_of j) t f) (typed j t f) (plain_reading j (target (type_choice S T (kind_of j) t f) t) f)
