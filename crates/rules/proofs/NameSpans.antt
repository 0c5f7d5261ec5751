-- Every name of a schema's definitions stands behind a quote and within its bytes.
-- The idea: names come from strings and keys, which stand within the text (`grammar` Spans); each shape of a value hands this on.
use Prim.Native.Nat.{ℕ, ◌+◌, ◌≤◌}
use Prim.Native.Char.{code}
use native.Mathlib.Omega.{arith}
use mathlib.Core.Path.{◌≡◌}
use mathlib.Core.Bool.{Bool, true, false, cond}
use mathlib.Core.List.{List, [], ◌∷◌}
use mathlib.Core.Option.{Option, none, some}
use lib.Dec.{eqb}
use lib.ListN.{length}
use Rattle.grammar.specs.Notation.{text, same}
use Rattle.grammar.specs.Tree.{Json, Items, Fields}
use Rattle.grammar.specs.Tree.Scalar.{null, bool, num, str}
use Rattle.grammar.specs.Tree.Json.{leaf, arr, obj}
use Rattle.grammar.specs.Tree.Items.{no_items, item}
use Rattle.grammar.specs.Tree.Fields.{no_fields, field}
use Rattle.grammar.specs.SchemaText.{SchemaText}
use Rattle.grammar.proofs.Spans.{Placed, PlacedItems, PlacedFields, schema-placed}
use Rattle.rules.specs.Values.{◌>>=◌, as_items, as_fields, as_flag, value_at}
use Rattle.rules.specs.Definitions.{Name, TypeText, Body, Definition, quoted, name_or, as_name, as_type, list_type, starred, keyed_member, as_member, as_pair, each_item, each_field}
use Rattle.rules.specs.Definitions.{as_names, as_members, as_pairs, as_data, may, enum_body, struct_body, union_body, alternate_body, command_body, as_definition, definitions}
use Rattle.rules.specs.Definitions.Data.{inline, named}
use Rattle.rules.specs.Serving.RawTable.{Every, IfThere, TypeNames, MemberNames, PairNames, DataNames, BodyNames, EveryName, Spans}
use Rattle.rules.proofs.Cells.{if_imply}
use Rattle.rules.proofs.DefinitionForms.{if_then, if_may, trivial, of_some, Both, if_definition}

module _ (S : List ℕ) where
  -- what a shape gives of a value that is placed has the property
  abbrev Gives : {A : Type 0} → (A → Type 0) → (Json → Option A) → Type 0
  Gives P shape = (j : Json) → Placed (length S) j → IfThere P (shape j)

  name_or_lem : {A : Type 0} (P : A → Type 0) (f : Name → A) (other : Json → Option A) → ((n : Name) → Spans S n → P (f n)) → Gives P other → Gives P (name_or f other)
  name_or_lem P f other k g (leaf a e (str cs)) (h, l) = k (quoted a e) (record { behind = omega arith; within = omega arith })
  name_or_lem P f other k g (leaf a e null) h = g (leaf a e null) h
  name_or_lem P f other k g (leaf a e (bool b)) h = g (leaf a e (bool b)) h
  name_or_lem P f other k g (leaf a e (num i t)) h = g (leaf a e (num i t)) h
  name_or_lem P f other k g (arr a e js) h = g (arr a e js) h
  name_or_lem P f other k g (obj a e fs) h = g (obj a e fs) h

  name-given : Gives (Spans S) as_name
  name-given = name_or_lem (Spans S) (λ n. n) (λ _. none) (λ n s. s) (λ j h. tt)

  -- arrays and objects
  as_items_lem : Gives (PlacedItems (length S)) as_items
  as_items_lem (leaf a e v) h = tt
  as_items_lem (arr a e js) h = h
  as_items_lem (obj a e fs) h = tt

  as_fields_lem : Gives (PlacedFields (length S)) as_fields
  as_fields_lem (leaf a e v) h = tt
  as_fields_lem (arr a e js) h = tt
  as_fields_lem (obj a e fs) h = h

  each_item_lem : {A : Type 0} (P : A → Type 0) (shape : Json → Option A) → Gives P shape → (js : Items) → PlacedItems (length S) js → IfThere (Every P) (each_item shape js)
  each_item_lem P shape g no_items h = tt
  each_item_lem P shape g (item j js) h =
      if_then P (Every P) (shape j) _ (g j h.0) (λ x p. if_then (Every P) (Every P) (each_item shape js) _ (each_item_lem P shape g js h.1) (λ xs q. (p, q)))

  -- a field whose key stands from place a to e
  abbrev GivesField : {A : Type 0} → (A → Type 0) → (ℕ → ℕ → List ℕ → Json → Option A) → Type 0
  GivesField P shape = (a e : ℕ) (key : List ℕ) (j : Json) → a + (2 + length key) ≤ e → e ≤ length S → Placed (length S) j → IfThere P (shape a e key j)

  each_field_lem : {A : Type 0} (P : A → Type 0) (shape : ℕ → ℕ → List ℕ → Json → Option A) → GivesField P shape
      → (fs : Fields) → PlacedFields (length S) fs → IfThere (Every P) (each_field shape fs)
  each_field_lem P shape g no_fields h = tt
  each_field_lem P shape g (field a e key j fs) h =
      if_then P (Every P) (shape a e key j) _ (g a e key j h.0 h.1 h.2)
      (λ x p. if_then (Every P) (Every P) (each_field shape fs) _ (each_field_lem P shape g fs h.3) (λ xs q. (p, q)))

  -- types
  list-given : (js : Items) → PlacedItems (length S) js → IfThere (TypeNames (Spans S)) (list_type js)
  list-given no_items h = tt
  list-given (item j no_items) h = if_then (Spans S) (TypeNames (Spans S)) (as_name j) _ (name-given j h.0) (λ n s. s)
  list-given (item j (item k js)) h = tt

  type-given : Gives (TypeNames (Spans S)) as_type
  type-given =
      name_or_lem (TypeNames (Spans S)) (λ n. record { name = n; list = false }) (λ j. as_items j >>= list_type) (λ n s. s)
      (λ j h. if_then (PlacedItems (length S)) (TypeNames (Spans S)) (as_items j) _ (as_items_lem j h) list-given)

  -- a key's name; a key that means `*` and more has at least three bytes
  key-given : (a e : ℕ) (key : List ℕ) (t : TypeText) → a + (2 + length key) ≤ e → e ≤ length S → TypeNames (Spans S) t → MemberNames (Spans S) (keyed_member a e (starred key) t)
  key-given a e [] t h g k = (record { behind = omega arith; within = omega arith }, k)
  key-given a e (c ∷ cs) t h g k = go (eqb c (code "*"))
    where
      go : (b : Bool) → MemberNames (Spans S) (keyed_member a e b t)
      go true = (record { behind = omega arith; within = omega arith }, k)
      go false = (record { behind = omega arith; within = omega arith }, k)

  member-given : GivesField (MemberNames (Spans S)) as_member
  member-given a e key j h g p = if_then (TypeNames (Spans S)) (MemberNames (Spans S)) (as_type j) _ (type-given j p) (λ t. key-given a e key t h g)

  pair-given : GivesField (PairNames (Spans S)) as_pair
  pair-given a e key j h g p = if_then (Spans S) (PairNames (Spans S)) (as_name j) _ (name-given j p) (λ n s. (record { behind = omega arith; within = omega arith }, s))

  names_given : Gives (Every (Spans S)) as_names
  names_given j h = if_then (PlacedItems (length S)) (Every (Spans S)) (as_items j) _ (as_items_lem j h) (each_item_lem (Spans S) as_name name-given)

  members-given : Gives (Every (MemberNames (Spans S))) as_members
  members-given j h = if_then (PlacedFields (length S)) (Every (MemberNames (Spans S))) (as_fields j) _ (as_fields_lem j h) (each_field_lem (MemberNames (Spans S)) as_member member-given)

  pairs_given : Gives (Every (PairNames (Spans S))) as_pairs
  pairs_given j h = if_then (PlacedFields (length S)) (Every (PairNames (Spans S))) (as_fields j) _ (as_fields_lem j h) (each_field_lem (PairNames (Spans S)) as_pair pair-given)

  data_given : Gives (DataNames (Spans S)) as_data
  data_given =
      name_or_lem (DataNames (Spans S)) named (λ j. as_members j >>= λ ms. some (inline ms)) (λ n s. s)
      (λ j h. if_then (Every (MemberNames (Spans S))) (DataNames (Spans S)) (as_members j) _ (members-given j h) (λ ms p. p))

  -- the value under a key
  value_there : (k : List ℕ) (fs : Fields) → PlacedFields (length S) fs → IfThere (Placed (length S)) (value_at k fs)
  value_there k no_fields h = tt
  value_there k (field a e key j fs) h = go (same key k) (value_there k fs h.3)
    where
      go : (b : Bool) → IfThere (Placed (length S)) (value_at k fs) → IfThere (Placed (length S)) (cond b (some j) (value_at k fs))
      go true p = h.2
      go false p = p

  module _ (fs : Fields) (h : PlacedFields (length S) fs) where
    abbrev Names : Body → Type 0
    Names = BodyNames (Spans S)

    must_give : {A B : Type 0} (P : A → Type 0) (Q : B → Type 0) (shape : Json → Option A) → Gives P shape → (k : List ℕ) (f : A → Option B) → ((x : A) → P x → IfThere Q (f x)) → IfThere Q (value_at k fs >>= shape >>= f)
    must_give P Q shape g k f = if_then P Q (value_at k fs >>= shape) f (if_then (Placed (length S)) P (value_at k fs) _ (value_there k fs h) g)

    may_give : {A B : Type 0} (P : A → Type 0) (Q : B → Type 0) (shape : Json → Option A) → Gives P shape → (k : List ℕ) (f : Option A → Option B) → ((x : Option A) → IfThere P x → IfThere Q (f x)) → IfThere Q (may shape (value_at k fs) >>= f)
    may_give P Q shape g k f = if_then (IfThere P) Q (may shape (value_at k fs)) f (if_may (Placed (length S)) P shape (value_at k fs) (value_there k fs h) g)

    enum-given : IfThere Names (enum_body fs)
    enum-given = must_give (Every (Spans S)) Names as_names names_given (text "data") _ (λ vs p. p)

    struct-given : IfThere Names (struct_body fs)
    struct-given =
        must_give (Every (MemberNames (Spans S))) Names as_members members-given (text "data") _ (λ ms p.
        may_give (Spans S) Names as_name name-given (text "base") _ (λ b q. (q, p)))

    union-given : IfThere Names (union_body fs)
    union-given =
        must_give (DataNames (Spans S)) Names as_data data_given (text "base") _ (λ b p.
        must_give (Spans S) Names as_name name-given (text "discriminator") _ (λ d q.
        must_give (Every (PairNames (Spans S))) Names as_pairs pairs_given (text "data") _ (λ bs r. (p, q, r))))

    alternate-given : IfThere Names (alternate_body fs)
    alternate-given = must_give (Every (PairNames (Spans S))) Names as_pairs pairs_given (text "data") _ (λ alts p. p)

    command-given : IfThere Names (command_body fs)
    command-given =
        may_give (DataNames (Spans S)) Names as_data data_given (text "data") _ (λ a p.
        may_give (TypeNames (Spans S)) Names as_type type-given (text "returns") _ (λ t q.
        if_then (λ _. Unit {0}) Names (may as_flag (value_at (text "allow-oob") fs)) _ (trivial (may as_flag (value_at (text "allow-oob") fs))) (λ o r. (p, q))))

    definition_given : IfThere (Both (Spans S) Names) (as_definition fs)
    definition_given =
        if_definition fs (Spans S) Names (λ k. if_imply (Placed (length S)) (λ (j : Json). IfThere (Spans S) (as_name j)) name-given (value_at k fs) (value_there k fs h))
        enum-given struct-given union-given alternate-given command-given

  definitions-given : (js : Items) → PlacedItems (length S) js → IfThere (EveryName (Spans S)) (definitions js)
  unfolding definitions
  definitions-given =
      each_item_lem (Both (Spans S) (BodyNames (Spans S))) (λ j. as_fields j >>= as_definition)
      (λ j h. if_then (PlacedFields (length S)) (Both (Spans S) (BodyNames (Spans S))) (as_fields j) _ (as_fields_lem j h) definition_given)

-- every name of a schema's definitions stands behind a quote and within its bytes
pub names_within_lem : (S : List ℕ) (js : Items) (ds : List Definition) → SchemaText S js → definitions js ≡ some ds → EveryName (Spans S) ds
names_within_lem S js ds t p = of_some (EveryName (Spans S)) (definitions js) (definitions-given S js (schema-placed t)) p
