-- Each row of a definition comes from a node of its own: a definition has at most as many rows as its value has nodes.
-- A tree's size is the number of its nodes; each shape of a value bounds what it says by that; two keys have values apart.
use Prim.Native.Nat.{ℕ, suc, ◌+◌, ◌≤◌, ◌<◌}
use native.Mathlib.Omega.{arith}
use mathlib.Core.Path.{◌≡◌, refl, ap, ◌∙◌}
use mathlib.Core.Bool.{Bool, true, false, cond}
use mathlib.Core.List.{List, ◌∷◌}
use mathlib.Core.Option.{Option, none, some}
use lib.ListN.{length}
use Rattle.grammar.specs.Notation.{text, same}
use Rattle.grammar.specs.Tree.{Json, Items, Fields, start_of, end_of, kind_of}
use Rattle.grammar.specs.Tree.Json.{leaf, arr, obj}
use Rattle.grammar.specs.Tree.Items.{no_items, item}
use Rattle.grammar.specs.Tree.Fields.{no_fields, field}
use Rattle.grammar.specs.Tree.Kind.{string}
use Rattle.grammar.specs.Serving.Machine.Schema.{schema}
use Rattle.grammar.proofs.Booleans.{clash, none-not-some, some_is}
use Rattle.grammar.proofs.Lists.{same_true}
use Rattle.text.specs.Nodes.{next, Holds, HoldsItems, HoldsFields}
use Rattle.rules.specs.Types.{same_kind}
use Rattle.rules.specs.Definitions.{Member, Data, Body, Definition, quoted, as_name, as_type, as_member, as_pair, each_item, each_field, as_names, as_members, as_pairs, as_data, may}
use Rattle.rules.specs.Definitions.{enum_body, struct_body, union_body, alternate_body, command_body, as_definition}
use Rattle.rules.specs.Definitions.Data.{inline, named}
use Rattle.rules.specs.Values.{◌>>=◌, as_items, as_fields, as_flag, value_at}
use Rattle.rules.specs.SchemaTable.{inline_members, inline_rows, rows_taken}
use Rattle.rules.specs.Serving.RawTable.{IfThere}
use Rattle.rules.proofs.Cells.{if_imply}
use Rattle.rules.proofs.DefinitionForms.{if_then, trivial, itself, of_some, Both, if_definition}

abbrev mutual
  pub size : Json → ℕ
  size (leaf a e v) = 1
  size (arr a e js) = suc (size_i js)
  size (obj a e fs) = suc (size_f fs)

  pub size_i : Items → ℕ
  size_i no_items = 0
  size_i (item j js) = size j + size_i js

  pub size_f : Fields → ℕ
  size_f no_fields = 0
  size_f (field a e key j fs) = suc (size j + size_f fs)

-- nodes that hold a tree are as many as its size
module _ (s w : List ℕ) where
  mutual
    pub value-ends : (j : Json) (l k : ℕ) → Holds schema s w j l k → next w k ≡ k + size j
    value-ends (leaf a e v) l k h = omega (arith, h.1)
    value-ends (arr a e js) l k h = omega (arith, items-end js _ (suc k) (next w k) h.3)
    value-ends (obj a e fs) l k h = omega (arith, fields-end fs _ (suc k) (next w k) h.3)

    items-end : (js : Items) (l k n : ℕ) → HoldsItems schema s w js l k n → n ≡ k + size_i js
    items-end no_items l k n h = omega (arith, h)
    items-end (item j js) l k n h = omega (arith, value-ends j l k h.1, items-end js l (next w k) n h.2)

    fields-end : (fs : Fields) (l k n : ℕ) → HoldsFields schema s w fs l k n → n ≡ k + size_f fs
    fields-end no_fields l k n h = omega (arith, h)
    fields-end (field a e cs j fs) l k n h = omega (arith, value-ends j l (suc k) h.3, h.4, fields-end fs l (next w k) n h.5)

size-some : (j : Json) → 0 < size j
size-some (leaf a e v) = omega arith
size-some (arr a e js) = omega arith
size-some (obj a e fs) = omega arith

-- what there is has at most n rows, of so many each
abbrev AtMost : {A : Type 0} → (A → ℕ) → ℕ → Option A → Type 0
AtMost rows n o = IfThere (λ x. rows x ≤ n) o

-- a list and the row before it
abbrev list_rows : {A : Type 0} → List A → ℕ
list_rows xs = suc (length xs)

one_more : {A : Type 0} (m n : ℕ) (x : Option A) (y : Option (List A)) → m < n → AtMost list_rows m y → AtMost list_rows n (x >>= λ a. y >>= λ l. some (a ∷ l))
one_more m n none y l h = tt
one_more m n (some a) none l h = tt
one_more m n (some a) (some xs) l h = omega arith

few-items : {A : Type 0} (shape : Json → Option A) (js : Items) → AtMost list_rows (suc (size_i js)) (each_item shape js)
few-items shape no_items = omega arith
few-items shape (item j js) = one_more (suc (size_i js)) (suc (size j + size_i js)) (shape j) (each_item shape js) (omega (arith, size-some j)) (few-items shape js)

few-fields : {A : Type 0} (shape : ℕ → ℕ → List ℕ → Json → Option A) (fs : Fields) → AtMost list_rows (suc (size_f fs)) (each_field shape fs)
few-fields shape no_fields = omega arith
few-fields shape (field a e key j fs) =
    one_more (suc (size_f fs)) (suc (suc (size j + size_f fs))) (shape a e key j) (each_field shape fs) (omega arith) (few-fields shape fs)

in_array : {A : Type 0} (shape : Json → Option A) (j : Json) → AtMost list_rows (size j) (as_items j >>= each_item shape)
in_array shape (leaf a e v) = tt
in_array shape (arr a e js) = few-items shape js
in_array shape (obj a e fs) = tt

in_object : {A : Type 0} (shape : ℕ → ℕ → List ℕ → Json → Option A) (j : Json) → AtMost list_rows (size j) (as_fields j >>= each_field shape)
in_object shape (leaf a e v) = tt
in_object shape (arr a e js) = tt
in_object shape (obj a e fs) = few-fields shape fs

abbrev data_rows : Data → ℕ
data_rows d = inline_rows (inline_members d)

data_in : (j : Json) → AtMost data_rows (size j) (as_data j)
data_in j = go (same_kind (kind_of j) string)
  where
    go : (b : Bool) → AtMost data_rows (size j) (cond b (some (named (quoted (start_of j) (end_of j)))) (as_members j >>= λ ms. some (inline ms)))
    go true = omega arith
    go false = if_then (λ (ms : List Member). list_rows ms ≤ size j) (λ (d : Data). data_rows d ≤ size j) (as_members j) _ (in_object as_member j) (λ ms h. h)

-- the value under a key, and those under two keys that differ
value_in : (a : List ℕ) (fs : Fields) {j : Json} → value_at a fs ≡ some j → size j < size_f fs
value_in a no_fields e = none-not-some e
value_in a (field x y key v fs) {j} e = go (value_in a fs) (same key a) e
  where
    go : (value_at a fs ≡ some j → size j < size_f fs) → (t : Bool) → cond t (some v) (value_at a fs) ≡ some j → size j < suc (size v + size_f fs)
    go f true q = let z = ap size (some_is q) in omega arith
    go f false q = let z = f q in omega arith

two_in : (a b : List ℕ) → same a b ≡ false → (fs : Fields) {i j : Json} → value_at a fs ≡ some i → value_at b fs ≡ some j → size i + size j < size_f fs
two_in a b d no_fields e h = none-not-some e
two_in a b d (field x y key v fs) {i} {j} e h = go (λ e h. two_in a b d fs e h) (same key a) (same key b) refl refl e h
  where
    go : (value_at a fs ≡ some i → value_at b fs ≡ some j → size i + size j < size_f fs) → (p q : Bool) → same key a ≡ p → same key b ≡ q
        → cond p (some v) (value_at a fs) ≡ some i → cond q (some v) (value_at b fs) ≡ some j → size i + size j < suc (size v + size_f fs)
    go f true true m n e h = clash n (ap (λ (k : List ℕ). same k b) (same_true key a m) ∙ d)
    go f true false m n e h = let z = ap size (some_is e) in omega (arith, value_in b fs h)
    go f false true m n e h = let z = ap size (some_is h) in omega (arith, value_in a fs e)
    go f false false m n e h = let z = f e h in omega arith

-- so many rows come of the value under a key
record Under (fs : Fields) (k : List ℕ) (n : ℕ) : Type 0 where
  pub value : Json
  pub is : value_at k fs ≡ some value
  pub few : n ≤ size value

-- the rows of each body, out of the fields
module _ (fs : Fields) where
  abbrev Few : Body → Type 0
  Few b = rows_taken b ≤ suc (size_f fs)

  must-few : {A : Type 0} (rows : A → ℕ) (shape : Json → Option A) → ((j : Json) → AtMost rows (size j) (shape j)) → (k : List ℕ) (body : A → Option Body)
      → ((x : A) → Under fs k (rows x) → IfThere Few (body x)) → IfThere Few (value_at k fs >>= shape >>= body)
  must-few {A} rows shape g k body =
      if_then (λ (x : A). Under fs k (rows x)) Few (value_at k fs >>= shape) body
      (if_then (λ (j : Json). value_at k fs ≡ some j) (λ (x : A). Under fs k (rows x)) (value_at k fs) shape (itself (value_at k fs)) (λ j e.
      if_imply (λ (x : A). rows x ≤ size j) (λ (x : A). Under fs k (rows x)) (λ x h. record { value = j; is = e; few = h }) (shape j) (g j)))

  any-few : {A : Type 0} (o : Option A) (body : A → Option Body) → ((x : A) → IfThere Few (body x)) → IfThere Few (o >>= body)
  any-few o body g = if_then (λ _. Unit {0}) Few o body (trivial o) (λ x _. g x)

  enum-few : IfThere Few (enum_body fs)
  enum-few = must-few list_rows as_names (in_array as_name) (text "data") _ (λ vs u. omega (arith, u.few, value_in (text "data") fs u.is))

  struct-few : IfThere Few (struct_body fs)
  struct-few =
      must-few list_rows as_members (in_object as_member) (text "data") _ (λ ms u.
      any-few (may as_name (value_at (text "base") fs)) _ (λ b. omega (arith, u.few, value_in (text "data") fs u.is)))

  union-few : IfThere Few (union_body fs)
  union-few =
      must-few data_rows as_data data_in (text "base") _ (λ b u.
      any-few (value_at (text "discriminator") fs >>= as_name) _ (λ d.
      must-few list_rows as_pairs (in_object as_pair) (text "data") _ (λ bs v. omega (arith, u.few, v.few, two_in (text "base") (text "data") refl fs u.is v.is))))

  alternate-few : IfThere Few (alternate_body fs)
  alternate-few = must-few list_rows as_pairs (in_object as_pair) (text "data") _ (λ alts u. omega (arith, u.few, value_in (text "data") fs u.is))

  data_few : (k : List ℕ) → AtMost (λ (a : Option Data). inline_rows (a >>= inline_members)) (size_f fs) (may as_data (value_at k fs))
  data_few k = go (value_at k fs) refl
    where
      go : (o : Option Json) → value_at k fs ≡ o → AtMost (λ (a : Option Data). inline_rows (a >>= inline_members)) (size_f fs) (may as_data o)
      go none e = omega arith
      go (some j) e =
          if_then (λ (d : Data). data_rows d ≤ size j) (λ (a : Option Data). inline_rows (a >>= inline_members) ≤ size_f fs) (as_data j) _ (data_in j)
          (λ d (h : data_rows d ≤ size j). omega (arith, value_in k fs e))

  command-few : IfThere Few (command_body fs)
  command-few =
      if_then (λ (a : Option Data). inline_rows (a >>= inline_members) ≤ size_f fs) Few (may as_data (value_at (text "data") fs)) _ (data_few (text "data")) (λ a (h : inline_rows (a >>= inline_members) ≤ size_f fs).
      any-few (may as_type (value_at (text "returns") fs)) _ (λ t. any-few (may as_flag (value_at (text "allow-oob") fs)) _ (λ oob. omega arith)))

  pub rows_few : {d : Definition} → as_definition fs ≡ some d → rows_taken d.body ≤ suc (size_f fs)
  rows_few e =
      (of_some (Both (λ _. Unit {0}) Few) (as_definition fs)
      (if_definition fs (λ _. Unit {0}) Few (λ k. if_imply (λ _. Unit {0}) (λ (j : Json). IfThere (λ _. Unit {0}) (as_name j)) (λ j _. trivial (as_name j)) (value_at k fs) (trivial (value_at k fs)))
      enum-few struct-few union-few alternate-few command-few) e).1
