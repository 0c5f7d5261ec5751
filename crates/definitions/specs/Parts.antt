-- Serves contracts: the rows of the parts of a definition, as functions of the trees that the nodes hold; no rows where the table of keys is broken.
use Rattle.std.specs.Prelude.{ℕ, suc, ◌+◌, ◌≤◌, ◌≡◌, Bool, true, cond, List, [], ◌∷◌, ◌++◌, map, eqb, length, get_or, set, Some, None}
use Rattle.std.specs.Prelude as Std
use Rattle.std.proofs.Math.Option.{Option, none, some}
use Rattle.grammar.specs.Limits.{schema_bytes}
use Rattle.grammar.specs.Notation.{text, same, apart}
use Rattle.grammar.specs.Tree.{Json, Fields}
use Rattle.grammar.specs.Keys.{keys_of, keys_once}
use Rattle.grammar.specs.Serving.Machine.Schema.{schema}
use Rattle.text.specs.Nodes.{next, HoldsFields}
use Rattle.lookups.specs.Lookups.{FindsValue}
use Rattle.rules.specs.Kinds.{enum_kind, value_kind, struct_kind, member_kind, union_kind, alternate_kind, command_kind}
use Rattle.rules.specs.Definitions.{Name, Member, Data, Pair, Body, Definition, as_name, as_member, as_pair, as_names, as_members, as_pairs, as_data, must, may, only}
use Rattle.rules.specs.Definitions.{enum_body, struct_body, union_body, alternate_body, command_body, as_definition}
use Rattle.rules.specs.Definitions.Body.{union}
use Rattle.rules.specs.Values.{◌>>=◌, if_absent, as_fields}
use Rattle.rules.specs.SchemaTable.{inline_members, row, concat, flag, list_flag, type_of, data_link, inline_struct, rows_of}
use Rattle.rules.specs.Serving.RawTable.{packed}
use Rattle.definitions.specs.declared.definitions.KindKey.{KindKey}
use Rattle.definitions.specs.declared.shapes.TypeText as Text
use Rattle.definitions.specs.Places.{if_any, Held, Found, Keyed, Named}

-- one child: a value of an enum, a member, a branch or an alternative
abbrev pub value_row : Name → List ℕ
value_row v = row value_kind v 0 0 0 0

abbrev pub member_row : Member → List ℕ
member_row m = row member_kind m.name (type_of packed m.type) (list_flag m.type) (flag m.optional) 0

abbrev pub pair_row : ℕ → Pair → List ℕ
pair_row kind p = row kind p.name (packed p.type) 0 0 0

-- the children that a value lists, by the kind of their rows
abbrev pub child_rows : ℕ → Json → Option (List (List ℕ))
child_rows kind j =
    cond (eqb kind value_kind) (as_names j >>= λ vs. some (map value_row vs))
    (cond (eqb kind member_kind) (as_members j >>= λ ms. some (map member_row ms)) (as_pairs j >>= λ ps. some (map (pair_row kind) ps)))

pub record ValueAt (s w : List ℕ) (a : ℕ) (o : Option (List ℕ)) : Type 0 where
  pub value : Json
  pub held : Held s w value a
  pub are : o ≡ (as_name value >>= λ v. some (value_row v))

pub record FieldAt (s w : List ℕ) (f : ℕ → ℕ → List ℕ → Json → Option (List ℕ)) (a : ℕ) (o : Option (List ℕ)) : Type 0 where
  pub start : ℕ
  pub end : ℕ
  pub key : List ℕ
  pub value : Json
  pub keyed : Keyed s w a start end key
  pub held : Held s w value (suc a)
  pub are : o ≡ f start end key value

abbrev pub member_field : ℕ → ℕ → List ℕ → Json → Option (List ℕ)
member_field x e key j = as_member x e key j >>= λ m. some (member_row m)

abbrev pub pair_field : ℕ → ℕ → ℕ → List ℕ → Json → Option (List ℕ)
pair_field kind x e key j = as_pair x e key j >>= λ p. some (pair_row kind p)

pub data ChildAt (s w : List ℕ) (kind a : ℕ) (o : Option (List ℕ)) : Type 0 where
  value : kind ≡ value_kind → ValueAt s w a o → ChildAt s w kind a o
  member : kind ≡ member_kind → FieldAt s w member_field a o → ChildAt s w kind a o
  pair : (kind ≡ value_kind → ⊥) → (kind ≡ member_kind → ⊥) → FieldAt s w (pair_field kind) a o → ChildAt s w kind a o

-- the children that the value at node k lists
pub record ChildrenAt (s w : List ℕ) (kind : ℕ) (k : Std.Option ℕ) (o : Option (List ℕ)) : Type 0 where
  pub value : Option Json
  pub found : Found s w value k
  pub are : o ≡ (must (child_rows kind) value >>= λ rs. some (concat rs))

-- the word in which a row counts its children
abbrev pub count_word : ℕ
count_word = 3

-- a row that counts the children after it
abbrev pub counted_rows : List ℕ → List (List ℕ) → List ℕ
counted_rows own rs = set own count_word (length rs) ++ concat rs

-- such a row, and the children that a value lists; their kind is the next one
pub record CountedAt (s w own : List ℕ) (k : Std.Option ℕ) (o : Option (List ℕ)) : Type 0 where
  pub value : Option Json
  pub found : Found s w value k
  pub are : o ≡ (must (child_rows (get_or own 0 0 + 1)) value >>= λ rs. some (counted_rows own rs))

-- the inline struct of a base or of data, if it has one
abbrev pub inline_words : Option Data → List ℕ
inline_words d = inline_struct packed (d >>= inline_members)

pub record InlineAt (s w : List ℕ) (k : Std.Option ℕ) (o : Option (List ℕ)) : Type 0 where
  pub value : Option Json
  pub found : Found s w value k
  pub are : o ≡ (may as_data value >>= λ d. some (inline_words d))

-- the rows of a definition at row n
abbrev pub body_rows : ℕ → Name → Body → List ℕ
body_rows n name b = rows_of packed packed (λ _ m. packed m) n name b

abbrev pub rows_at : ℕ → Definition → Option (List ℕ)
rows_at n d = some (body_rows n d.name d.body)

-- the fields of the object at node k
pub record FieldsAt (s w : List ℕ) (fs : Fields) (k : ℕ) : Type 0 where
  pub small : length s ≤ schema_bytes
  pub level : ℕ
  pub holds : HoldsFields schema s w fs level (suc k) (next w k)

-- the rows of a union and of a command, out of what their keys have
pub record UnionAt (s w : List ℕ) (v b t : ℕ) (d : Std.Option ℕ) (n : ℕ) (o : Option (List ℕ)) : Type 0 where
  pub base : Json
  pub base_found : Found s w (some base) (Some b)
  pub branches : Option Json
  pub branches_found : Found s w branches d
  pub discriminator : Name
  pub discriminator_at : Named w t 0 discriminator
  pub name : Name
  pub named : Named w v 0 name
  pub are : o ≡ (as_data base >>= λ x. must as_pairs branches >>= λ ps. some (body_rows n name (union x discriminator ps)))

pub record CommandAt (s w : List ℕ) (v : ℕ) (d : Std.Option ℕ) (n : ℕ) (oob : Bool) (returns : Text.TypeText) (o : Option (List ℕ)) : Type 0 where
  pub value : Option Json
  pub found : Found s w value d
  pub name : Name
  pub named : Named w v 0 name
  pub are : o ≡ (may as_data value >>= λ x. some (row command_kind name (if_absent 0 (data_link packed n) x) (flag oob) returns.name (flag returns.list) ++ inline_words x))

-- The table of keys: a kind's own key, those that it may have beside it, and what they say.
pub record KindKeys : Type 0 where
  pub own : List ℕ
  pub others : List (List ℕ)
  pub body : Fields → Option Body

abbrev pub keys_of_kind : ℕ → KindKeys
keys_of_kind kind =
    cond (eqb kind enum_kind) (record { own = text "enum"; others = text "data" ∷ []; body = enum_body })
    (cond (eqb kind struct_kind) (record { own = text "struct"; others = text "data" ∷ text "base" ∷ []; body = struct_body })
    (cond (eqb kind union_kind) (record { own = text "union"; others = text "base" ∷ text "discriminator" ∷ text "data" ∷ []; body = union_body })
    (cond (eqb kind alternate_kind) (record { own = text "alternate"; others = text "data" ∷ []; body = alternate_body })
    (record { own = text "command"; others = text "data" ∷ text "returns" ∷ text "allow-oob" ∷ []; body = command_body }))))

-- the definition by these keys, if there is no other
abbrev pub defined : KindKeys → Fields → Name → Option Definition
defined ks fs name = only (ks.own ∷ ks.others) fs name (ks.body fs)

-- the object at node k, which repeats no key, as such a definition, whose name stands at node v; at 0 it lacks the kind's own key
pub record BodyAt (s w : List ℕ) (ks : KindKeys) (k v n : ℕ) (o : Option (List ℕ)) : Type 0 where
  pub fs : Fields
  pub fields : FieldsAt s w fs k
  pub once : apart same (keys_of fs) ≡ true
  pub own : FindsValue schema s w k ks.own (if_any v)
  pub name : Name
  pub named : Named w v 0 name
  pub are : o ≡ (defined ks fs name >>= rows_at n)

-- a definition whose kind key has the value at node v
abbrev pub kind_only : ℕ → Fields → Json → Option Definition
kind_only kind fs j = as_name j >>= defined (keys_of_kind kind) fs

pub record KindAt (s w : List ℕ) (kind k v n : ℕ) (o : Option (List ℕ)) : Type 0 where
  pub fs : Fields
  pub fields : FieldsAt s w fs k
  pub once : apart same (keys_of fs) ≡ true
  pub own : FindsValue schema s w k (keys_of_kind kind).own (if_any v)
  pub value : Json
  pub held : Held s w value v
  pub are : o ≡ (kind_only kind fs value >>= rows_at n)

-- the kind key of the object at node k
abbrev pub KindFound : List ℕ → List ℕ → ℕ → Std.Option KindKey → Type 0
KindFound s w k (Some key) = FindsValue schema s w k (keys_of_kind key.kind).own (Some key.node)
KindFound s w k None = Unit {0}

abbrev pub KindTold : List ℕ → List ℕ → Fields → Std.Option KindKey → Type 0
KindTold s w fs (Some key) = (j : Json) × Held s w j key.node × (as_definition fs ≡ kind_only key.kind fs j)
KindTold s w fs None = as_definition fs ≡ none

pub record FindsKind (s w : List ℕ) (k : ℕ) (r : Std.Option KindKey) : Type 0 where
  pub found : KindFound s w k r
  pub told : (fs : Fields) → FieldsAt s w fs k → KindTold s w fs r

-- the value at node k, which repeats no key, as a definition at row n
pub record DefinitionAt (s w : List ℕ) (k n : ℕ) (o : Option (List ℕ)) : Type 0 where
  pub value : Json
  pub held : Held s w value k
  pub once : keys_once value ≡ true
  pub are : o ≡ (as_fields value >>= as_definition >>= rows_at n)
