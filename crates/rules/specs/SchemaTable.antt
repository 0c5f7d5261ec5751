-- Reference, Table of a schema: the table that says what a schema's definitions say, row for row; and rule 7, that every name that refers finds its row.
use Rattle.std.specs.Prelude.{ℕ, zero, suc, ◌+◌, Bool, true, false, cond, ◌&&◌, List, [], ◌∷◌, ◌++◌, map, eqb, ltb, length, take, drop}
use Rattle.std.proofs.Math.Option.{Option, none, some}
use Rattle.grammar.specs.Limits.{chain_structs}
use Rattle.grammar.specs.Notation.{all}
use Rattle.rules.specs.Kinds.{enum_kind, value_kind, struct_kind, member_kind, union_kind, branch_kind, alternate_kind, alternative_kind, command_kind}
use Rattle.rules.specs.Types.{built_ins}
use Rattle.rules.specs.Names.{same_name}
use Rattle.rules.specs.Values.{◌>>=◌, if_absent}
use Rattle.rules.specs.Definitions.{Name, TypeText, Member, Data, Pair, Body, Definition}
use Rattle.rules.specs.Definitions.Data.{inline, named}
use Rattle.rules.specs.Definitions.Body.{enum, struct, union, alternate, command}
use Rattle.rules.specs.Rows.{link, link_ref, members, union_base, name_of}

-- the members that a base or data has written out, if it has; they become an inline struct
abbrev pub inline_members : Data → Option (List Member)
inline_members (inline ms) = some ms
inline_members (named n) = none

-- how many rows a definition takes: its own, its inline struct's, its children's
abbrev pub inline_rows : Option (List Member) → ℕ
inline_rows none = 0
inline_rows (some ms) = suc (length ms)

abbrev pub rows_taken : Body → ℕ
rows_taken (enum vs) = suc (length vs)
rows_taken (struct b ms) = suc (length ms)
rows_taken (union b discriminator bs) = suc (inline_rows (inline_members b) + length bs)
rows_taken (alternate alts) = suc (length alts)
rows_taken (command a t oob) = suc (inline_rows (a >>= inline_members))

-- the kind of its row; all but a command's are types
abbrev pub row_kind : Body → ℕ
row_kind (enum vs) = enum_kind
row_kind (struct b ms) = struct_kind
row_kind (union b discriminator bs) = union_kind
row_kind (alternate alts) = alternate_kind
row_kind (command a t oob) = command_kind

abbrev pub defines_struct : Body → Bool
defines_struct b = eqb (row_kind b) struct_kind

abbrev pub defines_type : Body → Bool
defines_type b = ltb (row_kind b) command_kind

-- the place of a name in a list, counted from 1; 0 if it is not there
abbrev pub later : ℕ → ℕ
later zero = 0
later (suc n) = suc (suc n)

abbrev pub place_in : List (List ℕ) → List ℕ → ℕ
place_in [] x = 0
place_in (y ∷ ys) x = cond (same_name x y) 1 (later (place_in ys x))

-- a type reference: a built-in's number, or that of a link's row
abbrev pub reference : ℕ → ℕ → ℕ
reference (suc b) link = suc b
reference zero link = link_ref link

-- one row: kind, name, words 3 to 6; word 7 is 0 in every kind
abbrev pub row : ℕ → Name → ℕ → ℕ → ℕ → ℕ → List ℕ
row k n a b c d = k ∷ n.start ∷ n.size ∷ a ∷ b ∷ c ∷ d ∷ 0 ∷ []

abbrev pub concat : List (List ℕ) → List ℕ
concat [] = []
concat (x ∷ xs) = x ++ concat xs

-- 1 if true, and 1 if a type is a list
abbrev pub flag : Bool → ℕ
flag true = 1
flag false = 0

abbrev pub list_flag : TypeText → ℕ
list_flag t = flag t.list

-- The rows, given what each name that refers becomes: the link of a struct, the reference of a type, the link of the discriminator of the union at a row.
module _ (struct_link_of : Name → ℕ) where
  -- the link of the base or the data that the definition at row r has; an inline struct's row is the next one
  abbrev pub data_link : ℕ → Data → ℕ
  data_link r (inline ms) = link (suc r)
  data_link r (named n) = struct_link_of n

module _ (type_ref_of : Name → ℕ) where
  abbrev pub type_of : TypeText → ℕ
  type_of t = type_ref_of t.name

  abbrev pub member_rows : List Member → List ℕ
  member_rows ms = concat (map (λ (m : Member). row member_kind m.name (type_of m.type) (list_flag m.type) (flag m.optional) 0) ms)

  abbrev pub inline_struct : Option (List Member) → List ℕ
  inline_struct none = []
  inline_struct (some ms) = row struct_kind (record { start = 0; size = 0 }) (length ms) 0 0 0 ++ member_rows ms

module _ (struct_link_of type_ref_of : Name → ℕ) (discriminator_link_of : ℕ → Name → ℕ) where
  -- the rows of a definition at row r, named n
  abbrev pub rows_of : ℕ → Name → Body → List ℕ
  rows_of r n (enum vs) = row enum_kind n (length vs) 0 0 0 ++ concat (map (λ (v : Name). row value_kind v 0 0 0 0) vs)
  rows_of r n (struct b ms) = row struct_kind n (length ms) (if_absent 0 struct_link_of b) 0 0 ++ member_rows type_ref_of ms
  rows_of r n (union b discriminator bs) =
      row union_kind n (data_link struct_link_of r b) (length bs) (discriminator_link_of r discriminator) 0 ++ inline_struct type_ref_of (inline_members b) ++ concat (map (λ (p : Pair). row branch_kind p.name (struct_link_of p.type) 0 0 0) bs)
  rows_of r n (alternate alts) = row alternate_kind n (length alts) 0 0 0 ++ concat (map (λ (p : Pair). row alternative_kind p.name (type_ref_of p.type) 0 0 0) alts)
  rows_of r n (command a t oob) =
      row command_kind n (if_absent 0 (data_link struct_link_of r) a) (flag oob) (if_absent 0 (type_of type_ref_of) t) (if_absent 0 list_flag t) ++ inline_struct type_ref_of (a >>= inline_members)

  -- the definitions from row r on, in schema order, each followed by its children
  abbrev pub table_from : ℕ → List Definition → List ℕ
  table_from r [] = []
  table_from r (d ∷ ds) = rows_of r d.name d.body ++ table_from (r + rows_taken d.body) ds

module _ (S : List ℕ) where
  abbrev pub bytes_of : Name → List ℕ
  bytes_of n = take n.size (drop n.start S)

  -- the link of the fitting definition of that name, among those that stand from row r on; 0 if there is none
  abbrev pub find_from : (Body → Bool) → List ℕ → ℕ → List Definition → ℕ
  find_from fits x r [] = 0
  find_from fits x r (d ∷ ds) = cond (fits d.body && same_name x (bytes_of d.name)) (link r) (find_from fits x (r + rows_taken d.body) ds)

  -- the link of the member of that name, among members, and among those of a chain if it ends
  abbrev pub member_in : List ℕ → List ℕ → List ℕ → ℕ
  member_in T x [] = 0
  member_in T x (m ∷ ms) = cond (same_name x (name_of S T m)) (link m) (member_in T x ms)

  abbrev pub member_in_chain : List ℕ → List ℕ → Option (List ℕ) → ℕ
  member_in_chain T x none = 0
  member_in_chain T x (some ms) = member_in T x ms

  module _ (schema : List Definition) where
    -- what a name refers to as a struct and as a type
    abbrev pub struct_link : Name → ℕ
    struct_link n = find_from defines_struct (bytes_of n) 0 schema

    abbrev pub type_named : Name → ℕ
    type_named n = reference (place_in built_ins (bytes_of n)) (find_from defines_type (bytes_of n) 0 schema)

    -- A discriminator's link is to a member row of the base's chain, and the chain is known by its rows. So the rows are told twice: first but for discriminators, to
    -- find the members by them; then whole.
    abbrev pub without_discriminators : List ℕ
    without_discriminators = table_from struct_link type_named (λ _ _. 0) 0 schema

    abbrev pub discriminator_link : ℕ → Name → ℕ
    discriminator_link r discriminator = member_in_chain without_discriminators (bytes_of discriminator) (members without_discriminators chain_structs (union_base without_discriminators r))

    -- the table of the schema
    unfoldable pub table : List ℕ
    table = table_from struct_link type_named discriminator_link 0 schema

    -- Rule 7: a type name names a type; a base, a named command data and a branch type name a struct
    abbrev pub is_type_name : Name → Bool
    is_type_name n = ltb 0 (type_named n)

    abbrev pub type_refers : TypeText → Bool
    type_refers t = is_type_name t.name

    abbrev pub is_struct_name : Name → Bool
    is_struct_name n = ltb 0 (struct_link n)

    abbrev pub members_refer : List Member → Bool
    members_refer ms = all (λ (m : Member). type_refers m.type) ms

    abbrev pub data_refers : Data → Bool
    data_refers (inline ms) = members_refer ms
    data_refers (named n) = is_struct_name n

    abbrev pub refers : Body → Bool
    refers (enum vs) = true
    refers (struct b ms) = if_absent true is_struct_name b && members_refer ms
    refers (union b discriminator bs) = data_refers b && all (λ (p : Pair). is_struct_name p.type) bs
    refers (alternate alts) = all (λ (p : Pair). is_type_name p.type) alts
    refers (command a t oob) = if_absent true data_refers a && if_absent true type_refers t

    unfoldable pub all_refer : Bool
    all_refer = all (λ (d : Definition). refers d.body) schema
