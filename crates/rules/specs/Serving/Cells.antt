-- Serves proofs: the rows of definitions as a list of entries, whatever words the names that refer become.
use Rattle.std.specs.Prelude.{ℕ, suc, Bool, true, false, cond, ◌&&◌, List, [], ◌∷◌, ◌++◌, map, length}
use Rattle.std.proofs.Math.Option.{Option, none, some}
use Rattle.rules.specs.Kinds.{enum_kind, value_kind, struct_kind, member_kind, union_kind, branch_kind, alternate_kind, alternative_kind, command_kind}
use Rattle.rules.specs.Names.{same_name}
use Rattle.rules.specs.Rows.{kind, name_of}
use Rattle.rules.specs.Values.{◌>>=◌, if_absent}
use Rattle.rules.specs.Definitions.{Name, TypeText, Member, Data, Pair, Body, Definition}
use Rattle.rules.specs.Definitions.Body.{enum, struct, union, alternate, command}
use Rattle.rules.specs.SchemaTable.{inline_members, row, flag, list_flag, type_of, data_link}
use Rattle.rules.specs.Serving.RawTable.{IfThere, TypeNames, MemberNames, PairNames, DataNames}

-- what one row says; numbers are counts of children
pub data Entry : Type 0 where
  enum_row alternate_row : Name → ℕ → Entry
  value_row : Name → Entry
  struct_row : Name → Option Name → ℕ → Entry
  inline_row : ℕ → Entry
  member_row : Member → Entry
  union_row : Name → Data → Name → ℕ → Entry
  branch_row alternative_row : Pair → Entry
  command_row : Name → Option Data → Option TypeText → Bool → Entry

abbrev pub unnamed : Name
unnamed = record { start = 0; size = 0 }

-- what stands at no row
abbrev pub blank : Entry
blank = value_row unnamed

-- The entries of a definition: its own, its inline struct's, its children's.
abbrev pub inline_entries : Option (List Member) → List Entry
inline_entries none = []
inline_entries (some ms) = inline_row (length ms) ∷ map member_row ms

abbrev pub own_entry : Name → Body → Entry
own_entry n (enum vs) = enum_row n (length vs)
own_entry n (struct b ms) = struct_row n b (length ms)
own_entry n (union b discriminator bs) = union_row n b discriminator (length bs)
own_entry n (alternate alts) = alternate_row n (length alts)
own_entry n (command a t oob) = command_row n a t oob

abbrev pub child_entries : Body → List Entry
child_entries (enum vs) = map value_row vs
child_entries (struct b ms) = map member_row ms
child_entries (union b discriminator bs) = inline_entries (inline_members b) ++ map branch_row bs
child_entries (alternate alts) = map alternative_row alts
child_entries (command a t oob) = inline_entries (a >>= inline_members)

unfoldable pub entries : List Definition → List Entry
entries [] = []
entries (d ∷ ds) = (own_entry d.name d.body ∷ child_entries d.body) ++ entries ds

-- The words of an entry at row r, and of entries from row r on.
module _ (struct_link_of type_ref_of : Name → ℕ) (discriminator_link_of : ℕ → Name → ℕ) where
  abbrev pub words_of : ℕ → Entry → List ℕ
  words_of r (enum_row n c) = row enum_kind n c 0 0 0
  words_of r (value_row n) = row value_kind n 0 0 0 0
  words_of r (struct_row n b c) = row struct_kind n c (if_absent 0 struct_link_of b) 0 0
  words_of r (inline_row c) = row struct_kind unnamed c 0 0 0
  words_of r (member_row m) = row member_kind m.name (type_of type_ref_of m.type) (list_flag m.type) (flag m.optional) 0
  words_of r (union_row n b discriminator c) = row union_kind n (data_link struct_link_of r b) c (discriminator_link_of r discriminator) 0
  words_of r (branch_row p) = row branch_kind p.name (struct_link_of p.type) 0 0 0
  words_of r (alternate_row n c) = row alternate_kind n c 0 0 0
  words_of r (alternative_row p) = row alternative_kind p.name (type_ref_of p.type) 0 0 0
  words_of r (command_row n a t oob) = row command_kind n (if_absent 0 (data_link struct_link_of r) a) (flag oob) (if_absent 0 (type_of type_ref_of) t) (if_absent 0 list_flag t)

  unfoldable pub words_from : ℕ → List Entry → List ℕ
  words_from r [] = []
  words_from r (e ∷ es) = words_of r e ++ words_from (suc r) es

-- what the words tell of an entry whatever its references become
abbrev pub entry_kind : Entry → ℕ
entry_kind (enum_row n c) = enum_kind
entry_kind (value_row n) = value_kind
entry_kind (struct_row n b c) = struct_kind
entry_kind (inline_row c) = struct_kind
entry_kind (member_row m) = member_kind
entry_kind (union_row n b discriminator c) = union_kind
entry_kind (branch_row p) = branch_kind
entry_kind (alternate_row n c) = alternate_kind
entry_kind (alternative_row p) = alternative_kind
entry_kind (command_row n a t oob) = command_kind

abbrev pub entry_name : Entry → Name
entry_name (enum_row n c) = n
entry_name (value_row n) = n
entry_name (struct_row n b c) = n
entry_name (inline_row c) = unnamed
entry_name (member_row m) = m.name
entry_name (union_row n b discriminator c) = n
entry_name (branch_row p) = p.name
entry_name (alternate_row n c) = n
entry_name (alternative_row p) = p.name
entry_name (command_row n a t oob) = n

-- it is an inline struct, a definition of its own, and one whose inline struct follows
abbrev pub is_inline_row : Entry → Bool
is_inline_row (enum_row n c) = false
is_inline_row (value_row n) = false
is_inline_row (struct_row n b c) = false
is_inline_row (inline_row c) = true
is_inline_row (member_row m) = false
is_inline_row (union_row n b discriminator c) = false
is_inline_row (branch_row p) = false
is_inline_row (alternate_row n c) = false
is_inline_row (alternative_row p) = false
is_inline_row (command_row n a t oob) = false

abbrev pub is_own : Entry → Bool
is_own (enum_row n c) = true
is_own (value_row n) = false
is_own (struct_row n b c) = true
is_own (inline_row c) = false
is_own (member_row m) = false
is_own (union_row n b discriminator c) = true
is_own (branch_row p) = false
is_own (alternate_row n c) = true
is_own (alternative_row p) = false
is_own (command_row n a t oob) = true

abbrev pub is_inline : Option (List Member) → Bool
is_inline none = false
is_inline (some ms) = true

abbrev pub owns : Entry → Bool
owns (enum_row n c) = false
owns (value_row n) = false
owns (struct_row n b c) = false
owns (inline_row c) = false
owns (member_row m) = false
owns (union_row n b discriminator c) = is_inline (inline_members b)
owns (branch_row p) = false
owns (alternate_row n c) = false
owns (alternative_row p) = false
owns (command_row n a t oob) = is_inline (a >>= inline_members)

-- the link of the first row of a list that passes a test; 0 if none does
abbrev pub first_link : (ℕ → Bool) → List ℕ → ℕ
first_link f [] = 0
first_link f (r ∷ rs) = cond (f r) (suc r) (first_link f rs)

-- row r of a table is of a kind that fits and has the name x
abbrev pub is_named : List ℕ → List ℕ → (ℕ → Bool) → List ℕ → ℕ → Bool
is_named S T fits x r = fits (kind T r) && same_name x (name_of S T r)

-- how many children follow it, past an inline struct's rows
abbrev pub entry_children : Entry → ℕ
entry_children (enum_row n c) = c
entry_children (value_row n) = 0
entry_children (struct_row n b c) = c
entry_children (inline_row c) = c
entry_children (member_row m) = 0
entry_children (union_row n b discriminator c) = c
entry_children (branch_row p) = 0
entry_children (alternate_row n c) = c
entry_children (alternative_row p) = 0
entry_children (command_row n a t oob) = 0

-- a property of an entry's names, those that refer included
module _ (P : Name → Type 0) where
  abbrev pub EntryNames : Entry → Type 0
  EntryNames (enum_row n c) = P n
  EntryNames (value_row n) = P n
  EntryNames (struct_row n b c) = P n × IfThere P b
  EntryNames (inline_row c) = Unit {0}
  EntryNames (member_row m) = MemberNames P m
  EntryNames (union_row n b discriminator c) = P n × DataNames P b × P discriminator
  EntryNames (branch_row p) = PairNames P p
  EntryNames (alternate_row n c) = P n
  EntryNames (alternative_row p) = PairNames P p
  EntryNames (command_row n a t oob) = P n × IfThere (DataNames P) a × IfThere (TypeNames P) t
