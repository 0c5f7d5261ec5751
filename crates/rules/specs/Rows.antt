-- Reference, Rows: what the words of a table say. Everything here is total: past the end every word is 0.
use Rattle.std.specs.Prelude.{ℕ, zero, suc, ◌+◌, ◌-◌, ◌/◌, Bool, cond, ◌&&◌, ◌||◌, List, [], ◌∷◌, ◌++◌, eqb, ltb, get_or, length, take, drop}
use Rattle.std.proofs.Math.Option.{Option, none, some}
use Rattle.grammar.specs.Limits.{row_words}
use Rattle.grammar.specs.Notation.{word_of}
use Rattle.grammar.specs.Tree.{Kind}
use Rattle.grammar.specs.Tree.Kind.{object, string}
use Rattle.rules.specs.Kinds.{enum_kind, struct_kind, union_kind, alternate_kind, command_kind}
use Rattle.rules.specs.Types.{first_row, built_in_kinds}

-- n numbers from a on
abbrev pub up_from : ℕ → ℕ → List ℕ
up_from a zero = []
up_from a (suc n) = a ∷ up_from (suc a) n

-- what is inherited, and then one's own
abbrev pub after : Option (List ℕ) → List ℕ → Option (List ℕ)
after none own = none
after (some inherited) own = some (inherited ++ own)

-- a link to row r is its number plus 1; 0 links to nothing
abbrev pub link : ℕ → ℕ
link r = suc r

-- the type reference to a link's row, 0 for no link
abbrev pub link_ref : ℕ → ℕ
link_ref zero = 0
link_ref (suc r) = first_row + r

module _ (T : List ℕ) where
  abbrev pub row_count : ℕ
  row_count = length T / row_words

  -- word i of row r, both counted from 0
  abbrev pub word : ℕ → ℕ → ℕ
  word r i = word_of row_words T r i

  -- words 0 to 2 of every row: its kind, and where its name stands in the schema
  abbrev pub kind : ℕ → ℕ
  kind r = word r 0

  abbrev pub start : ℕ → ℕ
  start r = word r 1

  abbrev pub size : ℕ → ℕ
  size r = word r 2

  -- the kinds of definitions
  abbrev pub is_enum : ℕ → Bool
  is_enum r = eqb (kind r) enum_kind

  abbrev pub is_struct : ℕ → Bool
  is_struct r = eqb (kind r) struct_kind

  abbrev pub is_union : ℕ → Bool
  is_union r = eqb (kind r) union_kind

  abbrev pub is_alternate : ℕ → Bool
  is_alternate r = eqb (kind r) alternate_kind

  abbrev pub is_command : ℕ → Bool
  is_command r = eqb (kind r) command_kind

  -- words 3 on, by kind. An enum's, a struct's or an alternate's count of children
  abbrev pub count : ℕ → ℕ
  count r = word r 3

  -- a struct's base link
  abbrev pub base : ℕ → ℕ
  base r = word r 4

  -- a member's or an alternative's type reference; of a member, 1 if array and 1 if optional
  abbrev pub type_ref : ℕ → ℕ
  type_ref r = word r 3

  abbrev pub array_mark : ℕ → ℕ
  array_mark r = word r 4

  abbrev pub optional : ℕ → ℕ
  optional r = word r 5

  -- a union's base link, count of branches and link of discriminator member; a branch's struct link
  abbrev pub union_base : ℕ → ℕ
  union_base r = word r 3

  abbrev pub branch_count : ℕ → ℕ
  branch_count r = word r 4

  abbrev pub discriminator : ℕ → ℕ
  discriminator r = word r 5

  abbrev pub branch_struct : ℕ → ℕ
  branch_struct r = word r 3

  -- the link by which a union, its base, or a command, its data, owns an inline struct
  abbrev pub owner_link : ℕ → ℕ
  owner_link r = word r 3

  -- a command's data struct link, 1 if allow-oob, return type reference or 0, 1 if the return is an array
  abbrev pub data_struct : ℕ → ℕ
  data_struct r = word r 3

  abbrev pub allow_oob : ℕ → ℕ
  allow_oob r = word r 4

  abbrev pub returns : ℕ → ℕ
  returns r = word r 5

  abbrev pub returns_array : ℕ → ℕ
  returns_array r = word r 6

  -- the row after row r and what belongs to that row alone
  unfoldable pub next : ℕ → ℕ
  next r = suc r

  -- n rows from c on, each the next of the one before, and the row after them
  unfoldable pub walk : ℕ → ℕ → List ℕ
  walk c zero = []
  walk c (suc n) = c ∷ walk (next c) n

  unfoldable pub past : ℕ → ℕ → ℕ
  past c zero = c
  past c (suc n) = past (next c) n

  -- An inline base or inline data: a struct row with start, length and base link 0. Its owner is the union or the command before it whose link is to it.
  unfoldable pub unnamed : ℕ → Bool
  unnamed r = is_struct r && eqb (start r) 0 && eqb (size r) 0 && eqb (base r) 0

  unfoldable pub owns : ℕ → Bool
  owns r = (is_union r || is_command r) && eqb (owner_link r) (link (next r)) && unnamed (next r)

  -- the children of row r, past its inline struct and that one's: values, members, branches or alternatives
  unfoldable pub first_child : ℕ → ℕ
  first_child r = cond (owns r) (past (next (next r)) (count (next r))) (next r)

  unfoldable pub child_count : ℕ → ℕ
  child_count r = cond (is_enum r || is_struct r || is_alternate r) (count r) (cond (is_union r) (branch_count r) 0)

  unfoldable pub children : ℕ → List ℕ
  children r = walk (first_child r) (child_count r)

  -- the row after all that belongs to row r
  unfoldable pub past_children : ℕ → ℕ
  past_children r = past (first_child r) (child_count r)

  -- A struct's members: its base's, found by going up the chain, then its own. By the link of a struct's row r, with at most n structs on the chain; link 0 has none.
  unfoldable pub members : ℕ → ℕ → Option (List ℕ)
  members zero zero = some []
  members zero (suc r) = none
  members (suc n) zero = some []
  members (suc n) (suc r) = after (members n (base r)) (children r)

  -- the JSON kind of a type reference; `any` and alternates have none
  unfoldable pub type_kind : ℕ → Option Kind
  type_kind t =
      cond (ltb t first_row) (get_or (none ∷ built_in_kinds) t none)
      (cond (is_enum (t - first_row)) (some string)
      (cond (is_struct (t - first_row) || is_union (t - first_row)) (some object) none))

-- the name of row r, in the schema bytes S
unfoldable pub name_of : List ℕ → List ℕ → ℕ → List ℕ
name_of S T r = take (size T r) (drop (start T r) S)
