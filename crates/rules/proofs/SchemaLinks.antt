-- Where every name that refers finds its row (number 7), the references in the table of a schema's definitions are to rows of fitting kinds.
-- The idea: a link found is to a definition that fits, and no definition's own row is an inline struct.
use Prim.Native.Nat.{ℕ, zero, suc, ◌+◌, ◌-◌, ◌≤◌, ◌<◌}
use native.Mathlib.Omega.{arith}
use mathlib.Core.Path.{◌≡◌, refl, subst}
use mathlib.Core.Logic.{⊎_elim}
use mathlib.Core.Bool.{Bool, true, false, not, cond, ◌&&◌, ◌||◌}
use mathlib.Core.List.{List, [], ◌∷◌, map}
use mathlib.Core.Option.{Option, none, some}
use lib.Dec.{eqb, ltb, leb}
use lib.ListN.{length}
use borrow.Author.Tests.{ltb-true, lt-ltb, eqb-true, le-leb}
use Rattle.grammar.specs.Notation.{all}
use Rattle.rules.specs.Kinds.{struct_kind, command_kind}
use Rattle.rules.specs.Types.{built_ins, first_row, is_built_in}
use Rattle.rules.specs.Names.{same_name}
use Rattle.rules.specs.Values.{if_absent}
use Rattle.rules.specs.Definitions.{Name, TypeText, Member, Data, Pair, Body, Definition}
use Rattle.rules.specs.Definitions.Data.{inline, named}
use Rattle.rules.specs.Definitions.Body.{enum, struct, union, alternate, command}
use Rattle.rules.specs.Rows.{kind, is_enum, is_struct, is_union, is_alternate, is_command}
use Rattle.rules.specs.Rows as Rows
use Rattle.rules.specs.Rules.{is_definition}
use Rattle.rules.specs.SchemaTable.{inline_members, place_in, later, reference, bytes_of, find_from, struct_link, type_named, is_type_name, type_refers, is_struct_name, members_refer, data_refers, refers, all_refer}
use Rattle.rules.specs.SchemaTable as Table
use Rattle.rules.specs.Serving.RawTable.{Every, IfThere, EveryName}
use Rattle.rules.specs.Sound.{to_struct, to_type}
use Rattle.rules.specs.Serving.Cells.{Entry, inline_entries, own_entry, child_entries, entries, words_from}
use Rattle.rules.specs.Serving.Cells.Entry.{value_row, member_row, branch_row, alternative_row}
use Rattle.rules.proofs.Lists.{clash, and_left, and_right, and_of, or_cases, or_left, or_right}
use Rattle.rules.proofs.Cells.{table-words, every_append, every-is}
use Rattle.rules.proofs.CellRows.{Behind}
use Rattle.rules.proofs.CellFinds.{find-found}
use Rattle.rules.proofs.EntryLinks.{TypeLinked, StructLinked, DataLinked, EntryLinked}

-- what is absent, or passes a test
if_found : {A : Type 0} (f : A → Bool) (P : A → Type 0) → ((x : A) → f x ≡ true → P x) → (o : Option A) → if_absent true f o ≡ true → IfThere P o
if_found f P k none e = tt
if_found f P k (some x) e = k x e

-- a place in a list is no more than its length
place-within : (ys : List (List ℕ)) (x : List ℕ) → place_in ys x ≤ length ys
place-within [] x = omega arith
place-within (y ∷ ys) x = go (same_name x y) (place_in ys x) (place-within ys x)
  where
    go : (b : Bool) (n : ℕ) → n ≤ length ys → cond b 1 (later n) ≤ suc (length ys)
    go true n h = omega arith
    go false zero h = omega arith
    go false (suc n) h = omega arith

module _ (S : List ℕ) (ds : List Definition) (behind : EveryName Behind ds) (h : ℕ → Name → ℕ) where
  abbrev T : List ℕ
  T = words_from (struct_link S ds) (type_named S ds) h 0 (entries ds)

  found : (fits : ℕ → Bool) (x : List ℕ) (r : ℕ) → find_from S (λ b. fits (Table.row_kind b)) x 0 ds ≡ suc r → (is_definition T r ≡ true) × (fits (kind T r) ≡ true)
  found fits x r e =
      let z = find-found (struct_link S ds) (type_named S ds) h ds behind S fits x r e in
      subst (λ (W : List ℕ). (is_definition W r ≡ true) × (fits (kind W r) ≡ true)) (table-words (struct_link S ds) (type_named S ds) h 0 ds) (z.1, z.2)

  -- a definition's own row is no inline struct
  own_row : (r : ℕ) → is_definition T r ≡ true → not (Rows.unnamed T r) ≡ true
  own_row r e = and_right (is_enum T r || is_struct T r || is_union T r || is_alternate T r || is_command T r) (not (Rows.unnamed T r)) e

  struct-found : (n : Name) → is_struct_name S ds n ≡ true → to_struct T (struct_link S ds n) ≡ true
  struct-found n e =
      let l = struct_link S ds n in
      let p : 0 < l = ltb-true 0 l e in
      let q : l ≡ suc (l - 1) = omega arith in
      let z = found (λ k. eqb k struct_kind) (bytes_of S n) (l - 1) q in
      and_of (ltb 0 l && is_struct T (l - 1)) (not (Rows.unnamed T (l - 1))) (and_of (ltb 0 l) (is_struct T (l - 1)) e z.1) (own_row (l - 1) z.0)

  -- of the definitions all but commands are types
  type_row : (r : ℕ) → is_definition T r ≡ true → ltb (kind T r) command_kind ≡ true → to_type T (first_row + r) ≡ true
  type_row r e f =
      let type : Bool = is_enum T r || is_struct T r || is_union T r || is_alternate T r in
      let k : kind T r < command_kind = ltb-true (kind T r) command_kind f in
      let i : type || is_command T r ≡ true = and_left (type || is_command T r) (not (Rows.unnamed T r)) e in
      let t : type ≡ true = ⊎_elim (λ p. p) (λ p. let z : kind T r ≡ command_kind = eqb-true (kind T r) command_kind p in absurd (omega arith)) (or_cases type (is_command T r) i) in
      let z : first_row + r - first_row ≡ r = omega arith in
      or_right (is_built_in (first_row + r))
      (leb first_row (first_row + r) && (is_enum T (first_row + r - first_row) || is_struct T (first_row + r - first_row) || is_union T (first_row + r - first_row) || is_alternate T (first_row + r - first_row)) && not (Rows.unnamed T (first_row + r - first_row)))
      (rw (z, le-leb first_row (first_row + r) (omega arith), t, own_row r e))

  type-found : (n : Name) → is_type_name S ds n ≡ true → to_type T (type_named S ds n) ≡ true
  type-found n e =
      go (place_in built_ins (bytes_of S n)) (find_from S Table.defines_type (bytes_of S n) 0 ds) (place-within built_ins (bytes_of S n))
      (λ r q. let z = found (λ k. ltb k command_kind) (bytes_of S n) r q in type_row r z.0 z.1) e
    where
      go : (p l : ℕ) → p ≤ length built_ins → ((r : ℕ) → l ≡ suc r → to_type T (first_row + r) ≡ true) → ltb 0 (reference p l) ≡ true → to_type T (reference p l) ≡ true
      go (suc b) l k f t = or_left (is_built_in (suc b)) _ (and_of (ltb 0 (suc b)) (ltb (suc b) first_row) (lt-ltb 0 (suc b) (omega arith)) (lt-ltb (suc b) first_row (omega arith)))
      go zero zero k f t = clash t refl
      go zero (suc r) k f t = f r refl

  -- each form of a definition
  data_linked_lem : (b : Data) → data_refers S ds b ≡ true → DataLinked T (struct_link S ds) (type_named S ds) b
  data_linked_lem (inline ms) e = tt
  data_linked_lem (named n) e = struct-found n e

  abbrev Linked : Entry → Type 0
  Linked = EntryLinked T (struct_link S ds) (type_named S ds)

  own-linked : (n : Name) (b : Body) → refers S ds b ≡ true → Linked (own_entry n b)
  own-linked n (enum vs) e = tt
  own-linked n (struct b ms) e =
      if_found (is_struct_name S ds) (StructLinked T (struct_link S ds) (type_named S ds)) struct-found b (and_left (if_absent true (is_struct_name S ds) b) (members_refer S ds ms) e)
  own-linked n (union b discriminator bs) e = data_linked_lem b (and_left (data_refers S ds b) (all (λ (p : Pair). is_struct_name S ds p.type) bs) e)
  own-linked n (alternate alts) e = tt
  own-linked n (command a t oob) e = (
    if_found (data_refers S ds) (DataLinked T (struct_link S ds) (type_named S ds)) data_linked_lem a (and_left (if_absent true (data_refers S ds) a) (if_absent true (type_refers S ds) t) e),
    if_found (type_refers S ds) (λ (x : TypeText). TypeLinked T (struct_link S ds) (type_named S ds) x.name) (λ x. type-found x.name) t
        (and_right (if_absent true (data_refers S ds) a) (if_absent true (type_refers S ds) t) e),
  )

  -- a list of children of one kind, each of which passes a test
  listed : {A : Type 0} (c : A → Entry) (f : A → Bool) → ((x : A) → f x ≡ true → Linked (c x)) → (xs : List A) → all f xs ≡ true → Every Linked (map c xs)
  listed c f k [] e = tt
  listed c f k (x ∷ xs) e = (k x (and_left (f x) (all f xs) e), listed c f k xs (and_right (f x) (all f xs) e))

  members-linked : (ms : List Member) → members_refer S ds ms ≡ true → Every Linked (map member_row ms)
  members-linked = listed member_row (λ (m : Member). type_refers S ds m.type) (λ m. type-found m.type.name)

  inline-linked : (b : Data) → data_refers S ds b ≡ true → Every Linked (inline_entries (inline_members b))
  inline-linked (inline ms) e = (tt, members-linked ms e)
  inline-linked (named n) e = tt

  children-linked : (b : Body) → refers S ds b ≡ true → Every Linked (child_entries b)
  children-linked (enum vs) e = every-is value_row Linked (λ v. tt) vs
  children-linked (struct b ms) e = members-linked ms (and_right (if_absent true (is_struct_name S ds) b) (members_refer S ds ms) e)
  children-linked (union b discriminator bs) e =
      let branches : Bool = all (λ (p : Pair). is_struct_name S ds p.type) bs in
      every_append Linked (inline_entries (inline_members b)) (map branch_row bs) (inline-linked b (and_left (data_refers S ds b) branches e))
      (listed branch_row (λ (p : Pair). is_struct_name S ds p.type) (λ p. struct-found p.type) bs (and_right (data_refers S ds b) branches e))
  children-linked (alternate alts) e = listed alternative_row (λ (p : Pair). is_type_name S ds p.type) (λ p. type-found p.type) alts e
  children-linked (command none t oob) e = tt
  children-linked (command (some a) t oob) e = inline-linked a (and_left (data_refers S ds a) (if_absent true (type_refers S ds) t) e)

  linked : (ys : List Definition) → all (λ (d : Definition). refers S ds d.body) ys ≡ true → Every Linked (entries ys)
  unfolding entries
  linked [] e = tt
  linked (d ∷ ys) e =
      let own = and_left (refers S ds d.body) (all (λ (d : Definition). refers S ds d.body) ys) e in
      every_append Linked (own_entry d.name d.body ∷ child_entries d.body) (entries ys)
      (own-linked d.name d.body own, children-linked d.body own)
      (linked ys (and_right (refers S ds d.body) (all (λ (d : Definition). refers S ds d.body) ys) e))

  -- number 7: every name that refers became a reference to a fitting row
  pub entries-linked : all_refer S ds ≡ true → Every (EntryLinked T (struct_link S ds) (type_named S ds)) (entries ds)
  unfolding all_refer
  entries-linked e = linked ds e
