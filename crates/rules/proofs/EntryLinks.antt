-- What a sound table asks of each row, of a row that was written from an entry: unused words 0, flags 0 or 1, and references to rows of fitting kinds,
-- given that the names which refer became such references. By the ten kinds of entries.
use Prim.Native.Nat.{ℕ, zero, suc, ◌+◌, ◌-◌, ◌≤◌, ◌<◌}
use mathlib.Core.Path.{◌≡◌, refl, ◌∙◌}
use mathlib.Core.Bool.{Bool, true, false, ◌&&◌, ◌||◌}
use mathlib.Core.List.{List}
use mathlib.Core.Option.{Option, none, some}
use native.Mathlib.Omega.{arith}
use lib.Dec.{eqb, ltb}
use lib.ListN.{length, get_or}
use Rattle.grammar.specs.Limits.{row_words}
use Rattle.grammar.specs.Notation.{all}
use borrow.Author.Tests.{eq-eqb}
use Rattle.rules.specs.Kinds.{enum_kind, value_kind, struct_kind, member_kind, union_kind, branch_kind, alternate_kind, alternative_kind, command_kind}
use Rattle.rules.specs.Values.{◌>>=◌, if_absent}
use Rattle.rules.specs.Definitions.{Name, TypeText, Data}
use Rattle.rules.specs.Definitions.Data.{inline, named}
use Rattle.rules.specs.Rows.{up_from, word, kind, base, type_ref, array_mark, optional, union_base, discriminator, owner_link, allow_oob, returns, returns_array}
use Rattle.rules.specs.Rows as Rows
use Rattle.rules.specs.SchemaTable.{inline_members, flag, list_flag, type_of, data_link}
use Rattle.rules.specs.Serving.RawTable.{IfThere}
use Rattle.rules.specs.Sound.{words_used, rest_zero, member_linked, union_linked, data_linked, command_linked, references_fit, is_flag, to_struct, to_type}
use Rattle.rules.specs.Serving.Cells.{Entry, blank, words_of, words_from, is_inline, owns}
use Rattle.rules.specs.Serving.Cells.Entry.{enum_row, alternate_row, value_row, struct_row, inline_row, member_row, union_row, branch_row, alternative_row, command_row}
use Rattle.rules.proofs.Lists.{clash, and_left, and_right, and_of, or_left, or_right}
use Rattle.rules.proofs.CellRows.{word-is}

-- the words of row r of T are ws, one after another
pub record RowIs (T : List ℕ) (r : ℕ) (ws : List ℕ) : Type 0 where
  pub same_word : (i : ℕ) → i < row_words → word T r i ≡ get_or ws i 0

pub row_is : (f g : Name → ℕ) (h : ℕ → Name → ℕ) (es : List Entry) (r : ℕ) → r < length es → RowIs (words_from f g h 0 es) r (words_of f g h r (get_or es r blank))
row_is f g h es r l = record { same_word = λ i k. word-is f g h es r i l k }

module _ {T : List ℕ} {r : ℕ} {ws : List ℕ} (w : RowIs T r ws) where
  kind-is : kind T r ≡ get_or ws 0 0
  kind-is = w.same_word 0 (omega arith)

  type-is : type_ref T r ≡ get_or ws 3 0
  type-is = w.same_word 3 (omega arith)

  array-is : array_mark T r ≡ get_or ws 4 0
  array-is = w.same_word 4 (omega arith)

  optional-is : optional T r ≡ get_or ws 5 0
  optional-is = w.same_word 5 (omega arith)

  -- a link to a struct that is no base: a union's, a branch's or a command's
  struct_is : owner_link T r ≡ get_or ws 3 0
  struct_is = w.same_word 3 (omega arith)

  base_is : base T r ≡ get_or ws 4 0
  base_is = w.same_word 4 (omega arith)

  oob_is : allow_oob T r ≡ get_or ws 4 0
  oob_is = w.same_word 4 (omega arith)

  returns_is : returns T r ≡ get_or ws 5 0
  returns_is = w.same_word 5 (omega arith)

  returns_array-is : returns_array T r ≡ get_or ws 6 0
  returns_array-is = w.same_word 6 (omega arith)

  zero-from : (a n : ℕ) → ((i : ℕ) → a ≤ i → i < a + n → i < row_words) → all (λ i. eqb (get_or ws i 0) 0) (up_from a n) ≡ true → all (λ i. eqb (word T r i) 0) (up_from a n) ≡ true
  zero-from a zero b z = refl
  zero-from a (suc n) b z =
      let z0 : eqb (get_or ws a 0) 0 ≡ true = and_left (eqb (get_or ws a 0) 0) (all (λ i. eqb (get_or ws i 0) 0) (up_from (suc a) n)) z in
      let zs : all (λ i. eqb (get_or ws i 0) 0) (up_from (suc a) n) ≡ true = and_right (eqb (get_or ws a 0) 0) (all (λ i. eqb (get_or ws i 0) 0) (up_from (suc a) n)) z in
      and_of (eqb (word T r a) 0) (all (λ i. eqb (word T r i) 0) (up_from (suc a) n)) (rw (w.same_word a (b a (omega arith) (omega arith))) z0) (zero-from (suc a) n (λ i l m. b i (omega arith) (omega arith)) zs)

  -- the words that a row of kind k doesn't use are 0
  unused : (k : ℕ) → get_or ws 0 0 ≡ k → all (λ i. eqb (get_or ws i 0) 0) (up_from (words_used T k) (row_words - words_used T k)) ≡ true → rest_zero T r ≡ true
  unused k e z = rw (kind-is ∙ e) (zero-from (words_used T k) (row_words - words_used T k) (λ i l m. omega arith) z)

module _ (T : List ℕ) (f g : Name → ℕ) where
  -- what a name that refers became is a reference to a type, or a link to a struct
  abbrev pub TypeLinked : Name → Type 0
  TypeLinked n = to_type T (g n) ≡ true

  abbrev pub StructLinked : Name → Type 0
  StructLinked n = to_struct T (f n) ≡ true

  abbrev pub DataLinked : Data → Type 0
  DataLinked (inline ms) = Unit {0}
  DataLinked (named n) = StructLinked n

  -- every name of the entry that refers became a reference to a fitting row; but for a discriminator, on which number 9 decides
  abbrev pub EntryLinked : Entry → Type 0
  EntryLinked (enum_row n c) = Unit {0}
  EntryLinked (value_row n) = Unit {0}
  EntryLinked (struct_row n b c) = IfThere StructLinked b
  EntryLinked (inline_row c) = Unit {0}
  EntryLinked (member_row m) = TypeLinked m.type.name
  EntryLinked (union_row n b d c) = DataLinked b
  EntryLinked (branch_row p) = StructLinked p.type
  EntryLinked (alternate_row n c) = Unit {0}
  EntryLinked (alternative_row p) = TypeLinked p.type
  EntryLinked (command_row n a t oob) = IfThere DataLinked a × IfThere (λ (x : TypeText). TypeLinked x.name) t

  is_flag_lem : (b : Bool) → is_flag T (flag b) ≡ true
  is_flag_lem true = refl
  is_flag_lem false = refl

  -- the words of an entry that is linked refer to what they should
  return_linked : (t : Option TypeText) → IfThere (λ (x : TypeText). TypeLinked x.name) t
      → (eqb (if_absent 0 (type_of g) t) 0 && eqb (if_absent 0 list_flag t) 0 || to_type T (if_absent 0 (type_of g) t) && is_flag T (if_absent 0 list_flag t)) ≡ true
  return_linked none k = refl
  return_linked (some x) k = or_right (eqb (type_of g x) 0 && eqb (list_flag x) 0) (to_type T (type_of g x) && is_flag T (list_flag x)) (rw (k, is_flag_lem x.list))

  base-linked : (b : Option Name) → IfThere StructLinked b → (eqb (if_absent 0 f b) 0 || to_struct T (if_absent 0 f b)) ≡ true
  base-linked none k = refl
  base-linked (some n) k = or_right (eqb (f n) 0) (to_struct T (f n)) k

  union_linked_lem : (r : ℕ) (b : Data) → DataLinked b → Rows.owns T r ≡ is_inline (inline_members b) → (Rows.owns T r || to_struct T (data_link f r b)) ≡ true
  union_linked_lem r (inline ms) k i = rw i
  union_linked_lem r (named n) k i = or_right (Rows.owns T r) (to_struct T (f n)) k

  data_linked_lem : (r : ℕ) (a : Option Data) → IfThere DataLinked a → Rows.owns T r ≡ is_inline (a >>= inline_members)
      → (eqb (if_absent 0 (data_link f r) a) 0 || Rows.owns T r || to_struct T (if_absent 0 (data_link f r) a)) ≡ true
  data_linked_lem r none k i = refl
  data_linked_lem r (some (inline ms)) k i = let l = suc (suc r) in or_left (eqb l 0 || Rows.owns T r) (to_struct T l) (or_right (eqb l 0) (Rows.owns T r) i)
  data_linked_lem r (some (named n)) k i = or_right (eqb (f n) 0 || Rows.owns T r) (to_struct T (f n)) k

  module _ (h : ℕ → Name → ℕ) where
    -- unused words are 0
    pub rest_zero_lem : (r : ℕ) (e : Entry) → RowIs T r (words_of f g h r e) → rest_zero T r ≡ true
    rest_zero_lem r (enum_row n c) w = unused w enum_kind refl refl
    rest_zero_lem r (value_row n) w = unused w value_kind refl refl
    rest_zero_lem r (struct_row n b c) w = unused w struct_kind refl refl
    rest_zero_lem r (inline_row c) w = unused w struct_kind refl refl
    rest_zero_lem r (member_row m) w = unused w member_kind refl refl
    rest_zero_lem r (union_row n b d c) w = unused w union_kind refl refl
    rest_zero_lem r (branch_row p) w = unused w branch_kind refl refl
    rest_zero_lem r (alternate_row n c) w = unused w alternate_kind refl refl
    rest_zero_lem r (alternative_row p) w = unused w alternative_kind refl refl
    rest_zero_lem r (command_row n a t oob) w = unused w command_kind refl refl

    -- references fit, given that a union's discriminator is a member
    abbrev pub DiscriminatorLinked : ℕ → Type 0
    DiscriminatorLinked r = kind T r ≡ union_kind → (ltb 0 (discriminator T r) && eqb (kind T (discriminator T r - 1)) member_kind) ≡ true

    pub references_fit_lem : (r : ℕ) (e : Entry) → RowIs T r (words_of f g h r e) → EntryLinked e → Rows.owns T r ≡ owns e → DiscriminatorLinked r → references_fit T r ≡ true
    unfolding member_linked union_linked data_linked command_linked
    references_fit_lem r (enum_row n c) w k i t = rw (kind-is w)
    references_fit_lem r (value_row n) w k i t = rw (kind-is w)
    references_fit_lem r (struct_row n b c) w k i t = rw (kind-is w) (rw (base_is w, base-linked b k))
    references_fit_lem r (inline_row c) w k i t = rw (kind-is w) (rw (base_is w))
    references_fit_lem r (member_row m) w k i t =
        rw (kind-is w) (rw (type-is w, array-is w, optional-is w, k, is_flag_lem m.type.list, is_flag_lem m.optional))
    references_fit_lem r (union_row n b d c) w k i t = rw (kind-is w) (rw (struct_is w, union_linked_lem r b k i, t (kind-is w)))
    references_fit_lem r (branch_row p) w k i t = rw (kind-is w) (rw (struct_is w, k))
    references_fit_lem r (alternate_row n c) w k i t = rw (kind-is w)
    references_fit_lem r (alternative_row p) w k i t = rw (kind-is w) (rw (type-is w, k))
    references_fit_lem r (command_row n a x oob) w k i t =
        rw (kind-is w) (rw (struct_is w, oob_is w, returns_is w, returns_array-is w, data_linked_lem r a k.0 i, is_flag_lem oob, return_linked x k.1))

    -- a union's base is its own inline struct or a struct that has a name
    no_union : {A : Type 0} {a k : ℕ} → a ≡ k → a ≡ union_kind → eqb k union_kind ≡ false → A
    no_union {k = k} p q e = let z : k ≡ union_kind = cc in clash (eq-eqb k union_kind z) e

    pub union_base_lem : (r : ℕ) (e : Entry) → RowIs T r (words_of f g h r e) → EntryLinked e → Rows.owns T r ≡ owns e → kind T r ≡ union_kind
        → (Rows.owns T r || to_struct T (union_base T r)) ≡ true
    union_base_lem r (enum_row n c) w k i e = no_union (kind-is w) e refl
    union_base_lem r (value_row n) w k i e = no_union (kind-is w) e refl
    union_base_lem r (struct_row n b c) w k i e = no_union (kind-is w) e refl
    union_base_lem r (inline_row c) w k i e = no_union (kind-is w) e refl
    union_base_lem r (member_row m) w k i e = no_union (kind-is w) e refl
    union_base_lem r (union_row n b d c) w k i e = rw (struct_is w) (union_linked_lem r b k i)
    union_base_lem r (branch_row p) w k i e = no_union (kind-is w) e refl
    union_base_lem r (alternate_row n c) w k i e = no_union (kind-is w) e refl
    union_base_lem r (alternative_row p) w k i e = no_union (kind-is w) e refl
    union_base_lem r (command_row n a t oob) w k i e = no_union (kind-is w) e refl
