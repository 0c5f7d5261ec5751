-- Tables that differ in their discriminators alone have the same children, members and names; and a member found by name is one of the table's rows.
-- The idea: none of these reads a word past the fifth of a row.
use Prim.Native.Nat.{ℕ, zero, suc, ◌+◌, ◌*◌, ◌≤◌, ◌<◌, zero-le}
use mathlib.Core.Path.{◌≡◌, refl, sym, ap, ◌∙◌, subst}
use mathlib.Core.Bool.{Bool, true, false}
use mathlib.Core.Logic.{⊎_elim}
use mathlib.Core.List.Memᴰ
use mathlib.Core.List.{List, [], ◌∷◌, ◌++◌, Memᴰ}
use mathlib.Core.Option.{Option, none, some}
use native.Mathlib.Omega.{arith}
use lib.Dec.{ltb}
use lib.ListN.{length, get_or, set, take}
use lib.Seq.{get_or-take}
use borrow.Author.Tests.{ltb-true, ltb-false}
use Rattle.grammar.specs.Limits.{row_words}
use Rattle.rules.specs.Definitions.{Name, Data, Definition}
use Rattle.rules.specs.SchemaTable.{table_from, member_in, member_in_chain}
use Rattle.rules.specs.Serving.RawTable.{EveryName}
use Rattle.rules.specs.Rows.{row_count, word, kind, start, size, count, base, next, walk, first_child, child_count, children, members, after, name_of}
use Rattle.rules.specs.Rows as Rows
use Rattle.rules.specs.Serving.Cells.{Entry, blank, entries, words_of, words_from}
use Rattle.rules.specs.Serving.Cells.Entry.{enum_row, alternate_row, value_row, struct_row, inline_row, member_row, union_row, branch_row, alternative_row, command_row}
use Rattle.rules.proofs.Lists.{none-not-some}
use Rattle.rules.proofs.TableRows.{no_children, fit-child, laid_fit}
use Rattle.rules.proofs.Lookups.{member-found}
use Rattle.rules.proofs.Cells.{table-words}
use Rattle.rules.proofs.CellRows.{Behind, word-is, word-past, rows_are, kind-past}
use Rattle.rules.proofs.CellLayout.{table-laid_out}

-- the word of a union's row that its discriminator becomes; every kind of row has the words before it whatever discriminators become
abbrev pub discriminator_word : ℕ
discriminator_word = 5

pub record Alike (U T : List ℕ) : Type 0 where
  pub same_word : (r i : ℕ) → i < discriminator_word → word U r i ≡ word T r i

module _ {U T : List ℕ} (a : Alike U T) where
  same_kind_lem : (r : ℕ) → kind U r ≡ kind T r
  same_kind_lem r = a.same_word r 0 (omega arith)

  same_start : (r : ℕ) → start U r ≡ start T r
  same_start r = a.same_word r 1 (omega arith)

  same_size : (r : ℕ) → size U r ≡ size T r
  same_size r = a.same_word r 2 (omega arith)

  same_count : (r : ℕ) → count U r ≡ count T r
  same_count r = a.same_word r 3 (omega arith)

  same_base : (r : ℕ) → base U r ≡ base T r
  same_base r = a.same_word r 4 (omega arith)

  alike_next : (r : ℕ) → next U r ≡ next T r
  unfolding next
  alike_next r = refl

  alike_walk : (n c : ℕ) → walk U c n ≡ walk T c n
  unfolding walk
  alike_walk zero c = refl
  alike_walk (suc n) c = rw (alike_next c, alike_walk n (next T c))

  alike_past : (n c : ℕ) → Rows.past U c n ≡ Rows.past T c n
  unfolding Rows.past
  alike_past zero c = refl
  alike_past (suc n) c = rw (alike_next c, alike_past n (next T c))

  pub alike_unnamed : (r : ℕ) → Rows.unnamed U r ≡ Rows.unnamed T r
  unfolding Rows.unnamed
  alike_unnamed r = rw (same_kind_lem r, same_start r, same_size r, same_base r)

  alike_owns : (r : ℕ) → Rows.owns U r ≡ Rows.owns T r
  unfolding Rows.owns
  alike_owns r = rw (alike_next r, alike_unnamed (next T r), same_kind_lem r, same_count r)

  alike_first : (r : ℕ) → first_child U r ≡ first_child T r
  unfolding first_child
  alike_first r = rw (alike_owns r, alike_next r, alike_next (next T r), same_count (next T r), alike_past (count T (next T r)) (next T (next T r)))

  alike_count : (r : ℕ) → child_count U r ≡ child_count T r
  unfolding child_count
  alike_count r = rw (same_kind_lem r, same_count r, same_base r)

  pub alike_children : (r : ℕ) → children U r ≡ children T r
  unfolding children
  alike_children r = rw (alike_first r, alike_count r, alike_walk (child_count T r) (first_child T r))

  pub alike_members : (n l : ℕ) → members U n l ≡ members T n l
  unfolding members
  alike_members zero zero = refl
  alike_members zero (suc r) = refl
  alike_members (suc n) zero = refl
  alike_members (suc n) (suc r) = rw (same_base r, alike_members n (base T r), alike_children r)

  pub alike_name : (S : List ℕ) (r : ℕ) → name_of S U r ≡ name_of S T r
  unfolding name_of
  alike_name S r = rw (same_start r, same_size r)

  alike_member : (S x ms : List ℕ) → member_in S U x ms ≡ member_in S T x ms
  alike_member S x [] = refl
  alike_member S x (m ∷ ms) = rw (alike_name S m, alike_member S x ms)

  pub alike_found : (S x : List ℕ) (o : Option (List ℕ)) → member_in_chain S U x o ≡ member_in_chain S T x o
  alike_found S x none = refl
  alike_found S x (some ms) = alike_member S x ms

-- one entry's words, whatever its discriminator becomes
module _ (f g : Name → ℕ) (h k : ℕ → Name → ℕ) where
  -- the discriminator of an entry, if it has one, becomes the same number by h as by k
  abbrev pub SameDiscriminator : ℕ → Entry → Type 0
  SameDiscriminator r (enum_row n c) = Unit {0}
  SameDiscriminator r (alternate_row n c) = Unit {0}
  SameDiscriminator r (value_row n) = Unit {0}
  SameDiscriminator r (struct_row n b c) = Unit {0}
  SameDiscriminator r (inline_row c) = Unit {0}
  SameDiscriminator r (member_row m) = Unit {0}
  SameDiscriminator r (union_row n b discriminator c) = h r discriminator ≡ k r discriminator
  SameDiscriminator r (branch_row p) = Unit {0}
  SameDiscriminator r (alternative_row p) = Unit {0}
  SameDiscriminator r (command_row n b t oob) = Unit {0}

  pub same-words : (r : ℕ) (e : Entry) → SameDiscriminator r e → words_of f g h r e ≡ words_of f g k r e
  same-words r (enum_row n c) q = refl
  same-words r (alternate_row n c) q = refl
  same-words r (value_row n) q = refl
  same-words r (struct_row n b c) q = refl
  same-words r (inline_row c) q = refl
  same-words r (member_row m) q = refl
  same-words r (union_row n b discriminator c) q = rw q
  same-words r (branch_row p) q = refl
  same-words r (alternative_row p) q = refl
  same-words r (command_row n b t oob) q = refl

  same-discriminator : (r : ℕ) (e : Entry) → ((n : Name) → h r n ≡ k r n) → SameDiscriminator r e
  same-discriminator r (enum_row n c) q = tt
  same-discriminator r (alternate_row n c) q = tt
  same-discriminator r (value_row n) q = tt
  same-discriminator r (struct_row n b c) q = tt
  same-discriminator r (inline_row c) q = tt
  same-discriminator r (member_row m) q = tt
  same-discriminator r (union_row n b discriminator c) q = q discriminator
  same-discriminator r (branch_row p) q = tt
  same-discriminator r (alternative_row p) q = tt
  same-discriminator r (command_row n b t oob) q = tt

  pub same_rows : (r : ℕ) (es : List Entry) → ((j : ℕ) → r ≤ j → j < r + length es → (n : Name) → h j n ≡ k j n) → words_from f g h r es ≡ words_from f g k r es
  unfolding words_from
  same_rows r [] q = refl
  same_rows r (e ∷ es) q =
      rw (same-words r e (same-discriminator r e (q r (omega arith) (omega arith))), same_rows (suc r) es (λ j a b. q j (omega arith) (omega arith)))

  -- a union's words but for its discriminator
  pub union-words : (r : ℕ) (n : Name) (b : Data) (discriminator : Name) (c : ℕ) (l : List ℕ) → set (words_of f g h r (union_row n b discriminator c) ++ l) discriminator_word (k r discriminator) ≡ words_of f g k r (union_row n b discriminator c) ++ l
  union-words r n b discriminator c l = refl

-- all words but those of discriminators are the same: take the other's for a union
module _ (f g : Name → ℕ) (h k : ℕ → Name → ℕ) where
  pub head-words : (r : ℕ) (e : Entry) → take discriminator_word (words_of f g h r e) ≡ take discriminator_word (words_of f g k r e)
  head-words r (enum_row n c) = refl
  head-words r (alternate_row n c) = refl
  head-words r (value_row n) = refl
  head-words r (struct_row n b c) = refl
  head-words r (inline_row c) = refl
  head-words r (member_row m) = refl
  head-words r (union_row n b discriminator c) = refl
  head-words r (branch_row p) = refl
  head-words r (alternative_row p) = refl
  head-words r (command_row n b t oob) = refl

  word_alike : (r i : ℕ) (e : Entry) → i < discriminator_word → get_or (words_of f g h r e) i 0 ≡ get_or (words_of f g k r e) i 0
  word_alike r i e l =
      sym (get_or-take discriminator_word (words_of f g h r e) i 0 l) ∙ ap (λ w. get_or w i 0) (head-words r e) ∙ get_or-take discriminator_word (words_of f g k r e) i 0 l

  pub words_alike : (es : List Entry) → Alike (words_from f g h 0 es) (words_from f g k 0 es)
  words_alike es = record { same_word = λ r i l. go r i l (ltb r (length es)) refl }
    where
      go : (r i : ℕ) → i < discriminator_word → (b : Bool) → ltb r (length es) ≡ b → get_or (words_from f g h 0 es) (row_words * r + i) 0 ≡ get_or (words_from f g k 0 es) (row_words * r + i) 0
      go r i l true e =
          let m : r < length es = ltb-true r (length es) e in
          word-is f g h es r i m (omega arith) ∙ word_alike r i (get_or es r blank) l ∙ sym (word-is f g k es r i m (omega arith))
      go r i l false e =
          let m : length es ≤ r = ltb-false r (length es) e in
          word-past f g h es r i m ∙ sym (word-past f g k es r i m)

-- members are rows of the table
module _ (f g : Name → ℕ) (h : ℕ → Name → ℕ) (ds : List Definition) (p : EveryName Behind ds) where
  abbrev T : List ℕ
  T = table_from f g h 0 ds

  past : (r : ℕ) → row_count T ≤ r → kind T r ≡ 0
  past r l =
      let n : row_count T ≡ length (entries ds) = ap row_count (table-words f g h 0 ds) ∙ rows_are f g h (entries ds) in
      ap (λ t. kind t r) (table-words f g h 0 ds) ∙ kind-past f g h (entries ds) r (omega arith)

  pub child-there : (r c : ℕ) → Memᴰ c (children T r) → c < row_count T
  child-there r c m = go (ltb r (row_count T)) refl (ltb c (row_count T)) refl
    where
      go : (a : Bool) → ltb r (row_count T) ≡ a → (b : Bool) → ltb c (row_count T) ≡ b → c < row_count T
      go a e true q = ltb-true c (row_count T) q
      go true e false q =
          let k : kind T c ≡ suc (kind T r) = fit-child T r (laid_fit T (row_count T) 0 (table-laid_out f g h ds p) r zero-le (ltb-true r (row_count T) e)) c m in
          let z : kind T c ≡ 0 = past c (ltb-false c (row_count T) q) in
          absurd (omega arith)
      go false e false q =
          let z : kind T r ≡ 0 = past r (ltb-false r (row_count T) e) in
          elim (subst (Memᴰ c) (no_children T r (omega arith)) m) [ ]

  pub member-there : (n l : ℕ) (ms : List ℕ) → members T n l ≡ some ms → (m : ℕ) → Memᴰ m ms → m < row_count T
  unfolding members
  member-there zero zero ms e m i = let z : ms ≡ [] = cc in elim (subst (Memᴰ m) z i) [ ]
  member-there zero (suc r) ms e m i = absurd (none-not-some e)
  member-there (suc n) zero ms e m i = let z : ms ≡ [] = cc in elim (subst (Memᴰ m) z i) [ ]
  member-there (suc n) (suc r) ms e m i = go (members T n (base T r)) refl e (member-there n (base T r))
    where
      go : (o : Option (List ℕ)) → members T n (base T r) ≡ o → after o (children T r) ≡ some ms
          → ((ns : List ℕ) → members T n (base T r) ≡ some ns → (m : ℕ) → Memᴰ m ns → m < row_count T) → m < row_count T
      go none q e k = absurd (none-not-some e)
      go (some ns) q e k =
          let z : ms ≡ ns ++ children T r = cc in
          ⊎_elim (k ns q m) (child-there r m) (Memᴰ.append_cases ns (subst (Memᴰ m) z i))

  pub link-there : (S x : List ℕ) (n l : ℕ) → member_in_chain S T x (members T n l) ≤ row_count T
  link-there S x n l = go (members T n l) refl
    where
      found : (ms : List ℕ) → members T n l ≡ some ms → (k : ℕ) → member_in S T x ms ≡ k → k ≤ row_count T
      found ms e zero q = zero-le
      found ms e (suc m) q = member-there n l ms e m (member-found S T x ms m q).0

      go : (o : Option (List ℕ)) → members T n l ≡ o → member_in_chain S T x o ≤ row_count T
      go none e = zero-le
      go (some ms) e = found ms e (member_in S T x ms) refl
