-- What the words of entries say, row by row: kinds, names, inline structs, definitions, and where definitions are found.
-- The idea: an inline struct is the only struct whose name has start 0, and it stands behind its owner alone.
use Prim.Native.Nat.{ℕ, suc, ◌+◌, ◌*◌, ◌≤◌, ◌<◌}
use mathlib.Core.Path.{◌≡◌, refl, sym, ap, ◌∙◌}
use mathlib.Core.Bool.{Bool, true, false, not, ◌&&◌, ◌||◌, and-false}
use mathlib.Core.List.{List}
use mathlib.Core.Option.{none, some}
use native.Mathlib.Omega.{arith}
use lib.Dec.{eqb, ltb}
use lib.ListN.{length, get_or, get_or-eq_default}
use borrow.Author.Tests.{eq-eqb, ne_eqb, ltb-true, ltb-false}
use Rattle.grammar.specs.Limits.{row_words}
use Rattle.rules.specs.Kinds.{enum_kind, struct_kind, union_kind, alternate_kind, command_kind}
use Rattle.rules.specs.Definitions.{Name}
use Rattle.rules.specs.Definitions.Data.{inline, named}
use Rattle.rules.specs.SchemaTable.{bytes_of}
use Rattle.rules.specs.Serving.RawTable.{Every}
use Rattle.rules.specs.Rows.{row_count, kind, start, size, name_of}
use Rattle.rules.specs.Rows as Rows
use Rattle.rules.specs.Rules.{is_definition}
use Rattle.rules.specs.Serving.Cells.{Entry, blank, words_of, words_from, entry_kind, entry_name, is_inline_row, is_own, owns, EntryNames}
use Rattle.rules.specs.Serving.Cells.Entry.{enum_row, alternate_row, value_row, struct_row, inline_row, member_row, union_row, branch_row, alternative_row, command_row}
use Rattle.rules.proofs.Lists.{clash}
use Rattle.rules.proofs.Cells.{entry-words, length-words, word_at, every-at, Follow, follow-at, follow-last}

-- a name that stands behind something
abbrev pub Behind : Name → Type 0
Behind n = 0 < n.start

-- of its kind a definition, and no inline struct
pub definition_of : (e : Entry) → ((eqb (entry_kind e) enum_kind || eqb (entry_kind e) struct_kind || eqb (entry_kind e) union_kind || eqb (entry_kind e) alternate_kind || eqb (entry_kind e) command_kind) && not (is_inline_row e)) ≡ is_own e
definition_of (enum_row n c) = refl
definition_of (alternate_row n c) = refl
definition_of (value_row n) = refl
definition_of (struct_row n b c) = refl
definition_of (inline_row c) = refl
definition_of (member_row m) = refl
definition_of (union_row n b discriminator c) = refl
definition_of (branch_row p) = refl
definition_of (alternative_row p) = refl
definition_of (command_row n a t oob) = refl

module _ (f g : Name → ℕ) (h : ℕ → Name → ℕ) where
  -- an unnamed struct is the entry of an inline one: of an entry's words as a row of their own
  unnamed-entry : (r : ℕ) (e : Entry) → EntryNames Behind e → Rows.unnamed (words_of f g h r e) 0 ≡ is_inline_row e
  unfolding Rows.unnamed
  unnamed-entry r (inline_row c) b = refl
  unnamed-entry r (struct_row n d c) b = let k : n.start ≡ 0 → ⊥ = omega (arith, b.0) in rw (ne_eqb n.start 0 k)
  unnamed-entry r (enum_row n c) b = refl
  unnamed-entry r (alternate_row n c) b = refl
  unnamed-entry r (value_row n) b = refl
  unnamed-entry r (member_row m) b = refl
  unnamed-entry r (union_row n d discriminator c) b = refl
  unnamed-entry r (branch_row m) b = refl
  unnamed-entry r (alternative_row m) b = refl
  unnamed-entry r (command_row n a t oob) b = refl

  -- an owner's link is to the row after it
  abbrev links_on : ℕ → Entry → Bool
  links_on r p = (Rows.is_union (words_of f g h r p) 0 || Rows.is_command (words_of f g h r p) 0) && eqb (Rows.owner_link (words_of f g h r p) 0) (Rows.link (suc r))

  owner_link_lem : (r : ℕ) (p : Entry) → owns p ≡ true → links_on r p ≡ true
  owner_link_lem r (union_row n (inline ms) discriminator k) o = rw (eq-eqb (suc (suc r)) (suc (suc r)) refl)
  owner_link_lem r (command_row n (some (inline ms)) t oob) o = rw (eq-eqb (suc (suc r)) (suc (suc r)) refl)
  owner_link_lem r (union_row n (named m) discriminator k) o = absurd (clash o refl)
  owner_link_lem r (command_row n none t oob) o = absurd (clash o refl)
  owner_link_lem r (command_row n (some (named m)) t oob) o = absurd (clash o refl)
  owner_link_lem r (enum_row n k) o = absurd (clash o refl)
  owner_link_lem r (alternate_row n k) o = absurd (clash o refl)
  owner_link_lem r (value_row n) o = absurd (clash o refl)
  owner_link_lem r (struct_row n b k) o = absurd (clash o refl)
  owner_link_lem r (inline_row k) o = absurd (clash o refl)
  owner_link_lem r (member_row m) o = absurd (clash o refl)
  owner_link_lem r (branch_row m) o = absurd (clash o refl)
  owner_link_lem r (alternative_row m) o = absurd (clash o refl)

  module _ (es : List Entry) where
    -- the words of row r, counted from 0, and past the end
    pub word-is : (r i : ℕ) → r < length es → i < row_words → get_or (words_from f g h 0 es) (row_words * r + i) 0 ≡ get_or (words_of f g h r (get_or es r blank)) i 0
    word-is r i l k = let z : 0 + r ≡ r = omega arith in word_at f g h 0 es r i l k ∙ rw z

    pub word-past : (r i : ℕ) → length es ≤ r → get_or (words_from f g h 0 es) (row_words * r + i) 0 ≡ 0
    word-past r i l =
        let n : length (words_from f g h 0 es) ≡ row_words * length es = length-words f g h 0 es in
        get_or-eq_default (words_from f g h 0 es) 0 {n = row_words * r + i} (omega arith)

    pub rows_are : row_count (words_from f g h 0 es) ≡ length es
    rows_are = let n : length (words_from f g h 0 es) ≡ row_words * length es = length-words f g h 0 es in omega arith

    module _ (r : ℕ) (l : r < length es) where
      pub kind-is : kind (words_from f g h 0 es) r ≡ entry_kind (get_or es r blank)
      kind-is = word-is r 0 l (omega arith) ∙ ap (λ w. get_or w 0 0) (entry-words f g h r (get_or es r blank))

      pub start_is : start (words_from f g h 0 es) r ≡ (entry_name (get_or es r blank)).start
      start_is = word-is r 1 l (omega arith) ∙ ap (λ w. get_or w 1 0) (entry-words f g h r (get_or es r blank))

      pub size_is : size (words_from f g h 0 es) r ≡ (entry_name (get_or es r blank)).size
      size_is = word-is r 2 l (omega arith) ∙ ap (λ w. get_or w 2 0) (entry-words f g h r (get_or es r blank))

      pub name-is : (S : List ℕ) → name_of S (words_from f g h 0 es) r ≡ bytes_of S (entry_name (get_or es r blank))
      unfolding name_of
      name-is S = rw (start_is, size_is)

    pub kind-past : (r : ℕ) → length es ≤ r → kind (words_from f g h 0 es) r ≡ 0
    kind-past r l = word-past r 0 l

    -- a row's next is the next entry's
    pub next-is : (r : ℕ) → Rows.next (words_from f g h 0 es) r ≡ suc r
    unfolding Rows.next
    next-is r = refl

    module _ (behind : Every (EntryNames Behind) es) where
      -- inline structs are the entries that say so
      pub unnamed-is : (r : ℕ) → r < length es → Rows.unnamed (words_from f g h 0 es) r ≡ is_inline_row (get_or es r blank)
      unfolding Rows.unnamed
      unnamed-is r l =
          rw (word-is r 0 l (omega arith), word-is r 1 l (omega arith), word-is r 2 l (omega arith), word-is r 4 l (omega arith))
          (unnamed-entry r (get_or es r blank) (every-at (EntryNames Behind) blank es behind r l))

      pub unnamed-past : (r : ℕ) → length es ≤ r → Rows.unnamed (words_from f g h 0 es) r ≡ false
      unfolding Rows.unnamed
      unnamed-past r l = rw (kind-past r l)

      pub definition_is : (r : ℕ) → r < length es → is_definition (words_from f g h 0 es) r ≡ is_own (get_or es r blank)
      definition_is r l = rw (kind-is r l, unnamed-is r l) (definition_of (get_or es r blank))

      module _ (follow : Follow blank es) where
        -- an owner's inline struct follows it
        unnamed-after : (r : ℕ) → r < length es → Rows.unnamed (words_from f g h 0 es) (suc r) ≡ owns (get_or es r blank)
        unnamed-after r l = go (ltb (suc r) (length es)) refl
          where
            go : (b : Bool) → ltb (suc r) (length es) ≡ b → Rows.unnamed (words_from f g h 0 es) (suc r) ≡ owns (get_or es r blank)
            go true e = let k : suc r < length es = ltb-true (suc r) (length es) e in unnamed-is (suc r) k ∙ follow-at blank es follow r k
            go false e =
                let k : length es ≤ suc r = ltb-false (suc r) (length es) e in
                unnamed-past (suc r) k ∙ sym (follow-last blank es follow r (omega arith))

        pub owns-is : (r : ℕ) → r < length es → Rows.owns (words_from f g h 0 es) r ≡ owns (get_or es r blank)
        unfolding Rows.owns
        owns-is r l =
            rw (next-is r, word-is r 0 l (omega arith), word-is r 3 l (omega arith), unnamed-after r l) (go (owns (get_or es r blank)) refl)
          where
            go : (b : Bool) → owns (get_or es r blank) ≡ b → (links_on r (get_or es r blank) && b) ≡ b
            go true e = rw (owner_link_lem r (get_or es r blank) e)
            go false e = rw and-false
