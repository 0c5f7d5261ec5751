-- The words of definitions are laid out: each definition is followed by its inline struct, if it has one, and its children.
-- The idea: a part of the entries stands from a row on; a definition's rows are such parts, one after the other.
use Prim.Native.Nat.{ℕ, zero, suc, ◌+◌, ◌≤◌, ◌<◌}
use mathlib.Core.Path.{◌≡◌, refl, sym, ap, ◌∙◌}
use mathlib.Core.Bool.{Bool, true, false, not, ◌&&◌, ◌||◌}
use mathlib.Core.List.{List, [], ◌∷◌, ◌++◌, map, append-nil}
use mathlib.Core.Option.{Option, none, some}
use native.Mathlib.Nat.{add-zero}
use native.Mathlib.Omega.{arith}
use lib.Dec.{eqb}
use lib.ListN.{length, get_or, length-append, get_or-append}
use lib.Seq.{get_or-append-add}
use borrow.Author.Tests.{eq-eqb}
use Rattle.rules.specs.Values.{◌>>=◌}
use Rattle.rules.specs.Definitions.{Name, Member, Body, Definition}
use Rattle.rules.specs.Definitions.Body.{enum, struct, union, alternate, command}
use Rattle.rules.specs.SchemaTable.{inline_members, table_from}
use Rattle.rules.specs.Serving.RawTable.{Every, EveryName}
use Rattle.rules.specs.Rows.{row_count, kind, count, walk, past, first_child, child_count, children, past_children}
use Rattle.rules.specs.Rows as Rows
use Rattle.rules.specs.Rules.{is_definition}
use Rattle.rules.specs.Sound.{children_fit, definition_at, laid_out}
use Rattle.rules.specs.Serving.Cells.{Entry, blank, inline_entries, own_entry, child_entries, entries, words_of, words_from, entry_kind, is_own, owns, is_inline, entry_children, EntryNames}
use Rattle.rules.specs.Serving.Cells.Entry.{enum_row, alternate_row, value_row, struct_row, inline_row, member_row, union_row, branch_row, alternative_row, command_row}
use Rattle.grammar.specs.Notation.{all}
use Rattle.rules.proofs.Lists.{and_of, or_right}
use Rattle.rules.proofs.Cells.{length-map, table-words, entry_names, Follow, entries-follow}
use Rattle.rules.proofs.CellRows.{Behind, word-is, rows_are, kind-is, next-is, owns-is, definition_is}

-- the entries xs are those of es from row b on
pub record Stands (es : List Entry) (b : ℕ) (xs : List Entry) : Type 0 where
  pub fits : b + length xs ≤ length es
  pub same_at : (j : ℕ) → j < length xs → get_or es (b + j) blank ≡ get_or xs j blank

pub stands-whole : (es : List Entry) → Stands es 0 es
stands-whole es = record { fits = omega arith; same_at = λ j h. let z : 0 + j ≡ j = omega arith in rw z }

module _ {es : List Entry} {b : ℕ} where
  pub stands-head : {x : Entry} {xs : List Entry} → Stands es b (x ∷ xs) → (b < length es) × (get_or es b blank ≡ x)
  stands-head s = (let k = s.fits in omega arith, let k : b + 0 ≡ b = add-zero b in rw k at (s.same_at 0 (omega arith)))

  pub stands-left : (xs ys : List Entry) → Stands es b (xs ++ ys) → Stands es b xs
  stands-left xs ys s =
      let n : length (xs ++ ys) ≡ length xs + length ys = length-append xs ys in
      record { fits = omega (arith, s.fits); same_at = λ j h. s.same_at j (omega arith) ∙ get_or-append xs ys blank j h }

  pub stands_right : (xs ys : List Entry) → Stands es b (xs ++ ys) → Stands es (b + length xs) ys
  stands_right xs ys s =
      let n : length (xs ++ ys) ≡ length xs + length ys = length-append xs ys in
      record {
        fits = omega (arith, s.fits);
        same_at = λ j h.
            let k : b + length xs + j ≡ b + (length xs + j) = omega arith in
            rw k (s.same_at (length xs + j) (omega arith) ∙ get_or-append-add xs ys j blank);
      }

  pub stands-tail : {x : Entry} {xs : List Entry} → Stands es b (x ∷ xs) → Stands es (suc b) xs
  stands-tail {x} {xs} s =
      record {
        fits = omega (arith, s.fits);
        same_at = λ j h. let k : suc b + j ≡ b + suc j = omega arith in rw k (s.same_at (suc j) (omega arith));
      }

module _ (f g : Name → ℕ) (h : ℕ → Name → ℕ) (es : List Entry) where
  -- counts of children, of an entry's words as a row of their own
  children_of : (r : ℕ) (e : Entry) → child_count (words_of f g h r e) 0 ≡ entry_children e
  unfolding child_count
  children_of r (enum_row n c) = refl
  children_of r (alternate_row n c) = refl
  children_of r (value_row n) = refl
  children_of r (struct_row n b c) = refl
  children_of r (inline_row c) = refl
  children_of r (member_row m) = refl
  children_of r (union_row n b discriminator c) = refl
  children_of r (branch_row p) = refl
  children_of r (alternative_row p) = refl
  children_of r (command_row n a t oob) = refl

  pub child_count-is : (r : ℕ) → r < length es → child_count (words_from f g h 0 es) r ≡ entry_children (get_or es r blank)
  unfolding child_count
  child_count-is r l =
      rw (word-is f g h es r 0 l (omega arith), word-is f g h es r 3 l (omega arith), word-is f g h es r 4 l (omega arith)) (children_of r (get_or es r blank))

  abbrev T : List ℕ
  T = words_from f g h 0 es

  -- rows of one kind, one after the other
  kinds_fit_lem : {A : Type 0} (c : A → Entry) (k : ℕ) → ((x : A) → entry_kind (c x) ≡ k) → (b : ℕ) (xs : List A) → Stands es b (map c xs)
      → all (λ j. eqb (kind T j) k) (walk T b (length xs)) ≡ true
  unfolding walk
  kinds_fit_lem c k e b [] s = refl
  kinds_fit_lem c k e b (x ∷ xs) s =
      let o = stands-head s in
      let z : kind T b ≡ k = kind-is f g h es b o.0 ∙ ap entry_kind o.1 ∙ e x in
      rw (next-is f g h es b)
      (and_of (eqb (kind T b) k) (all (λ j. eqb (kind T j) k) (walk T (suc b) (length xs))) (eq-eqb (kind T b) k z) (kinds_fit_lem c k e (suc b) xs (stands-tail s)))

  -- the row after them
  pub past_is : (n b : ℕ) → past T b n ≡ b + n
  unfolding past
  past_is zero b = sym (add-zero b)
  past_is (suc n) b = rw (next-is f g h es b) (past_is n (suc b) ∙ (let k : suc b + n ≡ b + suc n = omega arith in k))

  module _ (follow : Follow blank es) (behind : Every (EntryNames Behind) es) where
    owner-is : (a : ℕ) (e : Entry) (xs : List Entry) (b : Bool) → Stands es a (e ∷ xs) → owns e ≡ b → Rows.owns T a ≡ b
    owner-is a e xs b s o = let p = stands-head s in owns-is f g h es behind follow a p.0 ∙ ap owns p.1 ∙ o

    -- where the children of an entry begin: directly after it, or after its inline struct
    first-is : (a : ℕ) (e : Entry) (i : Option (List Member)) (xs : List Entry) → Stands es a (e ∷ inline_entries i ++ xs) → owns e ≡ is_inline i → first_child T a ≡ suc a + length (inline_entries i)
    unfolding first_child
    first-is a e none xs s o = rw (owner-is a e xs false s o, next-is f g h es a, add-zero (suc a))
    first-is a e (some ms) xs s o =
        let q = stands-head (stands-tail s) in
        let c : count T (suc a) ≡ length ms = word-is f g h es (suc a) 3 q.0 (omega arith) ∙ ap (λ x. get_or (words_of f g h (suc a) x) 3 0) q.1 in
        let m : length (map member_row ms) ≡ length ms = length-map member_row ms in
        rw (owner-is a e (inline_entries (some ms) ++ xs) true s o, next-is f g h es a, next-is f g h es (suc a), c, past_is (length ms) (suc (suc a))) (omega arith)

    pub children-are : (a : ℕ) (e : Entry) (i : Option (List Member)) (xs : List Entry) → Stands es a (e ∷ inline_entries i ++ xs) → owns e ≡ is_inline i
        → children T a ≡ walk T (suc a + length (inline_entries i)) (entry_children e)
    unfolding children
    children-are a e i xs s o =
        let p = stands-head s in
        rw (first-is a e i xs s o, child_count-is a p.0, p.1)

    children_fit_lem : {A : Type 0} (a : ℕ) (e : Entry) (i : Option (List Member)) (c : A → Entry) (xs : List A) → Stands es a (e ∷ inline_entries i ++ map c xs) → owns e ≡ is_inline i
        → entry_children e ≡ length xs → ((x : A) → entry_kind (c x) ≡ suc (entry_kind e)) → children_fit T a ≡ true
    children_fit_lem a e i c xs s o n k =
        let p = stands-head s in
        let q : kind T a ≡ entry_kind e = kind-is f g h es a p.0 ∙ ap entry_kind p.1 in
        rw (children-are a e i (map c xs) s o, n, q)
        (kinds_fit_lem c (suc (entry_kind e)) k (suc a + length (inline_entries i)) xs (stands_right (inline_entries i) (map c xs) (stands-tail s)))

    inline_fits_lem : (a : ℕ) (e : Entry) (i : Option (List Member)) (xs : List Entry) → Stands es a (e ∷ inline_entries i ++ xs) → owns e ≡ is_inline i
        → not (Rows.owns T a) || children_fit T (Rows.next T a) ≡ true
    inline_fits_lem a e (some ms) xs s o =
        or_right (not (Rows.owns T a)) (children_fit T (Rows.next T a))
        (rw (next-is f g h es a) (children_fit_lem (suc a) (inline_row (length ms)) none member_row ms (stands-left (inline_row (length ms) ∷ map member_row ms) xs (stands-tail s)) refl refl (λ _. refl)))
    inline_fits_lem a e none xs s o = rw (owner-is a e xs false s o)

    -- one definition
    laid_one : {A : Type 0} (a : ℕ) (e : Entry) (i : Option (List Member)) (c : A → Entry) (xs : List A) → Stands es a (e ∷ inline_entries i ++ map c xs) → owns e ≡ is_inline i
        → entry_children e ≡ length xs → ((x : A) → entry_kind (c x) ≡ suc (entry_kind e)) → is_own e ≡ true
        → (definition_at T a ≡ true) × (past_children T a ≡ a + suc (length (inline_entries i ++ map c xs)))
    unfolding past_children
    laid_one a e i c xs s o n k w =
        let p = stands-head s in
        let q : is_definition T a ≡ true = definition_is f g h es behind a p.0 ∙ ap is_own p.1 ∙ w in
        let fit = children_fit_lem a e i c xs s o n k in
        let j = inline_fits_lem a e i (map c xs) s o in
        let m : first_child T a ≡ suc a + length (inline_entries i) = first-is a e i (map c xs) s o in
        let y : child_count T a ≡ length xs = child_count-is a p.0 ∙ ap entry_children p.1 ∙ n in
        let z : length (inline_entries i ++ map c xs) ≡ length (inline_entries i) + length xs = length-append (inline_entries i) (map c xs) ∙ rw (length-map c xs) in
        (rw (fit, j, q), past_is (child_count T a) (first_child T a) ∙ omega arith)

    laid_body : (a : ℕ) (n : Name) (b : Body) → Stands es a (own_entry n b ∷ child_entries b)
        → (definition_at T a ≡ true) × (past_children T a ≡ a + suc (length (child_entries b)))
    laid_body a n (enum vs) s = laid_one a (enum_row n (length vs)) none value_row vs s refl refl (λ _. refl) refl
    laid_body a n (struct b ms) s = laid_one a (struct_row n b (length ms)) none member_row ms s refl refl (λ _. refl) refl
    laid_body a n (union b discriminator bs) s = laid_one a (union_row n b discriminator (length bs)) (inline_members b) branch_row bs s refl refl (λ _. refl) refl
    laid_body a n (alternate alts) s = laid_one a (alternate_row n (length alts)) none alternative_row alts s refl refl (λ _. refl) refl
    laid_body a n (command d t oob) s =
        let i : Option (List Member) = d >>= inline_members in
        let z : inline_entries i ++ [] ≡ inline_entries i = append-nil (inline_entries i) in
        rw z at (laid_one {A = ⊥} a (command_row n d t oob) i (λ x. absurd x) [] (rw z s) refl refl (λ x. absurd x) refl)

    laid_end : (a n : ℕ) → a ≡ length es → laid_out T n a ≡ true
    unfolding laid_out
    laid_end a zero e = eq-eqb a (row_count T) (e ∙ sym (rows_are f g h es))
    laid_end a (suc n) e = rw (eq-eqb a (row_count T) (e ∙ sym (rows_are f g h es)))

    laid_next : (a n : ℕ) → definition_at T a ≡ true → laid_out T n (past_children T a) ≡ true → laid_out T (suc n) a ≡ true
    unfolding laid_out
    laid_next a n p q = or_right (eqb a (row_count T)) (definition_at T a && laid_out T n (past_children T a)) (rw (p, q))

    pub laid_out_lem : (ds : List Definition) (n a : ℕ) → Stands es a (entries ds) → a + length (entries ds) ≡ length es → length (entries ds) ≤ n → laid_out T n a ≡ true
    unfolding entries
    laid_out_lem [] n a s e l = laid_end a n (omega arith)
    laid_out_lem (d ∷ ds) zero a s e l = absurd (omega arith)
    laid_out_lem (d ∷ ds) (suc n) a s e l =
        let own : List Entry = own_entry d.name d.body ∷ child_entries d.body in
        let p = laid_body a d.name d.body (stands-left own (entries ds) s) in
        let m : length (own ++ entries ds) ≡ length own + length (entries ds) = length-append own (entries ds) in
        laid_next a n p.0 (rw p.1 (laid_out_lem ds n (a + length own) (stands_right own (entries ds) s) (omega arith) (omega arith)))

-- the table of definitions whose names stand behind something, whatever their references become
pub table-laid_out : (f g : Name → ℕ) (h : ℕ → Name → ℕ) (ds : List Definition) → EveryName Behind ds
    → laid_out (table_from f g h 0 ds) (row_count (table_from f g h 0 ds)) 0 ≡ true
table-laid_out f g h ds p =
    let n : row_count (words_from f g h 0 (entries ds)) ≡ length (entries ds) = rows_are f g h (entries ds) in
    rw (table-words f g h 0 ds)
    (laid_out_lem f g h (entries ds) (entries-follow ds blank refl) (entry_names Behind ds p) ds (row_count (words_from f g h 0 (entries ds))) 0 (stands-whole (entries ds)) (omega arith) (omega arith))
