-- The index of a sound table, filled definition by definition.
-- The idea: rows fall into definitions; a row within one is its own, its inline struct's or a child, and a child has no children. So every long list is met.
use Prim.{tt}
use Prim.Native.Nat.{ℕ, zero, suc, ◌%◌, ◌≤◌, ◌<◌}
use native.Mathlib.Nat.{eq-or-lt_of_le}
use native.Mathlib.Omega.{arith}
use mathlib.Core.Path.{◌≡◌, refl, sym, ap, ◌∙◌, subst}
use mathlib.Core.Bool.{Bool, true, false}
use mathlib.Core.Logic.{⊎_elim}
use mathlib.Core.List.{List, [], ◌∷◌, Memᴰ}
use lib.Dec.{eqb, ltb}
use lib.ListN.{length, take, replicate, length-replicate}
use borrow.Author.Tests.{ne_eqb, eqb-true, eqb-false, ltb-true, ltb-false, leb-true}
use Rattle.grammar.specs.Limits.{table_rows}
use Rattle.buckets.specs.Buckets.{buckets}
use Rattle.buckets.proofs.BucketLaws.{index_empty}
use Rattle.rules.specs.Kinds.{enum_kind, struct_kind, union_kind, alternate_kind}
use Rattle.rules.specs.Rows.{row_count, kind, next, owns, first_child, child_count, children, past_children}
use Rattle.rules.specs.Sound.{sound, definition_at, laid_out}
use Rattle.rules.proofs.Lists.{clash, and_left, and_right}
use Rattle.rules.proofs.TableRows.{next-above, next-only, no_children, owned-struct, first_plain, struct_plain, owner-first, first_above, past_children-least, in_children}
use Rattle.rows.specs.Rows.{Follows}
use Rattle.rules.proofs.SoundFacts.{SoundFacts, sound-facts}
use Rattle.table.proofs.LayoutFacts.{Left, left-all, left_stuck, left-on, left-none}
use Rattle.children.specs.Index.{index_words, short_list, heads_of, links_of, is_long, row_of, child_hash, Filled}
use Rattle.children.specs.Filling.{Listing, ListAdded, InlineAdded}
use Rattle.children.proofs.FillLaws.{chained_wider}

-- rows that have no children
module _ (T : List ℕ) where
  none_even : (r : ℕ) → kind T r % 2 ≡ 0 → child_count T r ≡ 0
  unfolding child_count
  none_even r e = rw (ne_eqb (kind T r) enum_kind (λ q. omega arith), ne_eqb (kind T r) struct_kind (λ q. omega arith), ne_eqb (kind T r) union_kind (λ q. omega arith), ne_eqb (kind T r) alternate_kind (λ q. omega arith))

  long-odd : (r : ℕ) → is_long T r ≡ true → kind T r % 2 ≡ 0 → ⊥
  unfolding is_long
  long-odd r t e = let l : short_list < child_count T r = ltb-true short_list (child_count T r) t in omega (arith, none_even r e)

  -- an inline struct's rows lie within its owner's
  pub inline_fits_lem : (r : ℕ) {b : Bool} {s : ℕ} → b ≡ owns T r → b ≡ true → Follows T r s → past_children T r ≤ table_rows → past_children T s ≤ table_rows
  inline_fits_lem r p t f h =
      let z : first_child T r ≡ past_children T (next T r) = owner-first T r (sym p ∙ t) in
      rw f.is (omega (arith, past_children-least T r))

-- the list of an inline struct
module _ {S T ix : List ℕ} {r : ℕ} {b : Bool} (p : b ≡ owns T r) where
  pub inline-list : b ≡ true → {s : ℕ} {ix' : List ℕ} → Follows T r s → ListAdded S T ix s ix' → InlineAdded S T ix r ix'
  inline-list t {ix' = ix'} f a = record { room = a.room; there = λ e. subst (λ (k : ℕ). ListAdded S T ix k ix') f.is a; none = λ e. absurd (clash (sym p ∙ t) e) }

  pub inline-none : b ≡ false → InlineAdded S T ix r ix
  inline-none t = record { room = refl; there = λ e. absurd (clash e (sym p ∙ t)); none = λ e. refl }

module _ (S T : List ℕ) (s : sound S T ≡ true) where
  facts : SoundFacts S T
  facts = sound-facts S T s

  laid : laid_out T (row_count T) 0 ≡ true
  unfolding sound
  laid = search (and_left, and_right) depth 13

  few_rows : row_count T ≤ table_rows
  unfolding sound
  few_rows = leb-true (row_count T) table_rows (search (and_left, and_right) depth 13)

  long-there : (r : ℕ) → is_long T r ≡ true → r < row_count T
  long-there r t = facts.row_there r (λ e. long-odd T r t (omega arith))

  -- a child's list is not long
  child-short : (r c : ℕ) → first_child T r ≤ c → c < past_children T r → is_long T c ≡ true → ⊥
  child-short r c h k t = go (eqb (kind T r % 2) 0) refl
    where
      m : Memᴰ c (children T r)
      m = in_children T r c h k

      go : (b : Bool) → eqb (kind T r % 2) 0 ≡ b → ⊥
      go true e = let z : kind T r % 2 ≡ 0 = eqb-true (kind T r % 2) 0 e in elim (subst (Memᴰ c) (no_children T r (omega arith)) m) [ ]
      go false e = let z : kind T r % 2 ≡ 0 → ⊥ = eqb-false (kind T r % 2) 0 e in long-odd T c t (omega (arith, facts.child_kind r c m))

-- the lists of the definitions before row r are in the index
pub record Filling (S T ix : List ℕ) (r : ℕ) : Type 0 where
  pub left : Left T r
  pub owners : List ℕ
  pub listing : Listing S T ix r owners
  pub all_long : (x : ℕ) → x < r → is_long T x ≡ true → Memᴰ x owners

take-replicate : (n k : ℕ) → n ≤ k → take n (replicate {A = ℕ} k 0) ≡ replicate n 0
take-replicate zero k h = refl
take-replicate (suc n) zero h = absurd (omega arith)
take-replicate (suc n) (suc k) h = ap (λ (l : List ℕ). 0 ∷ l) (take-replicate n k (omega arith))

no_heads : {ix : List ℕ} → ix ≡ replicate index_words 0 → heads_of ix ≡ replicate buckets 0
unfolding heads_of
no_heads e = ap (take buckets) e ∙ take-replicate buckets index_words (omega arith)

pub filling_start : {S T ix : List ℕ} → ix ≡ replicate index_words 0 → Filling S T ix 0
filling_start {S} {T} {ix} e = record {
  left = left-all T;
  owners = [];
  listing = record {
    items = [];
    chained = record { words = ap length e ∙ length-replicate {A = ℕ} index_words 0; chains = index_empty row_of (child_hash S T) (links_of ix) (no_heads e); below = tt; few = omega arith; owners = λ y m. elim m [ ] };
    owned = λ r m t. elim m [ ];
  };
  all_long = λ x h t. absurd (omega arith);
}

module _ {S T ix : List ℕ} (s : sound S T ≡ true) {r : ℕ} (v : Filling S T ix r) where
  pub filling_end : row_count T ≤ r → Filled S T ix
  filling_end h =
      let e : r ≡ row_count T = eqb-true r (row_count T) (left-none T r v.left h ∙ laid S T s) in
      record {
        items = v.listing.items;
        chained = chained_wider v.listing.chained (omega (arith, few_rows S T s));
        owned = λ x t. v.listing.owned x (v.all_long x (omega (arith, long-there S T s x t)) t) t;
      }

  module _ (h : r < row_count T) where
    definition : definition_at T r ≡ true
    definition = go (definition_at T r) refl
      where
        go : (b : Bool) → definition_at T r ≡ b → definition_at T r ≡ true
        go true e = e
        go false e = absurd (clash (laid S T s) (sym (left_stuck T r v.left h e)))

    left-past : Left T (past_children T r)
    left-past = left-on T r v.left (past_children T r) refl h definition

    pub filling_fits : past_children T r ≤ table_rows
    filling_fits = go (ltb (row_count T) (past_children T r)) refl
      where
        go : (b : Bool) → ltb (row_count T) (past_children T r) ≡ b → past_children T r ≤ table_rows
        go true e =
            let l : row_count T < past_children T r = ltb-true (row_count T) (past_children T r) e in
            let z : past_children T r ≡ row_count T = eqb-true (past_children T r) (row_count T) (left-none T (past_children T r) left-past (omega arith) ∙ laid S T s) in
            absurd (omega arith)
        go false e = let l : past_children T r ≤ row_count T = ltb-false (row_count T) (past_children T r) e in omega (arith, few_rows S T s)

    -- a long row within a definition, after its own, is its inline struct's
    inner-long : (x : ℕ) → r < x → x < past_children T r → is_long T x ≡ true → (owns T r ≡ true) × (x ≡ next T r)
    inner-long x y l t = own (ltb x (next T r)) refl (ltb x (first_child T r)) refl
      where
        inner : next T r ≤ x → x < first_child T r → (o : Bool) → owns T r ≡ o → (b : Bool) → ltb x (next T (next T r)) ≡ b → (owns T r ≡ true) × (x ≡ next T r)
        inner p k false e b q = absurd (omega (arith, first_plain T r e))
        inner p k true e true q = (e, sym (next-only T (next T r) x p (ltb-true x (next T (next T r)) q)))
        inner p k true e false q =
            let z : first_child T (next T r) ≡ next T (next T r) = first_plain T (next T r) (struct_plain T (next T r) (owned-struct T r e)) in
            let w : first_child T r ≡ past_children T (next T r) = owner-first T r e in
            absurd (child-short S T s (next T r) x (omega (arith, ltb-false x (next T (next T r)) q)) (omega arith) t)

        own : (b : Bool) → ltb x (next T r) ≡ b → (c : Bool) → ltb x (first_child T r) ≡ c → (owns T r ≡ true) × (x ≡ next T r)
        own true q c e = let z : r ≡ x = next-only T r x (omega arith) (ltb-true x (next T r) q) in absurd (omega arith)
        own false q true e = inner (ltb-false x (next T r) q) (ltb-true x (first_child T r) e) (owns T r) refl (ltb x (next T (next T r))) refl
        own false q false e = absurd (child-short S T s r x (ltb-false x (first_child T r) e) l t)

    all-met : (owners : List ℕ) → Memᴰ r owners → (owns T r ≡ true → Memᴰ (next T r) owners)
        → ((x : ℕ) → Memᴰ x v.owners → Memᴰ x owners) → (x : ℕ) → x < past_children T r → is_long T x ≡ true → Memᴰ x owners
    all-met owners own inner old x l t = go (ltb x r) refl
      where
        go : (b : Bool) → ltb x r ≡ b → Memᴰ x owners
        go true q = old x (v.all_long x (ltb-true x r q) t)
        go false q =
            ⊎_elim (λ (y : r ≡ x). subst (λ (z : ℕ). Memᴰ z owners) y own)
            (λ (y : r < x). let p = inner-long x y l t in subst (λ (z : ℕ). Memᴰ z owners) (sym p.1) (inner p.0)) (eq-or-lt_of_le (ltb-false x r q))

    module _ {ix₁ ix₂ : List ℕ} (i : InlineAdded S T ix r ix₁) (a : ListAdded S T ix₁ r ix₂) where
      with_inline : owns T r ≡ true → Filling S T ix₂ (past_children T r)
      with_inline e =
          let p : first_child T r ≡ past_children T (next T r) = owner-first T r e in
          record {
            left = left-past;
            owners = r ∷ next T r ∷ v.owners;
            listing = a.told (past_children T (next T r)) (next T r ∷ v.owners) ((i.there e).told r v.owners v.listing (omega (arith, next-above T r, first_above T (next T r)))) (omega arith);
            all_long = all-met (r ∷ next T r ∷ v.owners) (Memᴰ.head refl) (λ _. Memᴰ.tail (Memᴰ.head refl)) (λ x m. Memᴰ.tail (Memᴰ.tail m));
          }

      without_inline : owns T r ≡ false → Filling S T ix₂ (past_children T r)
      without_inline e = record {
        left = left-past;
        owners = r ∷ v.owners;
        listing = a.told r v.owners (subst (λ (w : List ℕ). Listing S T w r v.owners) (sym (i.none e)) v.listing) (omega (arith, first_above T r));
        all_long = all-met (r ∷ v.owners) (Memᴰ.head refl) (λ q. absurd (clash q e)) (λ x m. Memᴰ.tail m);
      }

      pub filling_on : {e : ℕ} → e ≡ past_children T r → Filling S T ix₂ e
      filling_on p = subst (Filling S T ix₂) (sym p) (go (owns T r) refl)
        where
          go : (b : Bool) → owns T r ≡ b → Filling S T ix₂ (past_children T r)
          go true e = with_inline e
          go false e = without_inline e
