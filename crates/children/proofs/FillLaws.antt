-- An index as it is filled, row by row and list by list.
-- The idea: every row in the index is below the next one to come, which is therefore on no chain; what is listed stays so.
use Prim.{tt}
use Prim.Native.Nat.{ℕ, suc, ◌-◌, ◌≤◌, ◌<◌}
use native.Mathlib.Omega.{arith}
use mathlib.Core.Path.{◌≡◌, refl, sym, ap, ◌∙◌, subst, subst₂}
use mathlib.Core.Bool.{Bool, true, false}
use mathlib.Core.Logic.{◌⊎◌, inl, inr, ⊎_elim}
use mathlib.Core.List.Memᴰ
use mathlib.Core.List.{List, [], ◌∷◌, Memᴰ}
use lib.Dec.{eqb}
use lib.ListN.{length, get_or, set}
use lib.Seq.{get_or-set_same, get_or-set_other}
use borrow.Author.Tests.{eqb-true, eqb-false}
use Rattle.grammar.specs.Limits.{table_rows}
use Rattle.buckets.specs.Buckets.{All, Indexed}
use Rattle.buckets.proofs.BucketLaws.{index-added}
use Rattle.strings.specs.Hashes.{hash_more, hash_of}
use Rattle.rules.specs.Rows.{walk, past, first_child, children, past_children, name_of}
use Rattle.rules.proofs.Lists.{clash}
use Rattle.rules.proofs.TableRows.{next-above, past_children-above, past_children-least}
use Rattle.rows.specs.Rows.{Follows, First, Counted as Sized}
use Rattle.rows.proofs.LoopLaws.{walk_at, walk-over, past_next, past-within, past-over}
use Rattle.rows.proofs.ChildLaws.{children-walk, children-past}
use Rattle.children.specs.Index.{index_words, count_place, links_of, owners_of, is_long, Child, child_at, row_of, child_hash, Noted, Chained, Owned}
use Rattle.children.specs.Filling.{Put, OwnerPut, Counted, Grown, ChildrenAdded, ListAdded}
use Rattle.children.proofs.PartLaws.{heads_wide, links_wide, owners-wide, put-room, put-counts, put-owners, put-added, counted-room, counted_heads, counted_links, counted-owners, counted-here, counted-other, owner-room, owner_heads, owner_links, owner-counts, owner-owners}

all_weaker : {A : Type 0} (P Q : A → Type 0) → ((y : A) → P y → Q y) → (ys : List A) → All P ys → All Q ys
all_weaker P Q f [] a = tt
all_weaker P Q f (y ∷ ys) a = (f y a.0, all_weaker P Q f ys a.1)

all-at : {A : Type 0} (P : A → Type 0) (ys : List A) → All P ys → (y : A) → Memᴰ y ys → P y
all-at P [] a y m = elim m [ ]
all-at P (x ∷ ys) a y m = ⊎_elim (λ e. subst P (sym e) a.0) (all-at P ys a.1 y) (Memᴰ.cases_cons m)

noted_so : {T ix ix' : List ℕ} {y : Child} → owners_of ix' ≡ owners_of ix → Noted T ix y → Noted T ix' y
noted_so {y = y} e d = record { child = d.child; note = ap (λ (l : List ℕ). get_or l y.row 0) e ∙ d.note }

module _ {S T ix : List ℕ} {items : List Child} {n : ℕ} (v : Chained S T ix items n) where
  pub chained_wider : {k : ℕ} → n ≤ k → Chained S T ix items k
  chained_wider {k} h = record {
    words = v.words;
    chains = v.chains;
    below = all_weaker (λ y. row_of y < n) (λ y. row_of y < k) (λ y (l : row_of y < n). omega arith) items v.below;
    few = omega (arith, v.few);
    owners = v.owners;
  }

  -- a count was stored
  chained-counted : {r : ℕ} {ix' : List ℕ} → Counted T ix r ix' → Chained S T ix' items n
  chained-counted p = record {
    words = counted-room p ∙ v.words;
    chains = subst₂ (λ (a b : List ℕ). Indexed row_of (child_hash S T) a b items) (sym (counted_heads p)) (sym (counted_links p)) v.chains;
    below = v.below;
    few = v.few;
    owners = λ y m. noted_so (counted-owners p) (v.owners y m);
  }

  -- row n came, a child of row r
  chained_more : {r hash : ℕ} {ix₁ ix₂ : List ℕ} → n < table_rows → hash ≡ child_hash S T (child_at n r) → Put ix hash n ix₁ → OwnerPut ix₁ n r ix₂ → Memᴰ n (children T r)
      → Chained S T ix₂ (child_at n r ∷ items) (suc n)
  chained_more {r} {ix₁ = ix₁} {ix₂} h q p o child =
      let room : n < length (links_of ix) = omega (arith, links_wide ix v.words) in
      let words : length ix₁ ≡ index_words = put-room h p ∙ v.words in
      let owners : owners_of ix₂ ≡ set (owners_of ix) n r = owner-owners o h ∙ ap (λ (l : List ℕ). set l n r) (put-owners h p) in
      record {
        words = owner-room o ∙ words;
        chains = subst₂ (λ (a b : List ℕ). Indexed row_of (child_hash S T) a b (child_at n r ∷ items)) (sym (owner_heads o)) (sym (owner_links o))
            (index-added row_of (child_hash S T) v.chains (child_at n r) (heads_wide ix v.words) room refl (sym q)
            (all_weaker (λ y. row_of y < n) (λ y. row_of y ≡ n → ⊥) (λ y (l : row_of y < n) e. omega arith) items v.below) (put-added h p));
        below = (omega arith, all_weaker (λ y. row_of y < n) (λ y. row_of y < suc n) (λ y (l : row_of y < n). omega arith) items v.below);
        few = omega (arith, v.few);
        owners = λ y m. ⊎_elim (new owners) (λ m'. old owners (v.owners y m') (all-at (λ x. row_of x < n) items v.below y m')) (Memᴰ.cases_cons m);
      }
    where
      new : {y : Child} → owners_of ix₂ ≡ set (owners_of ix) n r → y ≡ child_at n r → Noted T ix₂ y
      new {y} e q = subst (Noted T ix₂) (sym q)
          (record { child = child; note = ap (λ (l : List ℕ). get_or l n 0) e ∙ get_or-set_same (owners_of ix) n r 0 (omega (arith, owners-wide ix v.words)) })

      old : {y : Child} → owners_of ix₂ ≡ set (owners_of ix) n r → Noted T ix y → row_of y < n → Noted T ix₂ y
      old {y} e d l = record {
        child = d.child;
        note = ap (λ (z : List ℕ). get_or z y.row 0) e ∙ get_or-set_other (owners_of ix) n y.row r 0 (λ z. omega arith) ∙ d.note;
      }

-- the children of row r, from the first on: those but the n rows from c on came
pub record Growing (S T ix : List ℕ) (r c n : ℕ) (items : List Child) : Type 0 where
  pub more : List Child
  pub chained : Chained S T ix more c
  pub kept : (y : Child) → Memᴰ y items → Memᴰ y more
  pub come : (x : ℕ) → Memᴰ x (children T r) → Memᴰ x (walk T c n) ⊎ Memᴰ (child_at x r) more

pub record RunAdded (S T ix : List ℕ) (r c n : ℕ) (ix' : List ℕ) : Type 0 where
  pub room : length ix' ≡ length ix
  pub ends : past T c n ≡ past_children T r
  pub own : (x : ℕ) → Memᴰ x (walk T c n) → Memᴰ x (children T r)
  pub counts : (x : ℕ) → get_or ix' (count_place x) 0 ≡ get_or ix (count_place x) 0
  pub told : (items : List Child) → Chained S T ix items (first_child T r) → Growing S T ix' r c n items

pub run-start : {S T ix : List ℕ} {r a n : ℕ} → First T r a → Sized T r n → RunAdded S T ix r a n ix
run-start {S} {T} {ix} p q = record {
  room = refl;
  ends = children-past p q refl;
  own = λ x m. subst (Memᴰ x) (sym (children-walk p q)) m;
  counts = λ x. refl;
  told = λ items v. record {
    more = items;
    chained = subst (Chained S T ix items) (sym p.is) v;
    kept = λ y m. m;
    come = λ x m. inl (subst (Memᴰ x) (children-walk p q) m);
  };
}

module _ {S T ix ix₁ : List ℕ} {r c n : ℕ} (v : RunAdded S T ix r c n ix₁) where
  pub run-within : 0 < n → past_children T r ≤ table_rows → c < table_rows
  run-within h k = omega (arith, past-within T c n h, v.ends)

  pub run_more : {name ix₂ ix₃ : List ℕ} {k hash c' : ℕ} → 0 < n → past_children T r ≤ table_rows → name ≡ name_of S T c → k ≡ hash_of name → hash ≡ hash_more k r → Put ix₁ hash c ix₂
      → OwnerPut ix₂ c r ix₃ → Follows T c c' → RunAdded S T ix r c' (n - 1) ix₃
  run_more l w qn qm q p o f =
      let h : c < table_rows = run-within l w in
      record {
        room = owner-room o ∙ put-room h p ∙ v.room;
        ends = sym (past_next l f) ∙ v.ends;
        own = λ x m. v.own x (subst (Memᴰ x) (sym (walk_at T l f.is)) (Memᴰ.tail m));
        counts = λ x. owner-counts o h x ∙ put-counts h p x ∙ v.counts x;
        told = λ items w.
            let g = v.told items w in
            record {
              more = child_at c r ∷ g.more;
              chained =
                  chained_wider (chained_more g.chained h (q ∙ ap (λ (x : ℕ). hash_more x r) (qm ∙ ap hash_of qn)) p o (v.own c (subst (Memᴰ c) (sym (walk_at T l f.is)) (Memᴰ.head refl))))
                  (omega (arith, f.is, next-above T c));
              kept = λ y m. Memᴰ.tail (g.kept y m);
              come = λ x m. ⊎_elim
                  (λ i. ⊎_elim (λ (e : x ≡ c). inr (Memᴰ.head (ap (λ i. child_at i r) e))) inl (Memᴰ.cases_cons (subst (Memᴰ x) (walk_at T l f.is) i)))
                  (λ i. inr (Memᴰ.tail i)) (g.come x m);
            };
      }

  pub run_end : n ≤ 0 → ChildrenAdded S T ix r ix₁
  run_end h = record {
    room = v.room;
    counts = v.counts;
    told = λ items w.
        let g = v.told items w in
        record {
          more = g.more;
          chained = subst (Chained S T ix₁ g.more) (sym (past-over T c h) ∙ v.ends) g.chained;
          kept = g.kept;
          come = λ x m. ⊎_elim (λ i. elim (subst (Memᴰ x) (walk-over T c h) i) [ ]) (λ i. i) (g.come x m);
        };
  }

-- the list of row r
module _ {S T ix : List ℕ} {r : ℕ} where
  pub list-short : {b : Bool} → b ≡ is_long T r → b ≡ false → ListAdded S T ix r ix
  list-short p q = record {
    room = refl;
    told = λ n owners l h. record {
      items = l.items;
      chained = chained_wider l.chained (omega (arith, past_children-least T r));
      owned = λ x m t. ⊎_elim (λ (e : x ≡ r). absurd (clash t (ap (is_long T) e ∙ sym p ∙ q))) (λ m'. l.owned x m' t) (Memᴰ.cases_cons m);
    };
  }

  module _ {ix₁ ix₂ : List ℕ} (words : length ix ≡ index_words) (small : past_children T r ≤ table_rows)
      (v : ChildrenAdded S T ix r ix₁) (p : Counted T ix₁ r ix₂) where
    own : {items : List Child} (g : Grown S T ix₁ r items) → Owned T ix₂ g.more r
    own g = record { listed = g.come; counted = counted-here p (v.room ∙ words) (omega (arith, past_children-above T r)) }

    other : {items : List Child} (g : Grown S T ix₁ r items) (x : ℕ) → (x ≡ r → ⊥) → Owned T ix items x → Owned T ix₂ g.more x
    other g x n o = record { listed = λ c m. g.kept (child_at c x) (o.listed c m); counted = counted-other p x n ∙ v.counts x ∙ o.counted }

    pub list-long : ListAdded S T ix r ix₂
    list-long = record {
      room = counted-room p ∙ v.room;
      told = λ n owners l h.
          let g = v.told l.items (chained_wider l.chained h) in
          record { items = g.more; chained = chained-counted g.chained p; owned = λ x m t. go l.items g x (λ m'. l.owned x m' t) (Memᴰ.cases_cons m) (eqb x r) refl };
    }
      where
        go : {owners : List ℕ} (items : List Child) (g : Grown S T ix₁ r items) (x : ℕ) → (Memᴰ x owners → Owned T ix items x)
            → (x ≡ r) ⊎ Memᴰ x owners → (b : Bool) → eqb x r ≡ b → Owned T ix₂ g.more x
        go items g x old m true e = subst (Owned T ix₂ g.more) (sym (eqb-true x r e)) (own g)
        go items g x old m false e = other g x (eqb-false x r e) (⊎_elim (λ q. absurd (eqb-false x r e q)) old m)
