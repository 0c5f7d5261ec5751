-- A child looked up in the index: the walk along the chain of its bucket, and that what is found there is what a look at every child finds.
-- The idea: a child of that name has the bucket's hash, so it is on the chain; a row of the chain whose owner is the list's is a child, and no other child has that name.
use Prim.{tt}
use Prim.Native.Nat.{ℕ, zero, suc, ◌-◌, ◌≤◌, ◌<◌}
use native.Mathlib.Omega.{arith}
use mathlib.Core.Path.{◌≡◌, refl, sym, ap, ◌∙◌, subst₂}
use mathlib.Core.Bool.{Bool, true, false, cond}
use mathlib.Core.Logic.{◌⊎◌, inl, inr, ⊎_elim}
use mathlib.Core.List.Memᴰ
use mathlib.Core.List.{List, [], ◌∷◌, map, Memᴰ}
use lib.Dec.{eqb}
use lib.ListN.{length, get_or, length-map}
use borrow.Author.Tests.{eqb-true, eqb-false, eq-eqb, ne_eqb}
use Rattle.grammar.specs.Limits.{table_rows}
use Rattle.grammar.specs.Serving.Machine.Message.{message}
use Rattle.buckets.specs.Buckets.{bucket_of, Chain, in_bucket}
use Rattle.buckets.proofs.BucketLaws.{bucket-short, index-walk}
use Rattle.strings.specs.Hashes.{hash_more, hash_of}
use Rattle.rules.specs.Rows.{children, name_of}
use Rattle.rules.specs.SchemaTable.{member_in}
use Rattle.rules.proofs.Lists.{clash, and_left, and_right, same_true, same-is, in_map, apart_injective}
use Rattle.rules.proofs.Lookups.{member-found, member-finds}
use Rattle.rules.proofs.SoundFacts.{sound-facts}
use Rattle.rows.specs.Index.{itself}
use Rattle.buckets.proofs.ChainWalks.{walk_start, walk_end, walk_out}
use Rattle.rows.proofs.IndexLaws.{Walk, walk_hit, walk-on}
use Rattle.lookups.specs.Lookups.{NodeMeans}
use Rattle.children.specs.Index.{heads_of, links_of, owners_of, is_long, Child, child_at, row_of, child_hash, IndexedTable}
use Rattle.lookups.specs.Lookups.{MeaningAt}
use Rattle.children.specs.Lookup.{named_in, first_named, MeaningHash, RowMeant, ChildListed, ChildIndexed}
use Rattle.children.proofs.PartLaws.{head_at}
use Rattle.lookups.proofs.TokenLaws.{meaning_is}

-- whether a row is meant
module _ {S T m w owners : List ℕ} {r k c x : ℕ} (p : x ≡ get_or owners c 0) where
  pub meant_not : (x ≡ r → ⊥) → RowMeant S T m w owners r k c false
  meant_not n = record { told = λ cs u. rw (← p, ne_eqb x r n) }

  pub meant_own : x ≡ r → {name : List ℕ} {t : Bool} → name ≡ name_of S T c → NodeMeans message m w k name t → RowMeant S T m w owners r k c t
  meant_own e q g = record { told = λ cs u. rw (← p, eq-eqb x r e, ← q) (meaning_is g u) }

-- the walk along a chain
pub record ChildWalk (S T m w links owners : List ℕ) (head r k x n : ℕ) : Type 0 where
  pub walks : (cs : List ℕ) → MeaningAt m w k cs → Walk (first_named S T cs owners r) links head table_rows x n

pub child-walk : {S T m w links owners : List ℕ} {head r k : ℕ} → ChildWalk S T m w links owners head r k head table_rows
child-walk {S} {T} {links = links} {owners} {r = r} = record { walks = λ cs u. walk_start }

module _ {S T m w links owners : List ℕ} {head r k x n : ℕ} (v : ChildWalk S T m w links owners head r k x n) where
  pub listed-on : {b : Bool} {y : ℕ} → 0 < x → RowMeant S T m w owners r k (x - 1) b → b ≡ false → y ≡ get_or links (x - 1) 0 → ChildWalk S T m w links owners head r k y (n - 1)
  unfolding first_named
  listed-on h g t p = record { walks = λ cs u. walk-on (v.walks cs u) h p (λ rs. rw (sym (g.told cs u) ∙ t)) }

module _ {S T m w ix : List ℕ} {head r k x n : ℕ} (v : ChildWalk S T m w (links_of ix) (owners_of ix) head r k x n) where
  pub listed_hit : {b : Bool} → 0 < x → RowMeant S T m w (owners_of ix) r k (x - 1) b → b ≡ true → ChildListed S T m w ix head r k x
  unfolding first_named
  listed_hit h g t = record {
    told = λ cs u rs c l. let z : suc (x - 1) ≡ x = omega arith in (walk_hit (v.walks cs u) h x (λ rs. rw (sym (g.told cs u) ∙ t) z)).told rs c l tt;
  }

  pub listed-end : x ≡ 0 → ChildListed S T m w ix head r k 0
  unfolding first_named
  listed-end z = record { told = λ cs u rs c l. (walk_end (v.walks cs u) z).told rs c l tt }

  pub listed_out : n ≤ 0 → ChildListed S T m w ix head r k 0
  unfolding first_named
  listed_out z = record { told = λ cs u rs c l. (walk_out (v.walks cs u) z).told rs c l tt }

-- an item is in the bucket of its hash
in_bucket_lem : {A : Type 0} (hash : A → ℕ) (h : ℕ) (ys : List A) (y : A) → Memᴰ y ys → bucket_of (hash y) ≡ h → Memᴰ y (in_bucket hash h ys)
in_bucket_lem hash h [] y m e = elim m [ ]
in_bucket_lem hash h (z ∷ ys) y m e = go (eqb (bucket_of (hash z)) h) refl (Memᴰ.cases_cons m) (λ p. in_bucket_lem hash h ys y p e)
  where
    go : (b : Bool) → eqb (bucket_of (hash z)) h ≡ b → (y ≡ z) ⊎ Memᴰ y ys → (Memᴰ y ys → Memᴰ y (in_bucket hash h ys))
        → Memᴰ y (cond b (z ∷ in_bucket hash h ys) (in_bucket hash h ys))
    go true q (inl d) r = Memᴰ.head d
    go true q (inr p) r = Memᴰ.tail (r p)
    go false q (inl d) r = absurd (eqb-false (bucket_of (hash z)) h q (ap (λ w. bucket_of (hash w)) (sym d) ∙ e))
    go false q (inr p) r = r p

of_bucket : {A : Type 0} (hash : A → ℕ) (h : ℕ) (ys : List A) (y : A) → Memᴰ y (in_bucket hash h ys) → Memᴰ y ys
of_bucket hash h [] y m = m
of_bucket hash h (z ∷ ys) y m = go (eqb (bucket_of (hash z)) h) m (of_bucket hash h ys y)
  where
    go : (b : Bool) → Memᴰ y (cond b (z ∷ in_bucket hash h ys) (in_bucket hash h ys)) → (Memᴰ y (in_bucket hash h ys) → Memᴰ y ys) → Memᴰ y (z ∷ ys)
    go true m r = ⊎_elim (λ e. Memᴰ.head e) (λ i. Memᴰ.tail (r i)) (Memᴰ.cases_cons m)
    go false m r = Memᴰ.tail (r m)

-- a chain of items is one of their rows
chain-rows : (links : List ℕ) (x : ℕ) (ys : List Child) → Chain row_of links x ys → Chain itself links x (map row_of ys)
chain-rows links x [] c = c
chain-rows links x (y ∷ ys) c = (c.0, chain-rows links (get_or links (row_of y) 0) ys c.1)

-- what is found in a list of rows
module _ (S T cs owners : List ℕ) (r : ℕ) where
  named-true : (c : ℕ) → named_in S T cs owners r c ≡ true → (get_or owners c 0 ≡ r) × (name_of S T c ≡ cs)
  named-true c t =
      (eqb-true (get_or owners c 0) r (search (and_left, and_right)), sym (same_true cs (name_of S T c) (search (and_left, and_right))))

  named-is : (c : ℕ) → get_or owners c 0 ≡ r → name_of S T c ≡ cs → named_in S T cs owners r c ≡ true
  named-is c h p = rw (eq-eqb (get_or owners c 0) r h, same-is cs (name_of S T c) (sym p))

  first-none : (rs : List ℕ) → ((c : ℕ) → Memᴰ c rs → named_in S T cs owners r c ≡ true → ⊥) → first_named S T cs owners r rs ≡ 0
  unfolding first_named
  first-none [] n = refl
  first-none (c ∷ rs) n = go (named_in S T cs owners r c) refl (first-none rs (λ d m. n d (Memᴰ.tail m)))
    where
      go : (b : Bool) → named_in S T cs owners r c ≡ b → first_named S T cs owners r rs ≡ 0 → cond b (suc c) (first_named S T cs owners r rs) ≡ 0
      go true q e = absurd (n c (Memᴰ.head refl) q)
      go false q e = e

  first-only : (rs : List ℕ) (x : ℕ) → ((c : ℕ) → Memᴰ c rs → named_in S T cs owners r c ≡ true → c ≡ x) → named_in S T cs owners r x ≡ true → Memᴰ x rs
      → first_named S T cs owners r rs ≡ suc x
  unfolding first_named
  first-only [] x o t m = elim m [ ]
  first-only (c ∷ rs) x o t m = go (named_in S T cs owners r c) refl (Memᴰ.cases_cons m) (first-only rs x (λ d i. o d (Memᴰ.tail i)) t)
    where
      go : (b : Bool) → named_in S T cs owners r c ≡ b → (x ≡ c) ⊎ Memᴰ x rs → (Memᴰ x rs → first_named S T cs owners r rs ≡ suc x)
          → cond b (suc c) (first_named S T cs owners r rs) ≡ suc x
      go true q i e = ap suc (o c (Memᴰ.head refl) q)
      go false q (inl d) e = absurd (clash (ap (named_in S T cs owners r) (sym d) ∙ t) q)
      go false q (inr p) e = e p

-- the index of a sound table, asked for a child of row r
module _ {S T ix : List ℕ} (g : IndexedTable S T ix) (cs : List ℕ) (r : ℕ) (long : is_long T r ≡ true) where
  one-child : (c d : ℕ) → Memᴰ c (children T r) → Memᴰ d (children T r) → name_of S T c ≡ cs → name_of S T d ≡ cs → c ≡ d
  one-child c d m m' p q = apart_injective (name_of S T) (children T r) ((sound-facts S T g.sound_table).children_apart r) c d m m' (p ∙ sym q)

  abbrev bucket : List Child
  bucket = in_bucket (child_hash S T) (bucket_of (hash_more (hash_of cs) r)) g.filled.items

  on_chain : (c : ℕ) → Memᴰ c (children T r) → name_of S T c ≡ cs → Memᴰ c (map row_of bucket)
  on_chain c m p =
      in_map row_of bucket (child_at c r)
      (in_bucket_lem (child_hash S T) (bucket_of (hash_more (hash_of cs) r)) g.filled.items (child_at c r) ((g.filled.owned r long).listed c m)
      (ap (λ (l : List ℕ). bucket_of (hash_more (hash_of l) r)) p))

  -- a row of the chain that r is noted for is a child of r
  its_child : (c : ℕ) → Memᴰ c (map row_of bucket) → get_or (owners_of ix) c 0 ≡ r → Memᴰ c (children T r)
  its_child c m e =
      let y = Memᴰ.of_map row_of bucket m in
      let d = g.filled.chained.owners y.0 (of_bucket (child_hash S T) (bucket_of (hash_more (hash_of cs) r)) g.filled.items y.0 y.1) in
      let o : y.0.owner ≡ r = sym d.note ∙ ap (λ (i : ℕ). get_or (owners_of ix) i 0) y.2 ∙ e in
      subst₂ (λ (i j : ℕ). Memᴰ i (children T j)) y.2 o d.child

  bucket-finds : first_named S T cs (owners_of ix) r (map row_of bucket) ≡ member_in S T cs (children T r)
  bucket-finds = go (member_in S T cs (children T r)) refl
    where
      found : (c : ℕ) → Memᴰ c (map row_of bucket) → named_in S T cs (owners_of ix) r c ≡ true → Memᴰ c (children T r) × (name_of S T c ≡ cs)
      found c m t = let n = named-true S T cs (owners_of ix) r c t in (its_child c m n.0, n.1)

      go : (x : ℕ) → member_in S T cs (children T r) ≡ x → first_named S T cs (owners_of ix) r (map row_of bucket) ≡ x
      go zero q =
          first-none S T cs (owners_of ix) r (map row_of bucket)
          (λ c i t.
          let f = found c i t in
          let z : member_in S T cs (children T r) ≡ suc c = member-finds S T cs (children T r) c (λ y m p. one-child y c m f.0 p f.1) f.0 f.1 in
          omega arith)
      go (suc c) q =
          let f = member-found S T cs (children T r) c q in
          first-only S T cs (owners_of ix) r (map row_of bucket) c (λ d i t. let n = found d i t in one-child d c n.0 f.0 n.1 f.1)
          (named-is S T cs (owners_of ix) r c (g.filled.chained.owners (child_at c r) ((g.filled.owned r long).listed c f.0)).note f.1) (on_chain c f.0 f.1)

  pub listed_child : {m w : List ℕ} {head k x : ℕ} → MeaningAt m w k cs → head ≡ get_or ix (bucket_of (hash_more (hash_of cs) r)) 0 → ChildListed S T m w ix head r k x
      → x ≡ member_in S T cs (children T r)
  listed_child {head = head} u p l =
      let chained = g.filled.chained in
      let h : head ≡ get_or (heads_of ix) (bucket_of (hash_more (hash_of cs) r)) 0 = p ∙ sym (head_at ix (bucket_of (hash_more (hash_of cs) r)) (omega arith)) in
      let n : length (map row_of bucket) ≤ table_rows = omega (arith, length-map bucket row_of, bucket-short (child_hash S T) (bucket_of (hash_more (hash_of cs) r)) g.filled.items, chained.few) in
      sym (l.told cs u (map row_of bucket) (chain-rows (links_of ix) head bucket (index-walk row_of (child_hash S T) chained.chains (hash_more (hash_of cs) r) h)) n) ∙ bucket-finds

pub child_indexed : {S T m w ix : List ℕ} {r k own hash head h x : ℕ} → MeaningHash m w k own → hash ≡ hash_more own r → h ≡ bucket_of hash → head ≡ get_or ix h 0
    → ChildListed S T m w ix head r k x → ChildIndexed S T m w ix r k x
child_indexed {ix = ix} {r = r} o p z q l = record {
  told = λ long cs g u.
      listed_child g cs r long u (q ∙ ap (λ (y : ℕ). get_or ix y 0) (z ∙ ap bucket_of (p ∙ ap (λ (y : ℕ). hash_more y r) (o.told cs u)))) l;
}
