-- An index of items: what it is when empty, what an item more makes of it, and what the walk along a bucket's chain finds.
-- The idea: a store at an item that is on no chain leaves every chain as it is; items of another bucket have another hash.
use Prim.{tt}
use Prim.Native.Nat.{ℕ, suc, ◌-◌, ◌≤◌, ◌<◌}
use native.Mathlib.Omega.{arith}
use mathlib.Core.Path.{◌≡◌, refl, sym, ap, ◌∙◌, subst}
use mathlib.Core.Bool.{Bool, true, false, cond, ◌&&◌}
use mathlib.Core.List.{List, [], ◌∷◌}
use lib.Dec.{eqb}
use lib.ListN.{length, get_or, set, replicate, get_or-replicate}
use lib.Seq.{get_or-set_same, get_or-set_other}
use borrow.Author.Tests.{eqb-true, eqb-false, eq-eqb}
use Rattle.grammar.specs.Notation.{all}
use Rattle.buckets.specs.Buckets.{buckets, bucket_of, Added, All, Free, Chain, in_bucket, Linked, Indexed}

module _ {A : Type 0} (place : A → ℕ) where
  -- a store at an item that is on no chain
  chain-kept : (links : List ℕ) (i w x : ℕ) (ys : List A) → Free place i ys → Chain place links x ys → Chain place (set links i w) x ys
  chain-kept links i w x [] f c = c
  chain-kept links i w x (y ∷ ys) f c =
      (c.0, rw (get_or-set_other links i (place y) w 0 f.0) (chain-kept links i w (get_or links (place y) 0) ys f.1 c.1))

  -- a walk ends at 0
  pub chain-end : (links : List ℕ) (ys : List A) → Chain place links 0 ys → ys ≡ []
  chain-end links [] c = refl
  chain-end links (y ∷ ys) c = absurd (omega (arith, c.0))

  -- any other word is that of an item, and the item's link that of the rest
  pub record Step (links : List ℕ) (x : ℕ) (ys : List A) : Type 0 where
    pub item : A
    pub rest : List A
    pub items : ys ≡ item ∷ rest
    pub at : place item ≡ x - 1
    pub after : Chain place links (get_or links (x - 1) 0) rest

  pub chain-step : (links : List ℕ) (x : ℕ) (ys : List A) → 0 < x → Chain place links x ys → Step links x ys
  chain-step links x [] h c = absurd (omega arith)
  chain-step links x (y ∷ ys) h c =
      let e : place y ≡ x - 1 = omega (arith, c.0) in
      record { item = y; rest = ys; items = refl; at = e; after = subst (λ (j : ℕ). Chain place links (get_or links j 0) ys) e c.1 }

module _ {A : Type 0} (hash : A → ℕ) where
  -- what holds of all items holds of those of a bucket
  pub bucket-kept : (P : A → Type 0) (h : ℕ) (ys : List A) → All P ys → All P (in_bucket hash h ys)
  bucket-kept P h [] a = tt
  bucket-kept P h (y ∷ ys) a = go (eqb (bucket_of (hash y)) h) (bucket-kept P h ys a.1)
    where
      go : (b : Bool) → All P (in_bucket hash h ys) → All P (cond b (y ∷ in_bucket hash h ys) (in_bucket hash h ys))
      go true r = (a.0, r)
      go false r = r

  pub bucket-short : (h : ℕ) (ys : List A) → length (in_bucket hash h ys) ≤ length ys
  bucket-short h [] = omega arith
  bucket-short h (y ∷ ys) = go (eqb (bucket_of (hash y)) h) (bucket-short h ys)
    where
      go : (b : Bool) → length (in_bucket hash h ys) ≤ length ys → length (cond b (y ∷ in_bucket hash h ys) (in_bucket hash h ys)) ≤ suc (length ys)
      go true r = omega arith
      go false r = omega arith

  -- a test that only items of one hash may fail says of its bucket what it says of all items
  pub bucket-all : (g : A → Bool) (m : ℕ) → ((y : A) → g y ≡ false → hash y ≡ m) → (ys : List A) → all g (in_bucket hash (bucket_of m) ys) ≡ all g ys
  bucket-all g m f [] = refl
  bucket-all g m f (y ∷ ys) = go (eqb (bucket_of (hash y)) (bucket_of m)) refl (g y) refl (bucket-all g m f ys)
    where
      go : (b : Bool) → eqb (bucket_of (hash y)) (bucket_of m) ≡ b → (t : Bool) → g y ≡ t → all g (in_bucket hash (bucket_of m) ys) ≡ all g ys
          → all g (cond b (y ∷ in_bucket hash (bucket_of m) ys) (in_bucket hash (bucket_of m) ys)) ≡ g y && all g ys
      go true p t q r = ap (λ (x : Bool). g y && x) r
      go false p true q r = r ∙ sym (ap (λ (x : Bool). x && all g ys) q)
      go false p false q r = absurd (eqb-false (bucket_of (hash y)) (bucket_of m) p (ap bucket_of (f y q)))

-- another hash that is the same of every item
module _ {A : Type 0} {hash hash' : A → ℕ} (e : (y : A) → hash y ≡ hash' y) where
  bucket_alike : (h : ℕ) (ys : List A) → in_bucket hash h ys ≡ in_bucket hash' h ys
  bucket_alike h [] = refl
  bucket_alike h (y ∷ ys) = rw (e y, bucket_alike h ys)

  pub linked_alike : (place : A → ℕ) (links : List ℕ) (ys : List A) → Linked place hash links ys → Linked place hash' links ys
  linked_alike place links [] l = tt
  linked_alike place links (y ∷ ys) l =
      (subst (Chain place links (get_or links (place y) 0)) (ap (λ (m : ℕ). in_bucket hash (bucket_of m) ys) (e y) ∙ bucket_alike (bucket_of (hash' y)) ys) l.0, linked_alike place links ys l.1)

module _ {A : Type 0} (place hash : A → ℕ) where
  -- with every head 0 there is no item
  pub index_empty : {heads : List ℕ} (links : List ℕ) → heads ≡ replicate buckets 0 → Indexed place hash heads links []
  index_empty links e = record { chains = λ h k. ap (λ (l : List ℕ). get_or l h 0) e ∙ get_or-replicate buckets h 0 0 k }

  module _ {heads links : List ℕ} {items : List A} (x : Indexed place hash heads links items) where
    -- the walk begins with the bucket of a hash
    pub index-walk : (m : ℕ) {w : ℕ} → w ≡ get_or heads (bucket_of m) 0 → Chain place links w (in_bucket hash (bucket_of m) items)
    index-walk m e = subst (λ (k : ℕ). Chain place links k (in_bucket hash (bucket_of m) items)) (sym e) (x.chains (bucket_of m) (omega arith))

    -- a store at a place that no item has changes nothing
    pub index_kept : (i w : ℕ) → Free place i items → Indexed place hash heads (set links i w) items
    index_kept i w f =
        record { chains = λ h l. chain-kept place links i w (get_or heads h 0) (in_bucket hash h items) (bucket-kept hash (λ z. place z ≡ i → ⊥) h items f) (x.chains h l) }

    -- one item more
    pub index-added : (y : A) {m i : ℕ} {heads' links' : List ℕ} → length heads ≡ buckets → i < length links → place y ≡ i → hash y ≡ m → Free place i items
        → Added heads links m i heads' links' → Indexed place hash heads' links' (y ∷ items)
    index-added y {m} {i} {heads'} {links'} n k p q f a = record { chains = λ h l. go h l (eqb (bucket_of (hash y)) h) refl }
      where
        old : (h : ℕ) → h < buckets → Chain place links' (get_or heads h 0) (in_bucket hash h items)
        old h l =
            subst (λ (w : List ℕ). Chain place w (get_or heads h 0) (in_bucket hash h items)) (sym a.link) ((index_kept i (get_or heads (bucket_of m) 0) f).chains h l)

        go : (h : ℕ) → h < buckets → (b : Bool) → eqb (bucket_of (hash y)) h ≡ b
            → Chain place links' (get_or heads' h 0) (cond b (y ∷ in_bucket hash h items) (in_bucket hash h items))
        go h l true t =
            let e : bucket_of m ≡ h = sym (ap bucket_of q) ∙ eqb-true (bucket_of (hash y)) h t in
            let u : get_or heads' h 0 ≡ suc (place y) =
            ap (λ (w : List ℕ). get_or w h 0) a.head ∙ ap (λ (j : ℕ). get_or (set heads j (suc i)) h 0) e ∙ get_or-set_same heads h (suc i) 0 (omega arith) ∙ sym (ap suc p) in
            let v : get_or links' (place y) 0 ≡ get_or heads h 0 =
            ap (λ (w : List ℕ). get_or w (place y) 0) a.link ∙ ap (λ (j : ℕ). get_or (set links i (get_or heads (bucket_of m) 0)) j 0) p
            ∙ get_or-set_same links i (get_or heads (bucket_of m) 0) 0 k ∙ ap (λ (j : ℕ). get_or heads j 0) e in
            (u, subst (λ (w : ℕ). Chain place links' w (in_bucket hash h items)) (sym v) (old h l))
        go h l false t =
            let u : get_or heads' h 0 ≡ get_or heads h 0 =
            ap (λ (w : List ℕ). get_or w h 0) a.head ∙ get_or-set_other heads (bucket_of m) h (suc i) 0 (λ e. eqb-false (bucket_of (hash y)) h t (ap bucket_of q ∙ sym e)) in
            subst (λ (w : ℕ). Chain place links' w (in_bucket hash h items)) (sym u) (old h l)

  -- every bucket's items are a chain from somewhere on
  record Chained (links : List ℕ) (ys : List A) (h : ℕ) : Type 0 where
    pub head : ℕ
    pub chain : Chain place links head (in_bucket hash h ys)

  linked : (links : List ℕ) (ys : List A) → ((h : ℕ) → h < buckets → Chained links ys h) → Linked place hash links ys
  linked links [] c = tt
  linked links (y ∷ ys) c = (here, linked links ys (λ h l. go h (eqb (bucket_of (hash y)) h) (c h l).head (c h l).chain))
    where
      own : ℕ
      own = bucket_of (hash y)

      here : Chain place links (get_or links (place y) 0) (in_bucket hash own ys)
      here =
          (subst (λ (b : Bool). Chain place links (c own (omega arith)).head (cond b (y ∷ in_bucket hash own ys) (in_bucket hash own ys))) (eq-eqb own own refl) (c own (omega arith)).chain).1

      go : (h : ℕ) (b : Bool) (x : ℕ) → Chain place links x (cond b (y ∷ in_bucket hash h ys) (in_bucket hash h ys)) → Chained links ys h
      go h true x e = record { head = get_or links (place y) 0; chain = e.1 }
      go h false x e = record { head = x; chain = e }

  pub index-linked : {heads links : List ℕ} {items : List A} → Indexed place hash heads links items → Linked place hash links items
  index-linked {heads} {links} {items} x = linked links items (λ h l. record { head = get_or heads h 0; chain = x.chains h l })
