-- Keys of an object looked up in an index of those before them: what each return and each turn of the walk and of the loop gives.
-- The idea: keys that mean the same have the same hash, so the walk along the bucket of a key's hash tells of all before it; a key that is not compared has another hash.
use Prim.{tt}
use Prim.Native.Nat.{ℕ, zero, suc, ◌+◌, ◌-◌, ◌≤◌, ◌<◌}
use native.Mathlib.Omega.{arith}
use native.Mathlib.Numerals.{add-one}
use native.Mathlib.Decide.{dec_lt}
use mathlib.Core.Path.{◌≡◌, refl, sym, ap, ◌∙◌, subst}
use mathlib.Core.Bool.{Bool, true, false, not, ◌&&◌}
use mathlib.Core.List.{List, [], ◌∷◌}
use lib.ListN.{length, get_or, set, replicate, length-set}
use lib.Seq.{get_or-set_same, get_or-set_other}
use borrow.Author.Tests.{not-false}
use Rattle.grammar.specs.Notation.{same, all}
use Rattle.grammar.specs.Serving.Machine.{Dialect}
use Rattle.grammar.proofs.Booleans.{clash, both}
use Rattle.grammar.proofs.Lists.{same_true, same-is, different}
use Rattle.buckets.specs.Buckets.{buckets, bucket_of, Added, All, Free, Chain, in_bucket, Indexed}
use Rattle.buckets.proofs.BucketLaws.{chain-end, chain-step, bucket-kept, bucket-all, index_empty, index-walk, index-added, index_kept}
use Rattle.std.specs.Prelude.{Some, None, Result, Ok, Err}
use Rattle.sorted.specs.declared.repeats.GivenUp.{GivenUp}
use Rattle.sorted.specs.Repeats.{Repeat, NoneTo}
use Rattle.sorted.proofs.RepeatLaws.{none-start, none_more, none_end}
use Rattle.strings.specs.Hashes.{hash_of}
use Rattle.text.specs.Nodes.{next}
use Rattle.text.specs.Fields.{SameKeys, KeyHash, node_of, Keys, FindsKey}
use Rattle.text.specs.Index.{item_of, SameAfter, Listed, none_means, Sees, LooksUp}
use Rattle.text.proofs.FieldKeys.{node-first, node-next, nodes_rise, number-within, number_same, node-above, node-below, key_at_lem}

-- ---- two keys

pub same-past : {D : Dialect} {s w : List ℕ} {b i a : ℕ} {r : Bool} → a - b ≤ i → SameAfter D s w b i a r
same-past h = record { told = λ g. absurd (omega arith) }

pub same_after : {D : Dialect} {s w : List ℕ} {b i a : ℕ} {r : Bool} → SameKeys D s w (b + i) a r → SameAfter D s w b i a r
same_after h = record { told = λ g. h }

-- ---- a walk along a chain

-- the numbers from the word x on are left: they say what all of them say
pub record Left (w : List ℕ) (b : ℕ) (f : ℕ → List ℕ) (links : List ℕ) (m : ℕ) (ps : List ℕ) (x : ℕ) : Type 0 where
  pub rest : List ℕ
  pub chain : Chain (item_of w b) links x rest
  pub listed : All (Listed w b f links m) rest
  pub same_so : none_means f m ps ≡ none_means f m rest

pub record Walked (D : Dialect) (s w : List ℕ) (b a hash : ℕ) (links : List ℕ) (head x : ℕ) : Type 0 where
  pub told : (n : ℕ) (f : ℕ → List ℕ) (count m : ℕ) → Keys D s w b n f count → m < count → a ≡ node_of w b m → hash ≡ hash_of (f m) → (ps : List ℕ)
      → Chain (item_of w b) links head ps → All (Listed w b f links m) ps → Left w b f links m ps x

module _ {D : Dialect} {s w : List ℕ} {b a hash : ℕ} {links : List ℕ} {head : ℕ} where
  pub walk_start : Walked D s w b a hash links head head
  walk_start = record { told = λ n f count m v k e q ps c l. record { rest = ps; chain = c; listed = l; same_so = refl } }

  pub walk_out : {e : GivenUp} → LooksUp D s w b a hash links head (Err e)
  walk_out = record { told = λ n f count m v k e q ps c l. tt }

  module _ {x : ℕ} (z : Walked D s w b a hash links head x) where
    pub walk_end : x ≡ 0 → LooksUp D s w b a hash links head (Ok false)
    walk_end o =
        record {
          told = λ n f count m v k e q ps c l.
              let y = z.told n f count m v k e q ps c l in
              y.same_so ∙ ap (none_means f m) (chain-end (item_of w b) links y.rest (subst (λ (i : ℕ). Chain (item_of w b) links i y.rest) o y.chain));
        }

    module _ (h : 0 < x) where
      pub walk_hit : {r : Bool} → SameAfter D s w b (x - 1) a r → r ≡ true → LooksUp D s w b a hash links head (Ok true)
      walk_hit {r} g t =
          record {
            told = λ n f count m v k e q ps c l.
                let y = z.told n f count m v k e q ps c l in
                let i = chain-step (item_of w b) links x y.rest h y.chain in
                let o = (subst (All (Listed w b f links m)) i.items y.listed).0 in
                record { other = i.item; before = o.before; same = same_so n f count m v k e i.item o.before i.at };
          }
        where
          same_so : (n : ℕ) (f : ℕ → List ℕ) (count m : ℕ) → Keys D s w b n f count → m < count → a ≡ node_of w b m → (i : ℕ) → i < m → item_of w b i ≡ x - 1 → f i ≡ f m
          same_so n f count m v k e i u p =
              let at : b + (x - 1) ≡ node_of w b i = omega (arith, node-above v i (omega arith)) in
              let before : b + (x - 1) < a = omega (arith, nodes_rise v i m u (omega arith)) in
              same_true (f i) (f m) (sym ((g.told before).told (f i) (f m) (key_at_lem v i (omega arith) at) (key_at_lem v m k e)) ∙ t)

      pub walk-on : {y u : ℕ} → y ≡ get_or links x 0 → (y ≡ hash → ⊥) → u ≡ get_or links (x - 1) 0 → Walked D s w b a hash links head u
      walk-on {y} {u} p d q =
          record {
            told = λ n f count m v k e j ps c l.
                let r = z.told n f count m v k e j ps c l in
                let i = chain-step (item_of w b) links x r.rest h r.chain in
                let o = subst (All (Listed w b f links m)) i.items r.listed in
                record {
                  rest = i.rest;
                  chain = subst (λ (n : ℕ). Chain (item_of w b) links n i.rest) (sym q) i.after;
                  listed = o.1;
                  same_so = r.same_so ∙ ap (none_means f m) i.items ∙ ap (λ (t : Bool). not t && none_means f m i.rest) (other f m j i.item i.at o.0.hash);
                };
          }
        where
          other : (f : ℕ → List ℕ) (m : ℕ) → hash ≡ hash_of (f m) → (i : ℕ) → item_of w b i ≡ x - 1 → get_or links (suc (item_of w b i)) 0 ≡ hash_of (f i) → same (f i) (f m) ≡ false
          other f m j i e o =
              let g : x ≡ suc (item_of w b i) = omega arith in
              different (f i) (f m) (λ c. d (p ∙ ap (λ (n : ℕ). get_or links n 0) g ∙ o ∙ ap hash_of c ∙ sym j))

-- ---- each key in turn

-- the numbers below n, the last first
abbrev pub down : ℕ → List ℕ
down zero = []
down (suc n) = n ∷ down n

down-all : (P : ℕ → Type 0) (n : ℕ) → ((p : ℕ) → p < n → P p) → All P (down n)
down-all P zero h = tt
down-all P (suc n) h = (h n (omega arith), down-all P n (λ p g. h p (omega arith)))

all-down : (g : ℕ → Bool) (n j : ℕ) → all g (down n) ≡ true → j < n → g j ≡ true
all-down g zero j e h = absurd (omega arith)
all-down g (suc n) j e h = go (dec_lt j n) (all-down g n j (both (g n) (all g (down n)) e).1)
  where
    go : Dec (j < n) → (j < n → g j ≡ true) → g j ≡ true
    go (yes k) r = r k
    go (no k) r = let q : j ≡ n = omega arith in ap g q ∙ (both (g n) (all g (down n)) e).0

module _ (w : List ℕ) (b : ℕ) (f : ℕ → List ℕ) where
  abbrev pub hash_at : ℕ → ℕ
  hash_at m = hash_of (f m)

  -- the numbers below m are in the index, and have different meanings
  pub record InIndex (heads links : List ℕ) (count m : ℕ) : Type 0 where
    pub below : m ≤ count
    pub none : NoneTo f m
    pub index : Indexed (item_of w b) hash_at heads links (down m)
    pub listed : (p : ℕ) → p < m → get_or links (suc (item_of w b p)) 0 ≡ hash_of (f p)

  all_listed : {heads links : List ℕ} {count m : ℕ} → InIndex heads links count m → (h : ℕ) → All (Listed w b f links m) (in_bucket hash_at h (down m))
  all_listed {heads} {links} {count} {m} x h =
      bucket-kept hash_at (Listed w b f links m) h (down m) (down-all (Listed w b f links m) m (λ p g. record { before = g; hash = x.listed p g }))

-- the keys before node i are listed
pub record Listing (D : Dialect) (s w : List ℕ) (b n : ℕ) (heads links : List ℕ) (i : ℕ) : Type 0 where
  pub number : ℕ
  pub node : i ≡ node_of w b number
  pub wide : length heads ≡ buckets
  pub told : (f : ℕ → List ℕ) (count : ℕ) → Keys D s w b n f count → InIndex w b f heads links count number

pub listing-length : {heads heads' links links' links'' : List ℕ} {hash i : ℕ} (k : ℕ) → Added heads links hash i heads' links' → links'' ≡ set links' k hash → length links'' ≡ length links
listing-length {links = links} {links' = links'} k a e = ap length e ∙ length-set links' _ _ ∙ ap length a.link ∙ length-set links _ _

module _ {D : Dialect} {s w : List ℕ} {b n : ℕ} where
  pub listing_start : {heads links : List ℕ} → heads ≡ replicate buckets 0 → Listing D s w b n heads links b
  listing_start {heads} {links} e =
      record {
        number = 0;
        node = node-first w b;
        wide = ap length e;
        told = λ f count v.
            record { below = omega arith; none = none-start; index = index_empty (item_of w b) (hash_at w b f) links e; listed = λ p h. absurd (omega arith) };
      }

  pub listing-given : {e : GivenUp} → FindsKey D s w b n (Err e)
  listing-given = record { told = λ f count v. tt }

  module _ {heads links : List ℕ} {i : ℕ} (p : Listing D s w b n heads links i) where
    within : i < n → (f : ℕ → List ℕ) (count : ℕ) → Keys D s w b n f count → p.number < count
    within h f count v = number-within v p.number (p.told f count v).below (omega (arith, p.node))

    -- what the walk along the bucket of the key's hash says
    module _ {hash head : ℕ} (h : i < n) (g : KeyHash D s w i hash) (e : head ≡ get_or heads (bucket_of hash) 0) where
      hash-is : (f : ℕ → List ℕ) (count : ℕ) → Keys D s w b n f count → hash ≡ hash_of (f p.number)
      hash-is f count v = g.told (f p.number) (key_at_lem v p.number (within h f count v) p.node)

      seen : {r : Result Bool GivenUp} → LooksUp D s w b i hash links head r → (f : ℕ → List ℕ) (count : ℕ) → Keys D s w b n f count
          → Sees f p.number (in_bucket (hash_at w b f) (bucket_of hash) (down p.number)) r
      seen q f count v =
          let x = p.told f count v in
          q.told n f count p.number v (within h f count v) p.node (hash-is f count v) (in_bucket (hash_at w b f) (bucket_of hash) (down p.number))
          (index-walk (item_of w b) (hash_at w b f) x.index hash e) (all_listed w b f x (bucket_of hash))

      pub listing_hit : LooksUp D s w b i hash links head (Ok true) → FindsKey D s w b n (Ok (Some i))
      listing_hit q =
          record {
            told = λ f count v.
                (record { number = p.number; below = within h f count v; node = p.node; repeats = seen q f count v }, (p.told f count v).none);
          }

      fresh : LooksUp D s w b i hash links head (Ok false) → (f : ℕ → List ℕ) (count : ℕ) → Keys D s w b n f count → Repeat f p.number → ⊥
      fresh q f count v r =
          let t =
          sym (bucket-all (hash_at w b f) (λ k. not (same (f k) (f p.number))) hash
          (λ k o. ap hash_of (same_true (f k) (f p.number) (not-false (same (f k) (f p.number)) o)) ∙ sym (hash-is f count v)) (down p.number)) ∙ seen q f count v in
          clash (all-down (λ k. not (same (f k) (f p.number))) p.number r.other t r.before) (ap not (same-is (f r.other) (f p.number) r.same))

      -- the key is put into the index, and its hash into the word after its link
      module _ {heads' links' : List ℕ} (q : LooksUp D s w b i hash links head (Ok false)) (room : n ≤ b + length links) (a : Added heads links hash (i - b) heads' links') where
        module _ (f : ℕ → List ℕ) (count : ℕ) (v : Keys D s w b n f count) where
          -- nodes are counted from node b on; that of the key is i
          from : b ≤ i
          from = omega (arith, node-above v p.number (p.told f count v).below, p.node)

          apart : (m : ℕ) → m < p.number → suc (item_of w b m) < i - b
          apart m c =
              let x = (p.told f count v).below in
              omega (arith, nodes_rise v m p.number c x, node-above v m (omega arith), p.node)

          -- a key and its value stand before the end
          here : suc (i - b) < length links
          here = let k = within h f count v in omega (arith, v.on p.number k, p.node, node-below v (suc p.number) k, from)

          free : Free (item_of w b) (i - b) (down p.number)
          free = down-all (λ m. item_of w b m ≡ i - b → ⊥) p.number (λ m c o. absurd (omega (arith, apart m c)))

          added : Indexed (item_of w b) (hash_at w b f) heads' links' (down (suc p.number))
          added =
              index-added (item_of w b) (hash_at w b f) (p.told f count v).index p.number p.wide (omega (arith, here)) (ap (λ (k : ℕ). k - b) (sym p.node))
              (sym (hash-is f count v)) free a

          free-after : Free (item_of w b) (suc (i - b)) (down (suc p.number))
          free-after = down-all (λ m. item_of w b m ≡ suc (i - b) → ⊥) (suc p.number) (λ m c o. go m o c (dec_lt m p.number))
            where
              go : (m : ℕ) → item_of w b m ≡ suc (i - b) → m < suc p.number → Dec (m < p.number) → ⊥
              go m o c (yes d) = absurd (omega (arith, apart m d))
              go m o c (no d) = let z : node_of w b m ≡ node_of w b p.number = ap (node_of w b) (omega arith) in absurd (omega (arith, p.node))

          listed : (m : ℕ) → m < suc p.number → get_or (set links' (suc (i - b)) hash) (suc (item_of w b m)) 0 ≡ hash_of (f m)
          listed m c = go (dec_lt m p.number)
            where
              long : length links' ≡ length links
              long = ap length a.link ∙ length-set links _ _

              go : Dec (m < p.number) → get_or (set links' (suc (i - b)) hash) (suc (item_of w b m)) 0 ≡ hash_of (f m)
              go (yes d) =
                  let z = apart m d in
                  get_or-set_other links' (suc (i - b)) (suc (item_of w b m)) hash 0 (λ o. absurd (omega arith)) ∙ ap (λ (l : List ℕ). get_or l (suc (item_of w b m)) 0) a.link
                  ∙ get_or-set_other links (i - b) (suc (item_of w b m)) (get_or heads (bucket_of hash) 0) 0 (λ o. absurd (omega arith)) ∙ (p.told f count v).listed m d
              go (no d) =
                  let z : m ≡ p.number = omega arith in
                  let y : suc (item_of w b m) ≡ suc (i - b) = ap (λ (k : ℕ). suc (k - b)) (ap (node_of w b) z ∙ sym p.node) in
                  ap (λ (o : ℕ). get_or (set links' (suc (i - b)) hash) o 0) y ∙ get_or-set_same links' (suc (i - b)) hash 0 (omega (arith, long, here)) ∙ hash-is f count v
                  ∙ ap (λ (o : ℕ). hash_of (f o)) (sym z)

          in_index : InIndex w b f heads' (set links' (suc (i - b)) hash) count (suc p.number)
          in_index =
              record {
                below = within h f count v;
                none = none_more (p.told f count v).none (fresh q f count v);
                index = index_kept (item_of w b) (hash_at w b f) added (suc (i - b)) hash free-after;
                listed = listed;
              }

        pub listing-on : {links'' : List ℕ} {j : ℕ} → links'' ≡ set links' (i - b + 1) hash → j ≡ next w i → Listing D s w b n heads' links'' j
        listing-on {links''} {j} u y =
            let e : links'' ≡ set links' (suc (i - b)) hash = u ∙ ap (λ (m : ℕ). set links' m hash) (add-one (i - b)) in
            record {
              number = suc p.number;
              node = node-next w b p.number p.node y;
              wide = ap length a.head ∙ length-set heads _ _ ∙ p.wide;
              told = λ f count v. subst (λ (l : List ℕ). InIndex w b f heads' l count (suc p.number)) (sym e) (in_index f count v);
            }

    pub listing_stuck : {j : ℕ} → i < n → j ≡ next w i → j ≤ i → FindsKey D s w b n (Ok None)
    listing_stuck h q l =
        record {
          told = λ f count v.
              let k = within h f count v in
              absurd (omega (arith, v.on p.number k, p.node, node-next w b p.number p.node q));
        }

    pub listing-end : n ≤ i → FindsKey D s w b n (Ok None)
    listing-end h =
        record {
          told = λ f count v.
              let x = p.told f count v in
              let q = number_same v p.number count x.below (omega arith) (omega (arith, p.node, v.end)) in
              none_end (omega arith) x.none;
        }
