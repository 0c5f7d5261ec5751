-- Names looked up in an index of rows: a walk along a chain, a row that comes into the index, and a run of rows from its last to its first.
-- The idea: the rows left of a chain decide what all of them do; names that clash have one hash, so a bucket tells of all rows in the index.
use Prim.{Unit, tt}
use Prim.Native.Nat.{ℕ, zero, suc, ◌-◌, ◌≤◌, ◌<◌}
use mathlib.Core.Path.{◌≡◌, refl, sym, ap, ◌∙◌, subst}
use mathlib.Core.Bool.{Bool, true, false, not, ◌&&◌, and-true, and-false}
use mathlib.Core.List.{List, [], ◌∷◌}
use native.Mathlib.Omega.{arith}
use lib.ListN.{length, get_or, replicate, length-set}
use borrow.Author.Tests.{not-false}
use Rattle.grammar.specs.Notation.{all, apart}
use Rattle.grammar.proofs.Booleans.{clash as contradiction}
use Rattle.buckets.specs.Buckets.{buckets, bucket_of, Added, All, Free, Chain, in_bucket}
use Rattle.buckets.proofs.BucketLaws.{bucket-short, bucket-all, index_empty, index-walk, index-added}
use Rattle.buckets.proofs.ChainWalks.{walk_start, walk_end, walk_out}
use Rattle.buckets.proofs.ChainWalks as chain
use Rattle.rules.specs.Names.{clash}
use Rattle.rules.specs.Rows.{next, walk, past, name_of}
use Rattle.rules.specs.Rules.{names_of}
use Rattle.rows.specs.Hashes.{hash_of, fresh_in}
use Rattle.rows.specs.Index.{itself, row_hash, RowIndex, Unlisted, Entered}
use Rattle.rules.proofs.Clashes.{clash-sym}
use Rattle.rules.proofs.TableRows.{next-above, past-above}
use Rattle.rows.proofs.HashLaws.{clash-hash}
use Rattle.rows.proofs.ListLaws.{all_map, all_same, all_both, all_true}

-- a walk along a chain of rows, for what f says of them
module _ {A : Type 0} (f : List ℕ → A) (links : List ℕ) where
  abbrev pub Walk : ℕ → ℕ → ℕ → ℕ → Type 0
  Walk = chain.Walk itself (λ _. Unit {0}) f links

  abbrev pub Says : ℕ → ℕ → A → Type 0
  Says = chain.Says itself (λ _. Unit {0}) f links

module _ {A : Type 0} {f : List ℕ → A} {links : List ℕ} {head most x n : ℕ} (w : Walk f links head most x n) where
  pub walk_hit : 0 < x → (v : A) → ((rs : List ℕ) → f ((x - 1) ∷ rs) ≡ v) → Says f links head most v
  walk_hit h v e = chain.walk_hit w h v (λ y ys p u. ap (λ r. f (r ∷ ys)) p ∙ e ys)

  pub walk-on : {y : ℕ} → 0 < x → y ≡ get_or links (x - 1) 0 → ((rs : List ℕ) → f ((x - 1) ∷ rs) ≡ f rs) → Walk f links head most y (n - 1)
  walk-on h q e = chain.walk-on w h q (λ y ys p u. (tt, ap (λ r. f (r ∷ ys)) p ∙ e ys))

-- a name x that is looked for
pub record NameWalk (S T links x : List ℕ) (head y n : ℕ) : Type 0 where
  pub walk : Walk (fresh_in S T x) links head (length links) y n

module _ {S T links x : List ℕ} {head : ℕ} where
  pub name_start : NameWalk S T links x head head (length links)
  name_start = record { walk = walk_start }

  listed-so : {b : Bool} → Says (fresh_in S T x) links head (length links) b → Unlisted S T links head x b
  listed-so s = record { told = λ rs c n. sym (s.told rs c n tt) }

  module _ {y n : ℕ} (w : NameWalk S T links x head y n) where
    pub listed_hit : {b : Bool} → 0 < y → b ≡ clash x (name_of S T (y - 1)) → b ≡ true → Unlisted S T links head x false
    listed_hit h p t = listed-so (walk_hit w.walk h false (λ rs. rw (sym p ∙ t)))

    pub listed-on : {b : Bool} {k : ℕ} → 0 < y → b ≡ clash x (name_of S T (y - 1)) → b ≡ false → k ≡ get_or links (y - 1) 0 → NameWalk S T links x head k (n - 1)
    listed-on h p t e = record { walk = walk-on w.walk h e (λ rs. rw (sym p ∙ t)) }

    pub listed-end : y ≡ 0 → Unlisted S T links head x true
    listed-end e = listed-so (walk_end w.walk e)

    pub listed_out : n ≤ 0 → Unlisted S T links head x true
    listed_out h = listed-so (walk_out w.walk h)

-- the empty index
pub index-none : (S T links : List ℕ) {heads : List ℕ} → heads ≡ replicate buckets 0 → RowIndex S T heads links []
index-none S T links e = record { wide = ap length e; chains = index_empty itself (row_hash S T) links e }

-- a row more
pub index-more : {S T heads links rs heads' links' : List ℕ} {m : ℕ} (r : ℕ) → RowIndex S T heads links rs → Free itself r rs → r < length links → m ≡ row_hash S T r
    → Added heads links m r heads' links' → RowIndex S T heads' links' (r ∷ rs)
index-more {S} {T} {heads} r k f h p a =
    record { wide = ap length a.head ∙ length-set heads _ _ ∙ k.wide; chains = index-added itself (row_hash S T) k.chains r k.wide h refl (sym p) f a }

-- the rows of its bucket tell of a name what all do
pub of_bucket : {S T links : List ℕ} {m head : ℕ} {x : List ℕ} {b : Bool} → m ≡ hash_of x → Unlisted S T links head x b → (rs : List ℕ)
    → Chain itself links head (in_bucket (row_hash S T) (bucket_of m) rs) → length rs ≤ length links → b ≡ fresh_in S T x rs
of_bucket {S} {T} {links} {m} {x = x} p u rs c h =
    let few : length (in_bucket (row_hash S T) (bucket_of m) rs) ≤ length links = omega (arith, bucket-short (row_hash S T) (bucket_of m) rs) in
    u.told (in_bucket (row_hash S T) (bucket_of m) rs) c few
    ∙ all_map (name_of S T) (λ y. not (clash x y)) (in_bucket (row_hash S T) (bucket_of m) rs)
    ∙ bucket-all (row_hash S T) (λ i. not (clash x (name_of S T i))) m
    (λ i e. sym (clash-hash x (name_of S T i) (not-false (clash x (name_of S T i)) e)) ∙ sym p) rs
    ∙ sym (all_map (name_of S T) (λ y. not (clash x y)) rs)

-- row r is looked up, and comes into the index
module _ {S T heads links : List ℕ} (r : ℕ) {m head : ℕ} {x : List ℕ} {b : Bool} (n : x ≡ name_of S T r) (p : m ≡ hash_of x) (q : head ≡ get_or heads (bucket_of m) 0)
    (u : Unlisted S T links head x b) where
  of_index : (rs : List ℕ) → RowIndex S T heads links rs → length rs ≤ length links → b ≡ fresh_in S T (name_of S T r) rs
  of_index rs k h = of_bucket p u rs (index-walk itself (row_hash S T) k.chains m q) h ∙ ap (λ z. fresh_in S T z rs) n

  pub entered-not : b ≡ false → {heads' links' : List ℕ} → Entered S T heads links r heads' links' false
  entered-not t = record { told = λ rs k f h. (sym t ∙ of_index rs k h, λ e. contradiction e refl) }

  pub entered : b ≡ true → r < length links → {heads' links' : List ℕ} → Added heads links m r heads' links' → Entered S T heads links r heads' links' true
  entered t g a = record { told = λ rs k f h. (sym t ∙ of_index rs k h, λ e. index-more r k f g (p ∙ ap hash_of n) a) }

-- a run of rows, from its first on: each is looked up among those before it, which are in the index
module _ (S T : List ℕ) where
  -- the names of l are apart, and clash with none of the rows rs
  unfoldable pub apart_from : List ℕ → List ℕ → Bool
  apart_from rs [] = true
  apart_from rs (c ∷ l) = fresh_in S T (name_of S T c) rs && apart_from (c ∷ rs) l

  apart_from_lem : (rs l : List ℕ) → apart_from rs l ≡ apart clash (names_of S T l) && all (λ c. fresh_in S T (name_of S T c) rs) l
  unfolding apart_from
  apart_from_lem rs [] = refl
  apart_from_lem rs (c ∷ l) =
      ap (λ (t : Bool). fresh_in S T (name_of S T c) rs && t)
      (apart_from_lem (c ∷ rs) l ∙ ap (λ (t : Bool). apart clash (names_of S T l) && t)
      (all_both (λ d. not (clash (name_of S T d) (name_of S T c))) (λ d. fresh_in S T (name_of S T d) rs) l ∙ ap (λ (t : Bool). t && all (λ d. fresh_in S T (name_of S T d) rs) l) turned))
      ∙ shuffle (fresh_in S T (name_of S T c) rs) (apart clash (names_of S T l)) (fresh_in S T (name_of S T c) l) (all (λ d. fresh_in S T (name_of S T d) rs) l)
    where
      turned : all (λ d. not (clash (name_of S T d) (name_of S T c))) l ≡ fresh_in S T (name_of S T c) l
      turned =
          all_same (λ d. not (clash (name_of S T d) (name_of S T c))) (λ d. not (clash (name_of S T c) (name_of S T d))) l (λ d. ap not (clash-sym (name_of S T d) (name_of S T c)))
          ∙ sym (all_map (name_of S T) (λ y. not (clash (name_of S T c) y)) l)

      shuffle : (f p q r : Bool) → f && (p && (q && r)) ≡ (q && p) && (f && r)
      shuffle true true true r = refl
      shuffle true true false r = refl
      shuffle true false true r = refl
      shuffle true false false r = refl
      shuffle false p q r = sym (and-false (q && p))

  pub apart-first : (l : List ℕ) → apart clash (names_of S T l) ≡ apart_from [] l
  apart-first l = sym (apart_from_lem [] l ∙ rw (all_true (λ c. true) l (λ _. refl)) (and-true (apart clash (names_of S T l))))

  -- rows below c, of which there are no more than c
  abbrev Below : ℕ → List ℕ → Type 0
  Below c = All (λ r. r < c)

  below_free : (c : ℕ) (rs : List ℕ) → Below c rs → Free itself c rs
  below_free c [] b = tt
  below_free c (r ∷ rs) b = ((λ e. omega (arith, b.0)), below_free c rs b.1)

  below_more : (c d : ℕ) (rs : List ℕ) → c ≤ d → Below c rs → Below d rs
  below_more c d [] h b = tt
  below_more c d (r ∷ rs) h b = (omega (arith, b.0), below_more c d rs h b.1)

  -- the rows rise from c on, and are below a bound
  abbrev Rising : ℕ → ℕ → List ℕ → Type 0
  Rising top c [] = Unit {0}
  Rising top c (r ∷ rs) = (c ≤ r) × (r < top) × Rising top (suc r) rs

  walk-rises : (top n c : ℕ) → past T c n ≤ top → Rising top c (walk T c n)
  unfolding walk past
  walk-rises top zero c h = tt
  walk-rises top (suc n) c h = (omega arith, omega (arith, next-above T c, past-above T n (next T c)), rises-from (suc c) (next T c) _ (omega (arith, next-above T c)) (walk-rises top n (next T c) h))
    where
      rises-from : (c d : ℕ) (rs : List ℕ) → c ≤ d → Rising top d rs → Rising top c rs
      rises-from c d [] k r = tt
      rises-from c d (x ∷ rs) k r = (omega (arith, r.0), r.1, r.2)

  -- the rows before those left are in the index; what is left decides whether all are apart
  pub record RunIndex (whole : Bool) (heads links : List ℕ) (top : ℕ) (rest : List ℕ) : Type 0 where
    pub before : List ℕ
    pub from : ℕ
    pub lower : Below from before
    pub few : length before ≤ from
    pub rises : Rising top from rest
    pub rows : RowIndex S T heads links before
    pub left : whole ≡ apart_from before rest

  pub run-start : {heads : List ℕ} (links : List ℕ) (a n : ℕ) → past T a n ≤ length links → heads ≡ replicate buckets 0
      → RunIndex (apart clash (names_of S T (walk T a n))) heads links (length links) (walk T a n)
  run-start links a n h z = record {
    before = [];
    from = a;
    lower = tt;
    few = omega arith;
    rises = walk-rises (length links) n a h;
    rows = index-none S T links z;
    left = apart-first (walk T a n);
  }

  pub run_end : {whole : Bool} {heads links : List ℕ} {top : ℕ} {rest : List ℕ} → RunIndex whole heads links top rest → rest ≡ [] → true ≡ whole
  unfolding apart_from
  run_end v e = sym (v.left ∙ ap (apart_from v.before) e)

  module _ {whole : Bool} {heads links : List ℕ} {top r : ℕ} {rest rest' : List ℕ} (v : RunIndex whole heads links top rest) (e : rest ≡ r ∷ rest') where
    rising : Rising top v.from (r ∷ rest')
    rising = subst (Rising top v.from) e v.rises

    pub run-within : r < top
    run-within = rising.1

    module _ {heads' links' : List ℕ} {b : Bool} (room : length links ≡ top) (q : Entered S T heads links r heads' links' b) where
      here : (b ≡ fresh_in S T (name_of S T r) v.before) × (b ≡ true → RowIndex S T heads' links' (r ∷ v.before))
      here = q.told v.before v.rows (below_free r v.before (below_more v.from r v.before rising.0 v.lower)) (omega (arith, v.few, rising.0, rising.1))

      goes : whole ≡ (b && apart_from (r ∷ v.before) rest')
      unfolding apart_from
      goes = v.left ∙ ap (apart_from v.before) e ∙ ap (λ (t : Bool). t && apart_from (r ∷ v.before) rest') (sym here.0)

      pub run_hit : b ≡ false → false ≡ whole
      run_hit t = sym (goes ∙ rw t)

      pub run_on : b ≡ true → RunIndex whole heads' links' top rest'
      run_on t = record {
        before = r ∷ v.before;
        from = suc r;
        lower = (omega arith, below_more v.from (suc r) v.before (omega (arith, rising.0)) v.lower);
        few = omega (arith, v.few, rising.0);
        rises = rising.2;
        rows = here.1 t;
        left = goes ∙ rw t;
      }
