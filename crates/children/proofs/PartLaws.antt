-- The parts of an index: what a row put first in a bucket makes of heads and links, an owner of the owners, and that a count leaves both as they are.
-- Each is a store within one part and outside the others.
use Prim.Native.Nat.{ℕ, suc, ◌+◌, ◌-◌, ◌≤◌, ◌<◌}
use native.Mathlib.Omega.{arith}
use mathlib.Core.Path.{◌≡◌, sym, ap, ◌∙◌}
use mathlib.Core.List.{List}
use lib.ListN.{length, get_or, set, take, drop, length-set, length-drop}
use lib.Seq.{length-take-le, take-set-le, take-set-lt, drop-set-lt, drop-set-add, get_or-take, get_or-set_same, get_or-set_other}
use Rattle.grammar.specs.Limits.{table_rows}
use Rattle.buckets.specs.Buckets.{buckets, bucket_of, Added}
use Rattle.rules.specs.Rows.{children}
use Rattle.children.specs.Counts.{mandatory_in}
use Rattle.children.specs.Index.{index_words, heads_of, links_of, owners_of, count_place, owner_place}
use Rattle.children.specs.Filling.{Put, OwnerPut, Counted}

module _ (ix : List ℕ) (words : length ix ≡ index_words) where
  pub heads_wide : length (heads_of ix) ≡ buckets
  unfolding heads_of
  heads_wide = length-take-le buckets ix (omega arith)

  pub links_wide : length (links_of ix) ≡ table_rows
  unfolding links_of
  links_wide = let n : length (drop buckets ix) ≡ table_rows + table_rows + table_rows = length-drop buckets ix ∙ omega arith in length-take-le table_rows (drop buckets ix) (omega arith)

  pub owners-wide : length (owners_of ix) ≡ table_rows
  unfolding owners_of
  owners-wide =
      let n : length (drop (buckets + table_rows) ix) ≡ table_rows + table_rows = length-drop (buckets + table_rows) ix ∙ omega arith in
      length-take-le table_rows (drop (buckets + table_rows) ix) (omega arith)

pub head_at : (ix : List ℕ) (h : ℕ) → h < buckets → get_or (heads_of ix) h 0 ≡ get_or ix h 0
unfolding heads_of
head_at ix h l = get_or-take buckets ix h 0 l

-- row c was put first in a bucket
module _ {ix ix' : List ℕ} {hash c : ℕ} (small : c < table_rows) (p : Put ix hash c ix') where
  pub put-room : length ix' ≡ length ix
  put-room = ap length p.stored ∙ length-set (set ix (buckets + c) (get_or ix (bucket_of hash) 0)) (bucket_of hash) (suc c) ∙ length-set ix (buckets + c) (get_or ix (bucket_of hash) 0)

  pub put-counts : (x : ℕ) → get_or ix' (count_place x) 0 ≡ get_or ix (count_place x) 0
  put-counts x =
      ap (λ (l : List ℕ). get_or l (count_place x) 0) p.stored
      ∙ get_or-set_other (set ix (buckets + c) (get_or ix (bucket_of hash) 0)) (bucket_of hash) (count_place x) (suc c) 0 (λ e. omega arith)
      ∙ get_or-set_other ix (buckets + c) (count_place x) (get_or ix (bucket_of hash) 0) 0 (λ e. omega arith)

  pub put-owners : owners_of ix' ≡ owners_of ix
  unfolding owners_of
  put-owners =
      let v : ℕ = get_or ix (bucket_of hash) 0 in
      ap (λ (l : List ℕ). take table_rows (drop (buckets + table_rows) l)) p.stored
      ∙ ap (take table_rows)
      (drop-set-lt (buckets + table_rows) (set ix (buckets + c) v) (bucket_of hash) (suc c) (omega arith)
      ∙ drop-set-lt (buckets + table_rows) ix (buckets + c) v (omega arith))

  pub put-added : Added (heads_of ix) (links_of ix) hash c (heads_of ix') (links_of ix')
  unfolding heads_of links_of
  put-added =
      let v : ℕ = get_or ix (bucket_of hash) 0 in
      let one : List ℕ = set ix (buckets + c) v in
      record {
        head =
            ap (take buckets) p.stored ∙ take-set-lt buckets one (bucket_of hash) (suc c) (omega arith)
            ∙ ap (λ (l : List ℕ). set l (bucket_of hash) (suc c)) (take-set-le buckets ix (buckets + c) v (omega arith));
        link =
            ap (λ (l : List ℕ). take table_rows (drop buckets l)) p.stored
            ∙ ap (take table_rows) (drop-set-lt buckets one (bucket_of hash) (suc c) (omega arith) ∙ drop-set-add buckets ix c v)
            ∙ take-set-lt table_rows (drop buckets ix) c v small
            ∙ ap (set (take table_rows (drop buckets ix)) c) (sym (get_or-take buckets ix (bucket_of hash) 0 (omega arith)));
      }

-- a store past heads and links leaves them as they are
module _ (ix : List ℕ) (i v : ℕ) (h : buckets + table_rows ≤ i) where
  heads_kept : heads_of (set ix i v) ≡ heads_of ix
  unfolding heads_of
  heads_kept = take-set-le buckets ix i v (omega arith)

  links_kept : links_of (set ix i v) ≡ links_of ix
  unfolding links_of
  links_kept =
      let e : i ≡ buckets + (i - buckets) = omega arith in
      ap (λ (j : ℕ). take table_rows (drop buckets (set ix j v))) e
      ∙ ap (take table_rows) (drop-set-add buckets ix (i - buckets) v)
      ∙ take-set-le table_rows (drop buckets ix) (i - buckets) v (omega arith)

-- a count was stored
module _ {T ix ix' : List ℕ} {r : ℕ} (p : Counted T ix r ix') where
  pub counted-room : length ix' ≡ length ix
  counted-room = ap length p.stored ∙ length-set ix (count_place r) (mandatory_in T (children T r))

  pub counted_heads : heads_of ix' ≡ heads_of ix
  counted_heads = ap heads_of p.stored ∙ heads_kept ix (count_place r) (mandatory_in T (children T r)) (omega arith)

  pub counted_links : links_of ix' ≡ links_of ix
  counted_links = ap links_of p.stored ∙ links_kept ix (count_place r) (mandatory_in T (children T r)) (omega arith)

  pub counted-owners : owners_of ix' ≡ owners_of ix
  unfolding owners_of
  counted-owners =
      let v : ℕ = mandatory_in T (children T r) in
      let e : count_place r ≡ buckets + table_rows + (table_rows + r) = omega arith in
      ap (λ (l : List ℕ). take table_rows (drop (buckets + table_rows) l)) (p.stored ∙ ap (λ (i : ℕ). set ix i v) e)
      ∙ ap (take table_rows) (drop-set-add (buckets + table_rows) ix (table_rows + r) v)
      ∙ take-set-le table_rows (drop (buckets + table_rows) ix) (table_rows + r) v (omega arith)

  pub counted-here : length ix ≡ index_words → r < table_rows → get_or ix' (count_place r) 0 ≡ mandatory_in T (children T r)
  counted-here n h = ap (λ (l : List ℕ). get_or l (count_place r) 0) p.stored ∙ get_or-set_same ix (count_place r) (mandatory_in T (children T r)) 0 (omega arith)

  pub counted-other : (x : ℕ) → (x ≡ r → ⊥) → get_or ix' (count_place x) 0 ≡ get_or ix (count_place x) 0
  counted-other x n =
      ap (λ (l : List ℕ). get_or l (count_place x) 0) p.stored ∙ get_or-set_other ix (count_place r) (count_place x) (mandatory_in T (children T r)) 0 (λ e. n (omega arith))

-- an owner was
module _ {ix ix' : List ℕ} {c r : ℕ} (p : OwnerPut ix c r ix') where
  pub owner-room : length ix' ≡ length ix
  owner-room = ap length p.stored ∙ length-set ix (owner_place c) r

  pub owner_heads : heads_of ix' ≡ heads_of ix
  owner_heads = ap heads_of p.stored ∙ heads_kept ix (owner_place c) r (omega arith)

  pub owner_links : links_of ix' ≡ links_of ix
  owner_links = ap links_of p.stored ∙ links_kept ix (owner_place c) r (omega arith)

  pub owner-counts : c < table_rows → (x : ℕ) → get_or ix' (count_place x) 0 ≡ get_or ix (count_place x) 0
  owner-counts h x = ap (λ (l : List ℕ). get_or l (count_place x) 0) p.stored ∙ get_or-set_other ix (owner_place c) (count_place x) r 0 (λ e. omega arith)

  pub owner-owners : c < table_rows → owners_of ix' ≡ set (owners_of ix) c r
  unfolding owners_of
  owner-owners h =
      ap (λ (l : List ℕ). take table_rows (drop (buckets + table_rows) l)) p.stored
      ∙ ap (take table_rows) (drop-set-add (buckets + table_rows) ix c r)
      ∙ take-set-lt table_rows (drop (buckets + table_rows) ix) c r h
