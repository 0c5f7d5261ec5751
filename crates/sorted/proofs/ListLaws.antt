-- A list in the order of what its numbers stand for that has every number: a number repeats one before it exactly if its neighbour stands for the same.
-- From one place to a later one what stands there rises, so what stands between two that are the same is the same.
use Prim.{tt}
use Prim.Native.Nat.{ℕ, zero, suc, ◌+◌, ◌-◌, ◌≤◌, ◌<◌}
use native.Mathlib.Omega.{arith}
use native.Mathlib.Decide.{dec_lt}
use mathlib.Core.Path.{◌≡◌, refl, sym, ap, ◌∙◌, subst}
use mathlib.Core.Bool.{true, false}
use mathlib.Core.List.{List}
use lib.ListN.{get_or}
use borrow.Author.Count.{below_more}
use Rattle.std.specs.Prelude.{Option, Some, None, Result, Ok, Err}
use Rattle.std.specs.Ordering.{nat_cmp, ordering_then, is_eq, is_gt, is_ge}
use Rattle.std.specs.declared.cmp.Ordering.{Ordering}
use Rattle.std.specs.declared.cmp.Ordering.TheVariants.{Less, Equal, Greater}
use Rattle.std.proofs.lemmas.Cmp.{ranked}
use Rattle.sorted.specs.declared.repeats.GivenUp.{GivenUp}
use Rattle.sorted.specs.Orders.{order}
use Rattle.sorted.specs.Lists.{Placed, least_of, Ordered, Paired, Least, NeighboursTold, Neighbours}
use Rattle.sorted.specs.Repeats.{Repeat, NoneTo, Tells, Finds}
use Rattle.sorted.proofs.OrderLaws.{NotAfter, order_same, order_is, order_anti, order_trans, same_up}

-- ---- what follows, and the least of two

-- two that are in order, and their numbers
follows_up : (o : Ordering) (a b : ℕ) → ordering_then o (nat_cmp a b) ≡ Less → is_gt o ≡ false
follows_up Less a b e = refl
follows_up Equal a b e = refl
follows_up Greater a b e = cc

follows_tie : (o : Ordering) (a b : ℕ) → ordering_then o (nat_cmp a b) ≡ Less → o ≡ Equal → a < b
follows_tie o a b e s = ranked a b Less (sym (rw s at e))

-- the lesser of two numbers, the second only if o is Equal
record Picked (best : ℕ) (o : Ordering) (here r : ℕ) : Type 0 where
  pub upto : r ≤ best
  pub least : o ≡ Equal → r ≤ here
  pub one : r < best → (is_eq o ≡ true) × (r ≡ here)

picked : (best : ℕ) (o : Ordering) (here : ℕ) → Picked best o here (least_of best o here)
picked best Less here = record { upto = omega arith; least = λ e. cc; one = λ h. absurd (omega arith) }
picked best Equal here = record { upto = omega arith; least = λ _. omega arith; one = λ h. (refl, omega arith) }
picked best Greater here = record { upto = omega arith; least = λ e. cc; one = λ h. absurd (omega arith) }

-- ---- from one place to a later one

module _ (f : ℕ → List ℕ) (list : List ℕ) where
  abbrev at : ℕ → List ℕ
  at k = f (get_or list k 0)

  module _ {n : ℕ} (o : Ordered f list n) where
    step_up : (k : ℕ) → suc k < n → NotAfter (at k) (at (suc k))
    step_up k h = follows_up (order (at k) (at (suc k))) (get_or list k 0) (get_or list (suc k) 0) (o.step k h)

    step_tie : (k : ℕ) → suc k < n → at k ≡ at (suc k) → get_or list k 0 < get_or list (suc k) 0
    step_tie k h s = follows_tie (order (at k) (at (suc k))) (get_or list k 0) (get_or list (suc k) 0) (o.step k h) (order_same (at k) (at (suc k)) s)

    -- d places on, what stands there comes no earlier
    rises : (d k q : ℕ) → q ≡ k + d → q < n → NotAfter (at k) (at q)
    rises zero k q e h = same_up (at k) (at q) (ap at (omega arith))
    rises (suc d) k q e h =
        let g : q ≡ suc (k + d) = omega arith in
        subst (λ (j : ℕ). NotAfter (at k) (at j)) (sym g)
        (order_trans (at k) (at (k + d)) (at (suc (k + d))) (rises d k (k + d) refl (omega arith)) (step_up (k + d) (omega arith)))

    pub places_rise : (k q : ℕ) → k ≤ q → q < n → NotAfter (at k) (at q)
    places_rise k q g h = rises (q - k) k q (omega arith) h

    -- what stands between two that are the same is the same
    between : (k p q : ℕ) → k ≤ p → p ≤ q → q < n → at k ≡ at q → at p ≡ at q
    between k p q g h i e = order_anti (at p) (at q) (places_rise p q h i) (subst (λ (x : List ℕ). NotAfter x (at p)) e (places_rise k p g (omega arith)))

    -- and their numbers go up
    numbers_up : (d k q : ℕ) → q ≡ k + d → q < n → at k ≡ at q → get_or list k 0 ≤ get_or list q 0
    numbers_up zero k q e h s = let g : get_or list k 0 ≡ get_or list q 0 = ap (λ (j : ℕ). get_or list j 0) (omega arith) in omega arith
    numbers_up (suc d) k q e h s =
        let g : q ≡ suc (k + d) = omega arith in
        let m = between k (k + d) q (omega arith) (omega arith) h s in
        let a = numbers_up d k (k + d) refl (omega arith) (s ∙ sym m) in
        let b = step_tie (k + d) (omega arith) (m ∙ ap at g) in
        let c : get_or list q 0 ≡ get_or list (suc (k + d)) 0 = ap (λ (j : ℕ). get_or list j 0) g in
        omega arith

    -- a number that is paired repeats the one before it
    paired_repeats : {r : ℕ} → Paired f list n r → Repeat f r
    paired_repeats {r} p =
        let b = step_tie p.place p.within p.same in
        record { other = get_or list p.place 0; before = omega (arith, p.is); same = p.same ∙ ap f p.is }

    -- and a number that repeats one is paired
    module _ {places : List ℕ} (w : Placed list n places) where
      behind : (j m : ℕ) → j < m → m < n → f j ≡ f m → get_or places j 0 < get_or places m 0
      behind j m g h e = go (dec_lt (get_or places j 0) (get_or places m 0))
        where
          go : Dec (get_or places j 0 < get_or places m 0) → get_or places j 0 < get_or places m 0
          go (yes a) = a
          go (no a) =
              let b =
              numbers_up (get_or places j 0 - get_or places m 0) (get_or places m 0) (get_or places j 0) (omega arith) (w.within j (omega arith))
              (ap f (w.there m h) ∙ sym e ∙ sym (ap f (w.there j (omega arith)))) in
              absurd (omega (arith, w.there j (omega arith), w.there m h))

      neighbour : (j m p q k : ℕ) → p ≤ k → q ≡ suc k → q < n → get_or list p 0 ≡ j → get_or list q 0 ≡ m → f j ≡ f m → Paired f list n m
      neighbour j m p q k a e h u v s =
          let g : at k ≡ at q = between p k q a (omega arith) h (ap f u ∙ s ∙ sym (ap f v)) in
          record { place = k; within = omega arith; is = ap (λ (i : ℕ). get_or list i 0) (sym e) ∙ v; same = g ∙ ap at e }

      repeats_paired : (m : ℕ) → m < n → Repeat f m → Paired f list n m
      repeats_paired m h r =
          let b = behind r.other m r.before h r.same in
          neighbour r.other m (get_or places r.other 0) (get_or places m 0) (get_or places m 0 - 1) (omega arith) (omega arith) (w.within m h)
          (w.there r.other (omega (arith, r.before))) (w.there m h) r.same

-- what the list says is what holds
module _ (f : ℕ → List ℕ) {list places : List ℕ} {n : ℕ} (w : Placed list n places) where
  none_before : {r : ℕ} → r ≤ n → Least f list n n r → NoneTo f r
  none_before h v = record { new = λ m g again. let u = v.least m (repeats_paired f list v.ordered w m (omega arith) again) in absurd (omega arith) }

  tells : (r : Result (Option ℕ) GivenUp) → NeighboursTold f list n r → Tells f n r
  tells (Ok None) v = none_before (omega arith) v
  tells (Ok (Some i)) v = (v.0, paired_repeats f list v.1.ordered (v.1.found v.0), none_before (omega (arith, v.0)) v.1)
  tells (Err e) v = tt

  pub neighbours_find : {r : Result (Option ℕ) GivenUp} → Neighbours f list n r → Finds f n r
  neighbours_find {r} v = record { told = tells r v.told }

-- ---- the search among neighbours

rising : (o : Ordering) → is_ge o ≡ false → o ≡ Less
rising Less e = refl
rising Equal e = cc
rising Greater e = cc

module _ {f : ℕ → List ℕ} {list : List ℕ} where
  least_short : (k n : ℕ) → k ≤ 1 → Least f list k n n
  least_short k n h =
      record {
        ordered = record { step = λ j g. absurd (omega arith) };
        upto = omega arith;
        found = λ g. absurd (omega arith);
        least = λ m p. absurd (omega (arith, p.within));
      }

  pub least_start : (n : ℕ) → Least f list 1 n n
  least_start n = least_short 1 n (omega arith)

  whole : (k : ℕ) {n best : ℕ} → n ≤ k → (1 ≤ n → k ≤ n) → Least f list k n best → Least f list n n best
  whole k {n} {best} h g v = go (dec_lt 0 n)
    where
      go : Dec (0 < n) → Least f list n n best
      go (yes a) = let m = g a in let e : k ≡ n = omega arith in subst (λ (m : ℕ). Least f list m n best) e v
      go (no a) = let e : n ≡ best = omega (arith, v.upto) in subst (Least f list n n) e (least_short n n (omega arith))

  pub least_found : (k : ℕ) {n best : ℕ} → n ≤ k → (1 ≤ n → k ≤ n) → Least f list k n best → best < n → Neighbours f list n (Ok (Some best))
  least_found k h g v l = record { told = (l, whole k h g v) }

  pub least_none : (k : ℕ) {n best : ℕ} → n ≤ k → (1 ≤ n → k ≤ n) → Least f list k n best → n ≤ best → Neighbours f list n (Ok None)
  least_none k {n} {best} h g v l = let e : best ≡ n = omega (arith, v.upto) in record { told = subst (Least f list n n) e (whole k h g v) }

  pub least_more : (k : ℕ) {n best b : ℕ} {o : Ordering} → 1 ≤ k → Least f list k n best → o ≡ order (at f list (k - 1)) (at f list k)
      → is_ge (ordering_then o (nat_cmp (get_or list (k - 1) 0) (get_or list k 0))) ≡ false → b ≡ least_of best o (get_or list k 0) → Least f list (k + 1) n b
  least_more k {n} {best} {b} {o} h v stands t u =
      record {
        ordered = record { step = λ j g. step j g (dec_lt (suc j) k) };
        upto = omega (arith, v.upto, z.upto);
        found = λ g. found g (dec_lt b best);
        least = λ m x. least m x (dec_lt (suc x.place) k);
      }
    where
      z : Picked best o (get_or list k 0) b
      z = subst (Picked best o (get_or list k 0)) (sym u) (picked best o (get_or list k 0))

      last : (j : ℕ) → suc j < k + 1 → (suc j < k → ⊥) → (k - 1 ≡ j) × (k ≡ suc j)
      last j g n = (omega arith, omega arith)

      Step : ℕ → ℕ → Type 0
      Step i j = ordering_then (order (at f list i) (at f list j)) (nat_cmp (get_or list i 0) (get_or list j 0)) ≡ Less

      step : (j : ℕ) → suc j < k + 1 → Dec (suc j < k) → Step j (suc j)
      step j g (yes a) = v.ordered.step j a
      step j g (no a) =
          let l = last j g a in
          let here : Step (k - 1) k = rw (← stands) (rising _ t) in
          subst (λ (i : ℕ). Step i (suc j)) l.0 (subst (Step (k - 1)) l.1 here)

      found : b < n → Dec (b < best) → Paired f list (k + 1) b
      found g (yes a) =
          let y = z.one a in
          let e : suc (k - 1) ≡ k = omega arith in
          record { place = k - 1; within = omega arith; is = rw e (sym y.1); same = rw e (order_is (at f list (k - 1)) (at f list k) (sym (ap is_eq stands) ∙ y.0)) }
      found g (no a) =
          let e : best ≡ b = omega (arith, z.upto) in
          let x = v.found (omega (arith, z.upto)) in
          record { place = x.place; within = omega (arith, x.within); is = x.is ∙ e; same = x.same }

      least : (m : ℕ) (x : Paired f list (k + 1) m) → Dec (suc x.place < k) → b ≤ m
      least m x (yes a) =
          let y = v.least m (record { place = x.place; within = a; is = x.is; same = x.same }) in
          omega (arith, z.upto)
      least m x (no a) =
          let l = last x.place x.within a in
          let i : get_or list k 0 ≡ m = ap (λ (j : ℕ). get_or list j 0) l.1 ∙ x.is in
          let g : at f list (k - 1) ≡ at f list k = ap (at f list) l.0 ∙ x.same ∙ ap (at f list) (sym l.1) in
          let y = z.least (stands ∙ order_same (at f list (k - 1)) (at f list k) g) in
          omega arith

-- ---- the check of the places

-- those below i are placed
pub record PlacedTo (list : List ℕ) (n : ℕ) (places : List ℕ) (i : ℕ) : Type 0 where
  pub within : (j : ℕ) → j < i → get_or places j 0 < n
  pub there : (j : ℕ) → j < i → get_or list (get_or places j 0) 0 ≡ j

pub placed-none : {list places : List ℕ} {n : ℕ} → PlacedTo list n places 0
placed-none = record { within = λ j h. absurd (omega arith); there = λ j h. absurd (omega arith) }

pub placed-more : {list places : List ℕ} {n i k : ℕ} → PlacedTo list n places i → k ≡ get_or places i 0 → k < n → get_or list k 0 ≡ i → PlacedTo list n places (i + 1)
placed-more {list} {places} {n} {i} {k} v p h q =
    record {
      within = below_more (λ (j : ℕ). get_or places j 0 < n) i v.within (omega arith);
      there = below_more (λ (j : ℕ). get_or list (get_or places j 0) 0 ≡ j) i v.there (ap (λ (x : ℕ). get_or list x 0) (sym p) ∙ q);
    }

pub placed-all : {list places : List ℕ} {n i : ℕ} → n ≤ i → PlacedTo list n places i → Placed list n places
placed-all h v = record { within = λ j g. v.within j (omega arith); there = λ j g. v.there j (omega arith) }
