-- Repeated keys through all objects: what each turn of the search gives, and that the least node found is that of the first repeated key of the tree.
-- The idea: a field is one key, one value and the fields after it, all in the order of their nodes. Up to the least node nothing repeats, so nothing is first; there the first is.
use Prim.Native.Nat.{ℕ, zero, suc, ◌+◌, ◌-◌, ◌≤◌, ◌<◌}
use native.Mathlib.Nat.{eq-or-lt_of_le}
use native.Mathlib.Numerals.{add-one}
use native.Mathlib.Omega.{arith}
use native.Mathlib.Decide.{dec_lt}
use mathlib.Core.Path.{◌≡◌, refl, sym, ap, ◌∙◌, subst, subst₂}
use mathlib.Core.Bool.{Bool, true, false, not, cond}
use mathlib.Core.Logic.{⊎_elim, ◌⊎◌, inl, inr}
use mathlib.Core.List.{List, [], ◌∷◌, Memᴰ}
use mathlib.Core.Option.{Option, some, none}
use lib.ListN.{length}
use Rattle.grammar.specs.Notation.{same, all}
use Rattle.grammar.specs.Tree.{Json, Items, Fields}
use Rattle.grammar.specs.Tree.Json.{leaf, arr, obj}
use Rattle.grammar.specs.Tree.Items.{no_items, item}
use Rattle.grammar.specs.Tree.Fields.{no_fields, field}
use Rattle.grammar.specs.Keys.{keys_of}
use Rattle.grammar.specs.Serving.Machine.{Dialect}
use Rattle.grammar.specs.Serving.Repeats.{first_of, repeat_at, first_repeat, first_repeat_i, first_repeat_f}
use Rattle.grammar.proofs.Booleans.{clash}
use Rattle.grammar.proofs.Lists.{same-is, different, all_true, all_of}
use Rattle.std.specs.Prelude as Code
use Rattle.std.specs.Prelude.{min, Some, None, Result, Ok}
use Rattle.sorted.specs.declared.repeats.GivenUp.{GivenUp}
use Rattle.sorted.specs.Repeats.{Repeat}
use Rattle.tokens.specs.NodeKinds.{object_node}
use Rattle.text.specs.Nodes.{next, Holds, HoldsItems, HoldsFields, node_kind, node_start}
use Rattle.text.specs.Fields.{node_of, Keys, RepeatAt, TellsKey, FindsKey}
use Rattle.text.specs.Search.{lesser_of, FindsAt, NoneBefore, Searched, LeastNode}
use Rattle.text.specs.Keys.{FirstRepeat}
use Rattle.text.proofs.Frames.{goes_on, items_rise, fields_rise}
use Rattle.text.proofs.KeyLaws.{lt_or_ge, scalar-no_object, key-no_object}
use Rattle.text.proofs.FieldKeys.{node-first, node-next, nodes_rise, nodes_rise_to, node-above, key_in, keys_of_lem}

-- ---- the turns of the search

module _ {D : Dialect} {s w : List ℕ} where
  pub search-start : (n : ℕ) → Searched D s w n 0 n
  search-start n = record { upto = omega arith; none = λ k a h. absurd (omega arith); found = λ h. absurd (omega arith) }

  -- one node more: it is no object, or its keys repeat one before them only from node `best` on
  none_more : {best at : ℕ} → NoneBefore D s w best 0 at → NoneBefore D s w best at (suc at) → NoneBefore D s w best 0 (at + 1)
  none_more {best} {at} v g k a h = ⊎_elim (λ l. v k a l) (λ l. g k l (omega arith)) (lt_or_ge k at)

  pub search-past : {n at best : ℕ} → Searched D s w n at best → (node_kind w at ≡ object_node → ⊥) → Searched D s w n (at + 1) best
  search-past {n} {at} {best} v o =
      record {
        upto = v.upto;
        none = none_more v.none (λ k a h t. absurd (let e : k ≡ at = omega arith in o (subst (λ (i : ℕ). node_kind w i ≡ object_node) e t)));
        found = v.found;
      }

  -- with fewer nodes nothing changes
  none-less : {best best' a n : ℕ} → best' ≤ best → NoneBefore D s w best a n → NoneBefore D s w best' a n
  none-less h v k a l o f count u m g r = let z = v k a l o f count u m g r in omega arith

  module _ {n at best end : ℕ} (v : Searched D s w n at best) (h : at < best) (o : node_kind w at ≡ object_node) (e : end ≡ next w at) where
    -- what the search of the object's own keys says of them
    own : {found : Result (Code.Option ℕ) GivenUp} → FindsKey D s w (at + 1) end found → (f : ℕ → List ℕ) (count : ℕ) → Keys D s w (suc at) (next w at) f count → TellsKey w (suc at) f count found
    own {found} g f count u =
        subst (λ (b : ℕ). TellsKey w b f count found) (add-one at) (g.told f count (subst₂ (λ (b q : ℕ). Keys D s w b q f count) (sym (add-one at)) (sym e) u))

    -- the object at node `at`, by what was found in it
    here : {least : ℕ} → ((f : ℕ → List ℕ) (count : ℕ) → Keys D s w (suc at) (next w at) f count → (m : ℕ) → m < count → Repeat f m → least ≤ node_of w (suc at) m) → NoneBefore D s w least at (suc at)
    here {least} g k a l t f count u m c r =
        let q : at ≡ k = omega arith in
        subst (λ (i : ℕ). (f : ℕ → List ℕ) (count : ℕ) → Keys D s w (suc i) (next w i) f count → (m : ℕ) → m < count → Repeat f m → least ≤ node_of w (suc i) m) q g f count u m c r

    -- a key that repeats one has no lesser node than the first of its object
    from_first : {i : ℕ} → FindsKey D s w (at + 1) end (Ok (Some i)) → (f : ℕ → List ℕ) (count : ℕ) → Keys D s w (suc at) (next w at) f count → (m : ℕ) → m < count → Repeat f m → i ≤ node_of w (suc at) m
    from_first {i} g f count u m c r = go (own g f count u) (lt_or_ge m (own g f count u).0.number)
      where
        go : (z : TellsKey w (suc at) f count (Ok (Some i))) → (m < z.0.number) ⊎ (z.0.number ≤ m) → i ≤ node_of w (suc at) m
        go z (inl l) = absurd (z.1.new m l r)
        go z (inr l) =
            ⊎_elim (λ q. omega (arith, z.0.node, ap (node_of w (suc at)) q)) (λ q. omega (arith, z.0.node, nodes_rise u z.0.number m q (omega arith))) (eq-or-lt_of_le l)

    search-at : {i : ℕ} → FindsKey D s w (at + 1) end (Ok (Some i)) → Searched D s w n (at + 1) (min best i)
    search-at {i} g = ⊎_elim (λ l. subst (Searched D s w n (at + 1)) {x = i} {y = min best i} (omega arith) (less l)) (λ l. subst (Searched D s w n (at + 1)) {x = best} {y = min best i} (omega arith) (more l)) (lt_or_ge i best)
      where
        more : best ≤ i → Searched D s w n (at + 1) best
        more l =
            record { upto = v.upto; none = none_more v.none (here (λ f count u m c r. let z = from_first g f count u m c r in omega arith)); found = v.found }

        less : i < best → Searched D s w n (at + 1) i
        less l =
            record {
              upto = omega (arith, v.upto);
              none = none_more (none-less (omega arith) v.none) (here (from_first g));
              found = λ _. record { k = at; below = omega (arith, v.upto); object = o; told = λ f count u. (own g f count u).0 };
            }

    search-none_here : FindsKey D s w (at + 1) end (Ok None) → Searched D s w n (at + 1) best
    search-none_here g =
        record { upto = v.upto; none = none_more v.none (here (λ f count u m c r. absurd ((own g f count u).new m c r))); found = v.found }

    search-more : (found : Code.Option ℕ) → FindsKey D s w (at + 1) end (Ok found) → Searched D s w n (at + 1) (lesser_of best found)
    search-more None g = search-none_here g
    search-more (Some i) g = search-at g

-- the node is an object, or not
module _ {D : Dialect} {s w : List ℕ} {k kind : ℕ} (e : kind ≡ node_kind w k) where
  pub at_other : (kind ≡ object_node → ⊥) → FindsAt D s w k None
  at_other h = record { told = inl ((λ o. h (e ∙ o)), refl) }

  pub at_object : {end : ℕ} {r : Code.Option ℕ} → kind ≡ object_node → end ≡ next w k → FindsKey D s w (k + 1) end (Ok r) → FindsAt D s w k r
  at_object {r = r} o q f = record { told = inr (sym e ∙ o, subst (λ (n : ℕ). FindsKey D s w (k + 1) n (Ok r)) q f) }

module _ {D : Dialect} {s w : List ℕ} {n at best : ℕ} (v : Searched D s w n at best) where
  pub search-on : {found : Code.Option ℕ} {least : ℕ} → at < best → FindsAt D s w at found → least ≡ lesser_of best found → Searched D s w n (at + 1) least
  search-on {found} {least} h k p = subst (Searched D s w n (at + 1)) (sym p) (⊎_elim past (λ q. search-more v h q.0 refl found q.1) k.told)
    where
      past : (node_kind w at ≡ object_node → ⊥) × (found ≡ None) → Searched D s w n (at + 1) (lesser_of best found)
      past q = subst (Searched D s w n (at + 1)) (sym (ap (lesser_of best) q.1)) (search-past v q.0)

  pub search-ends : best ≤ at → LeastNode D s w n best
  search-ends h = record { at = at; searched = v; done = h }

-- ---- a key among those before it

-- what the numbers before m mean, the last first
abbrev passed : (ℕ → List ℕ) → ℕ → List (List ℕ)
passed f zero = []
passed f (suc m) = f m ∷ passed f m

record Before (f : ℕ → List ℕ) (m : ℕ) (x : List ℕ) : Type 0 where
  pub number : ℕ
  pub below : number < m
  pub is : f number ≡ x

in_passed : (f : ℕ → List ℕ) (m : ℕ) {x : List ℕ} → Memᴰ x (passed f m) → Before f m x
in_passed f zero h = elim h [ ]
in_passed f (suc m) (Memᴰ.head e) = record { number = m; below = omega arith; is = sym e }
in_passed f (suc m) (Memᴰ.tail e) = let b = in_passed f m e in record { number = b.number; below = omega (arith, b.below); is = b.is }

passed_in : (f : ℕ → List ℕ) (m j : ℕ) → j < m → Memᴰ (f j) (passed f m)
passed_in f zero j h = absurd (omega arith)
passed_in f (suc m) j h = go (dec_lt j m) (passed_in f m j)
  where
    go : Dec (j < m) → (j < m → Memᴰ (f j) (passed f m)) → Memᴰ (f j) (f m ∷ passed f m)
    go (yes k) r = Memᴰ.tail (r k)
    go (no k) r = let q : j ≡ m = omega arith in Memᴰ.head (ap f q)

at-fresh : (f : ℕ → List ℕ) (m : ℕ) {key : List ℕ} (p : ℕ) → f m ≡ key → (Repeat f m → ⊥) → repeat_at (passed f m) key p ≡ none
at-fresh f m {key} p e h =
    rw (all_of (λ k. not (same key k)) (passed f m)
    (λ x u. let b = in_passed f m u in ap not (different key x (λ q. h (record { other = b.number; before = b.below; same = b.is ∙ sym q ∙ sym e })))))

at_repeat : (f : ℕ → List ℕ) (m : ℕ) {key : List ℕ} (p : ℕ) → f m ≡ key → Repeat f m → repeat_at (passed f m) key p ≡ some p
at_repeat f m {key} p e r = go (all (λ k. not (same key k)) (passed f m)) refl
  where
    go : (t : Bool) → all (λ k. not (same key k)) (passed f m) ≡ t → cond t none (some p) ≡ some p
    go true t =
        clash (all_true (λ k. not (same key k)) (passed f m) t (f r.other) (passed_in f m r.other r.before)) (ap not (same-is key (f r.other) (sym (r.same ∙ e))))
    go false t = refl

-- ---- the keys of fields, from number m on

abbrev Lists : (ℕ → List ℕ) → ℕ → ℕ → Fields → Type 0
Lists f count m no_fields = m ≡ count
Lists f count m (field a e key j fs) = (m < count) × (f m ≡ key) × Lists f count (suc m) fs

lists_later : (f : ℕ → List ℕ) (count m : ℕ) (fs : Fields) → Lists (λ i. f (suc i)) count m fs → Lists f (suc count) (suc m) fs
lists_later f count m no_fields v = ap suc v
lists_later f count m (field a e key j fs) v = (omega (arith, v.0), v.1, lists_later f count (suc m) fs v.2)

lists_of : (fs : Fields) → Lists (key_in fs) (length (keys_of fs)) 0 fs
lists_of no_fields = refl
lists_of (field a e key j fs) = (omega arith, refl, lists_later (key_in (field a e key j fs)) (length (keys_of fs)) 0 fs (lists_of fs))

-- ---- nothing repeats before the least node

first-none : {x y : Option ℕ} → x ≡ none → y ≡ none → first_of x y ≡ none
first-none p q = rw (p, q)

first_next : {x y : Option ℕ} {p : ℕ} → x ≡ none → y ≡ some p → first_of x y ≡ some p
first_next p q = rw (p, q)

first-is : {x : Option ℕ} (y : Option ℕ) {p : ℕ} → x ≡ some p → first_of x y ≡ some p
first-is y p = rw p

module _ (D : Dialect) (s w : List ℕ) (best : ℕ) where
  -- an object's keys repeat one before them only from node `best` on
  abbrev OwnLater : ℕ → (ℕ → List ℕ) → ℕ → Type 0
  OwnLater b f count = (m : ℕ) → m < count → Repeat f m → best ≤ node_of w b m

  own-later : {a n : ℕ} → NoneBefore D s w best a n → (k l : ℕ) → a ≤ k → k < n → node_kind w k ≡ object_node → (fs : Fields) → HoldsFields D s w fs l (suc k) (next w k)
      → OwnLater (suc k) (key_in fs) (length (keys_of fs))
  own-later v k l a h o fs x = v k a h o (key_in fs) (length (keys_of fs)) (keys_of_lem D s w fs l (suc k) (next w k) x)

  -- the first key of fields is followed by its value and the fields after it
  on-next : (j : Json) (l k : ℕ) → Holds D s w j l (suc k) → next w k ≡ next w (suc k) → suc k < next w k
  on-next j l k h e = omega (arith, goes_on D s w j l (suc k) h)

  with_key : (f : ℕ → List ℕ) (m : ℕ) (fs : Fields) {key : List ℕ} {x : Option ℕ} → f m ≡ key → first_repeat_f (passed f (suc m)) fs ≡ x → first_repeat_f (key ∷ passed f m) fs ≡ x
  with_key f m fs {key} {x} e t = subst (λ (c : List ℕ). first_repeat_f (c ∷ passed f m) fs ≡ x) e t

  mutual
    value_none : (j : Json) (l k : ℕ) → Holds D s w j l k → NoneBefore D s w best k (next w k) → next w k ≤ best → first_repeat j ≡ none
    value_none (leaf a e v) l k h c g = refl
    value_none (arr a e js) l k h c g = items-none js (l - 1) (suc k) (next w k) h.3 (λ i x y. c i (omega arith) y) g
    value_none (obj a e fs) l k h c g =
        fields-none fs (l - 1) (suc k) (next w k) (suc k) (key_in fs) (length (keys_of fs)) 0 h.3 (node-first w (suc k)) (lists_of fs) (own-later c k (l - 1) (omega arith) h.1 h.0.has_kind fs h.3)
        (λ i x y. c i (omega arith) y) g

    pub items-none : (js : Items) (l k n : ℕ) → HoldsItems D s w js l k n → NoneBefore D s w best k n → n ≤ best → first_repeat_i js ≡ none
    items-none no_items l k n h c g = refl
    items-none (item j js) l k n h c g =
        let r = items_rise D s w js l (next w k) n h.2 in
        let o = goes_on D s w j l k h.1 in
        first-none (value_none j l k h.1 (λ i x y. c i x (omega arith)) (omega arith)) (items-none js l (next w k) n h.2 (λ i x y. c i (omega arith) y) g)

    fields-none : (fs : Fields) (l k n b : ℕ) (f : ℕ → List ℕ) (count m : ℕ) → HoldsFields D s w fs l k n → k ≡ node_of w b m → Lists f count m fs → OwnLater b f count
        → NoneBefore D s w best k n → n ≤ best → first_repeat_f (passed f m) fs ≡ none
    fields-none no_fields l k n b f count m h p v own c g = refl
    fields-none (field a e key j fs) l k n b f count m h p v own c g =
        let r = fields_rise D s w fs l (next w k) n h.5 in
        let o = on-next j l k h.3 h.4 in
        first-none (at-fresh f m a v.1 (λ x. let z = own m v.0 x in absurd (omega arith)))
        (first-none (value_none j l (suc k) h.3 (λ i x y. c i (omega arith) (omega (arith, h.4))) (omega (arith, h.4)))
        (with_key f m fs v.1 (fields-none fs l (next w k) n b f count (suc m) h.5 (node-next w b m p refl) v.2 own (λ i x y. c i (omega arith) y) g)))

  -- ---- and there something does

  module _ (i : ℕ) (object : node_kind w i ≡ object_node) (hit : (f : ℕ → List ℕ) (count : ℕ) → Keys D s w (suc i) (next w i) f count → RepeatAt w (suc i) f count best) where
    abbrev There : Option ℕ → Type 0
    There x = x ≡ some (node_start w best)

    is_object : (k : ℕ) → k ≡ i → node_kind w k ≡ object_node
    is_object k e = subst (λ (x : ℕ). node_kind w x ≡ object_node) (sym e) object

    hit_at : (k : ℕ) → k ≡ i → (f : ℕ → List ℕ) (count : ℕ) → Keys D s w (suc k) (next w k) f count → RepeatAt w (suc k) f count best
    hit_at k e = subst (λ (x : ℕ). (f : ℕ → List ℕ) (count : ℕ) → Keys D s w (suc x) (next w x) f count → RepeatAt w (suc x) f count best) (sym e) hit

    -- among the keys of the object itself
    own_hit : (fs : Fields) (l k n b q : ℕ) (f : ℕ → List ℕ) (count m : ℕ) → Keys D s w b q f count → HoldsFields D s w fs l k n → k ≡ node_of w b m → Lists f count m fs → OwnLater b f count
        → NoneBefore D s w best k n → (r : ℕ) → m ≤ r → r < count → best ≡ node_of w b r → Repeat f r → There (first_repeat_f (passed f m) fs)
    own_hit no_fields l k n b q f count m u h p v own c r x y e z = absurd (omega arith)
    own_hit (field a o key j fs) l k n b q f count m u h p v own c r x y e z =
        let g = fields_rise D s w fs l (next w k) n h.5 in
        let d = on-next j l k h.3 h.4 in
        ⊎_elim
        (λ (t : m < r).
        let t' = nodes_rise u m r t (omega arith) in
        let t'' = nodes_rise_to u (suc m) r t (omega arith) in
        let t''' = node-next w b m p refl in
        first_next (at-fresh f m a v.1 (λ y'. let z' = own m v.0 y' in absurd (omega arith)))
        (first_next (value_none j l (suc k) h.3 (λ i x y. c i (omega arith) (omega (arith, h.4))) (omega (arith, h.4)))
        (with_key f m fs v.1 (own_hit fs l (next w k) n b q f count (suc m) u h.5 t''' v.2 own (λ i x y. c i (omega arith) y) r t y e z))))
        (λ (t : r ≤ m).
        let w' : r ≡ m = omega arith in
        let k' : best ≡ k = e ∙ ap (node_of w b) w' ∙ sym p in
        first-is _ (at_repeat f m a v.1 (subst (Repeat f) w' z) ∙ ap some (sym h.1.has_start ∙ ap (node_start w) (sym k'))))
        (lt_or_ge m r)

    mutual
      value_hit : (j : Json) (l k : ℕ) → Holds D s w j l k → NoneBefore D s w best k (next w k) → k ≤ i → i < next w k → (i < best) × There (first_repeat j)
      value_hit (leaf a e v) l k h c x y = absurd (scalar-no_object s a e v (sym h.0.has_kind ∙ is_object k (omega (arith, h.1))))
      value_hit (arr a e js) l k h c x y =
          ⊎_elim (λ z. absurd (let u = is_object k z in omega (arith, h.0.has_kind))) (λ z. items_hit js (l - 1) (suc k) (next w k) h.3 (λ m p q. c m (omega arith) q) z y) (eq-or-lt_of_le x)
      value_hit (obj a e fs) l k h c x y =
          let own = own-later c k (l - 1) (omega arith) h.1 h.0.has_kind fs h.3 in
          let keys = keys_of_lem D s w fs (l - 1) (suc k) (next w k) h.3 in
          ⊎_elim
          (λ z.
          let r = hit_at k z (key_in fs) (length (keys_of fs)) keys in (
            omega (arith, node-above keys r.number (omega (arith, r.below)), r.node),
            own_hit fs (l - 1) (suc k) (next w k) (suc k) (next w k) (key_in fs) (length (keys_of fs)) 0 keys h.3 (node-first w (suc k)) (lists_of fs) own (λ m p q. c m (omega arith) q)
                r.number (omega arith) r.below r.node r.repeats,
          ))
          (λ z. fields_hit fs (l - 1) (suc k) (next w k) (suc k) (key_in fs) (length (keys_of fs)) 0 h.3 (node-first w (suc k)) (lists_of fs) own (λ m p q. c m (omega arith) q) z y) (eq-or-lt_of_le x)

      pub items_hit : (js : Items) (l k n : ℕ) → HoldsItems D s w js l k n → NoneBefore D s w best k n → k ≤ i → i < n → (i < best) × There (first_repeat_i js)
      items_hit no_items l k n h c x y = absurd (omega arith)
      items_hit (item j js) l k n h c x y =
          let r = items_rise D s w js l (next w k) n h.2 in
          let o = goes_on D s w j l k h.1 in
          ⊎_elim (λ z. let u = value_hit j l k h.1 (λ m p q. c m p (omega arith)) x z in (u.0, first-is _ u.1))
          (λ z.
          let u = items_hit js l (next w k) n h.2 (λ m p q. c m (omega arith) q) z y in
          (u.0, first_next (value_none j l k h.1 (λ m p q. c m p (omega arith)) (omega (arith, u.0))) u.1)) (lt_or_ge i (next w k))

      fields_hit : (fs : Fields) (l k n b : ℕ) (f : ℕ → List ℕ) (count m : ℕ) → HoldsFields D s w fs l k n → k ≡ node_of w b m → Lists f count m fs → OwnLater b f count
          → NoneBefore D s w best k n → k ≤ i → i < n → (i < best) × There (first_repeat_f (passed f m) fs)
      fields_hit no_fields l k n b f count m h p v own c x y = absurd (omega arith)
      fields_hit (field a e key j fs) l k n b f count m h p v own c x y =
          let r = fields_rise D s w fs l (next w k) n h.5 in
          let o = on-next j l k h.3 h.4 in
          ⊎_elim (λ z. absurd (key-no_object s a e (sym h.1.has_kind ∙ is_object k z)))
          (λ (z : k < i).
          ⊎_elim
          (λ (q : i < next w k).
          let u = value_hit j l (suc k) h.3 (λ m p q. c m (omega arith) (omega (arith, h.4))) z (omega (arith, h.4)) in
          (u.0, first_next (at-fresh f m a v.1 (λ t. let d = own m v.0 t in absurd (omega (arith, u.0)))) (first-is _ u.1)))
          (λ (q : next w k ≤ i).
          let u = fields_hit fs l (next w k) n b f count (suc m) h.5 (node-next w b m p refl) v.2 own (λ m p q. c m (omega arith) q) q y in (
            u.0,
            first_next (at-fresh f m a v.1 (λ t. let d = own m v.0 t in absurd (omega (arith, u.0))))
                (first_next (value_none j l (suc k) h.3 (λ m p q. c m (omega arith) (omega (arith, h.4))) (omega (arith, h.4, u.0))) (with_key f m fs v.1 u.1)),
          )) (lt_or_ge i (next w k))) (eq-or-lt_of_le x)

-- ---- the end of the search

module _ {D : Dialect} {s w : List ℕ} {n best : ℕ} (y : LeastNode D s w n best) where
  -- an object at or after the least node has its keys after it
  none_at_all : NoneBefore D s w best 0 n
  none_at_all k a l o f count u m c r =
      ⊎_elim (λ z. y.searched.none k a z o f count u m c r) (λ z. omega (arith, node-above u m (omega arith), y.done)) (lt_or_ge k y.at)

  pub search-found : {place : ℕ} → best < n → place ≡ node_start w best → FirstRepeat D s w n (Some place)
  search-found l p =
      let x = y.searched.found l in
      record { told = λ js levels t. ap some p ∙ sym (items_hit D s w best x.k x.object x.told js levels 0 n t none_at_all (omega arith) x.below).1 }

  pub search-none : n ≤ best → FirstRepeat D s w n None
  search-none l = record { told = λ js levels t. sym (items-none D s w best js levels 0 n t none_at_all l) }
