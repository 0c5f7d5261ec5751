-- Rows, their children and members in any table: where rows are laid out, every child has the kind that belongs to its row.
-- The idea: laid-out rows fall into definitions, and a row inside one is its own, an inline struct's or a child, whose kind is even and has no children.
use Prim.Native.Nat.{ℕ, zero, suc, ◌+◌, ◌%◌, ◌≤◌, ◌<◌}
use mathlib.Core.Path.{◌≡◌, refl, ap, subst}
use mathlib.Core.Bool.{Bool, true, false, ◌&&◌, ◌||◌}
use mathlib.Core.Logic.{⊎_elim}
use mathlib.Core.List.Memᴰ
use mathlib.Core.List.{List, [], ◌∷◌, Memᴰ}
use mathlib.Core.Option.{Option, none, some}
use native.Mathlib.Omega.{arith}
use lib.Dec.{eqb, ltb}
use lib.ListN.{length}
use borrow.Author.Tests.{ne_eqb, eqb-true, eqb-false, ltb-true, ltb-false}
use Rattle.rules.specs.Kinds.{enum_kind, struct_kind, union_kind, alternate_kind, command_kind}
use Rattle.rules.specs.Rows.{row_count, kind, count, base, next, walk, past, unnamed, owns, first_child, child_count, children, past_children, members, after}
use Rattle.rules.specs.Sound.{laid_out, definition_at, children_fit}
use Rattle.rules.proofs.Lists.{clash, none-not-some, and_left, and_right, or_cases, or_implies, all_true}

-- rows that follow each other: what a walk passes, and where it ends
module _ (T : List ℕ) where
  pub next-above : (r : ℕ) → r < next T r
  unfolding next
  next-above r = omega arith

  -- nothing stands between a row and the next
  pub next-only : (r x : ℕ) → r ≤ x → x < next T r → r ≡ x
  unfolding next
  next-only r x p q = omega arith

  pub walk_none : (c : ℕ) → walk T c 0 ≡ []
  unfolding walk
  walk_none c = refl

  pub walk_more : (c n : ℕ) → walk T c (suc n) ≡ c ∷ walk T (next T c) n
  unfolding walk
  walk_more c n = refl

  pub past-none : (c : ℕ) → past T c 0 ≡ c
  unfolding past
  past-none c = refl

  pub past_more : (c n : ℕ) → past T c (suc n) ≡ past T (next T c) n
  unfolding past
  past_more c n = refl

  pub past-least : (n c : ℕ) → c + n ≤ past T c n
  unfolding past
  past-least zero c = omega arith
  past-least (suc n) c = let h = past-least n (next T c) in omega (arith, next-above c)

  pub past-above : (n c : ℕ) → c ≤ past T c n
  past-above n c = omega (arith, past-least n c)

  pub walk-length : (n c : ℕ) → length (walk T c n) ≡ n
  unfolding walk
  walk-length zero c = refl
  walk-length (suc n) c = ap suc (walk-length n (next T c))

  -- a place that a walk passes lies from one of its rows on, before the next
  pub record Passed (c n x : ℕ) : Type 0 where
    pub row : ℕ
    pub on_walk : Memᴰ row (walk T c n)
    pub from : row ≤ x
    pub before : x < next T row

  pub passes : (n c x : ℕ) → c ≤ x → x < past T c n → Passed c n x
  unfolding walk past
  passes zero c x p q = absurd (omega arith)
  passes (suc n) c x p q = go (ltb x (next T c)) refl (λ h. passes n (next T c) x h q)
    where
      go : (b : Bool) → ltb x (next T c) ≡ b → (next T c ≤ x → Passed (next T c) n x) → Passed c (suc n) x
      go true e more = record { row = c; on_walk = Memᴰ.head refl; from = p; before = ltb-true x (next T c) e }
      go false e more = let r = more (ltb-false x (next T c) e) in record { row = r.row; on_walk = Memᴰ.tail r.on_walk; from = r.from; before = r.before }

  pub in_walk : (n c x : ℕ) → c ≤ x → x < past T c n → Memᴰ x (walk T c n)
  in_walk n c x p q = let r = passes n c x p q in subst (λ (y : ℕ). Memᴰ y (walk T c n)) (next-only r.row x r.from r.before) r.on_walk

  pub walk_bounds : (n c x : ℕ) → Memᴰ x (walk T c n) → (c ≤ x) × (x < past T c n)
  unfolding walk past
  walk_bounds zero c x m = elim m [ ]
  walk_bounds (suc n) c x m =
      ⊎_elim (λ (e : x ≡ c). (omega arith, omega (arith, next-above c, past-above n (next T c)))) (λ p. let r = walk_bounds n (next T c) x p in (omega (arith, next-above c), r.1))
      (Memᴰ.cases_cons m)

module _ (T : List ℕ) where
  -- of a kind that has no children
  abbrev pub Childless : ℕ → Type 0
  Childless r = (kind T r ≡ enum_kind → ⊥) × (kind T r ≡ struct_kind → ⊥) × (kind T r ≡ union_kind → ⊥) × (kind T r ≡ alternate_kind → ⊥)

  pub no_children : (r : ℕ) → Childless r → children T r ≡ []
  unfolding children child_count walk
  no_children r n = rw (ne_eqb (kind T r) enum_kind n.0, ne_eqb (kind T r) struct_kind n.1, ne_eqb (kind T r) union_kind n.2, ne_eqb (kind T r) alternate_kind n.3)

  childless_fit : (r : ℕ) → Childless r → children_fit T r ≡ true
  childless_fit r n = rw (no_children r n)

  odd-kind : (k : ℕ) → eqb k enum_kind || eqb k struct_kind || eqb k union_kind || eqb k alternate_kind || eqb k command_kind ≡ true → k % 2 ≡ 1
  odd-kind k e = go (eqb (k % 2) 1) refl
    where
      go : (b : Bool) → eqb (k % 2) 1 ≡ b → k % 2 ≡ 1
      go true p = eqb-true (k % 2) 1 p
      go false p =
          let n : k % 2 ≡ 1 → ⊥ = eqb-false (k % 2) 1 p in
          absurd
          (clash e (rw (ne_eqb k enum_kind (omega arith), ne_eqb k struct_kind (omega arith), ne_eqb k union_kind (omega arith), ne_eqb k alternate_kind (omega arith), ne_eqb k command_kind (omega arith))))

  -- an unnamed struct, its owner, and where children begin
  pub unnamed-struct : (r : ℕ) → unnamed T r ≡ true → kind T r ≡ struct_kind
  unfolding unnamed
  unnamed-struct r e = eqb-true (kind T r) struct_kind (search (and_left, and_right))

  pub owned-struct : (r : ℕ) → owns T r ≡ true → kind T (next T r) ≡ struct_kind
  unfolding owns
  owned-struct r e = unnamed-struct (next T r) (search (and_left, and_right))

  pub first_plain : (r : ℕ) → owns T r ≡ false → first_child T r ≡ next T r
  unfolding first_child
  first_plain r e = rw e

  pub first-owner : (r : ℕ) → owns T r ≡ true → first_child T r ≡ past T (next T (next T r)) (count T (next T r))
  unfolding first_child
  first-owner r e = rw e

  pub struct_plain : (r : ℕ) → kind T r ≡ struct_kind → owns T r ≡ false
  unfolding owns
  struct_plain r e = rw e refl

  pub struct-count : (r : ℕ) → kind T r ≡ struct_kind → child_count T r ≡ count T r
  unfolding child_count
  struct-count r e = rw e refl

  struct-children : (r : ℕ) → kind T r ≡ struct_kind → children T r ≡ walk T (next T r) (count T r)
  unfolding children
  struct-children r e = rw (first_plain r (struct_plain r e), struct-count r e)

  -- an owner's children begin where those of its inline struct end
  pub owner-first : (r : ℕ) → owns T r ≡ true → first_child T r ≡ past_children T (next T r)
  unfolding past_children
  owner-first r e = let k : kind T (next T r) ≡ struct_kind = owned-struct r e in rw (first-owner r e, first_plain (next T r) (struct_plain (next T r) k), struct-count (next T r) k)

  pub first_above : (r : ℕ) → r < first_child T r
  first_above r = go (owns T r) refl
    where
      go : (b : Bool) → owns T r ≡ b → r < first_child T r
      go false e = omega (arith, first_plain r e, next-above T r)
      go true e = omega (arith, first-owner r e, next-above T r, next-above T (next T r), past-above T (count T (next T r)) (next T (next T r)))

  pub past_children-above : (r : ℕ) → r < past_children T r
  unfolding past_children
  past_children-above r = omega (arith, first_above r, past-above T (child_count T r) (first_child T r))

  pub past_children-least : (r : ℕ) → first_child T r + child_count T r ≤ past_children T r
  unfolding past_children
  past_children-least r = past-least T (child_count T r) (first_child T r)

  pub children-length : (r : ℕ) → length (children T r) ≡ child_count T r
  unfolding children
  children-length r = walk-length T (child_count T r) (first_child T r)

  pub in_children : (r x : ℕ) → first_child T r ≤ x → x < past_children T r → Memᴰ x (children T r)
  unfolding children past_children
  in_children r x p q = in_walk T (child_count T r) (first_child T r) x p q

  even_childless : (r : ℕ) → kind T r % 2 ≡ 0 → Childless r
  even_childless r e = omega arith

  pub fit-child : (r : ℕ) → children_fit T r ≡ true → (c : ℕ) → Memᴰ c (children T r) → kind T c ≡ suc (kind T r)
  fit-child r e c m = eqb-true (kind T c) (suc (kind T r)) (all_true (λ x. eqb (kind T x) (suc (kind T r))) (children T r) e c m)

  -- the rows of one definition: its own, its inline struct's, its children's
  definition_fit : (r : ℕ) → definition_at T r ≡ true → (x : ℕ) → r ≤ x → x < past_children T r → children_fit T x ≡ true
  definition_fit r d x p q = after-own (ltb x (next T r)) refl (ltb x (first_child T r)) refl
    where
      own : children_fit T r ≡ true
      own = search (and_left, and_right)

      -- a child of an odd row
      child : (s : ℕ) → children_fit T s ≡ true → kind T s % 2 ≡ 1 → first_child T s ≤ x → x < past_children T s → children_fit T x ≡ true
      child s f o l m = let k : kind T x ≡ suc (kind T s) = fit-child s f x (in_children s x l m) in childless_fit x (even_childless x (omega arith))

      in_inline : next T r ≤ x → x < first_child T r → (b : Bool) → owns T r ≡ b → children_fit T x ≡ true
      in_inline y l false e = let i : first_child T r ≡ next T r = first_plain r e in absurd (omega arith)
      in_inline y l true e = go (ltb x (next T (next T r))) refl
        where
          k : kind T (next T r) ≡ struct_kind
          k = owned-struct r e

          f : children_fit T (next T r) ≡ true
          f = or_implies (owns T r) (children_fit T (next T r)) (search (and_left, and_right)) e

          go : (b : Bool) → ltb x (next T (next T r)) ≡ b → children_fit T x ≡ true
          go true g = subst (λ z. children_fit T z ≡ true) (next-only T (next T r) x y (ltb-true x (next T (next T r)) g)) f
          go false g =
              let z : first_child T (next T r) ≡ next T (next T r) = first_plain (next T r) (struct_plain (next T r) k) in
              let w : first_child T r ≡ past_children T (next T r) = owner-first r e in
              let g' : next T (next T r) ≤ x = ltb-false x (next T (next T r)) g in
              child (next T r) f (omega (arith, k)) (omega arith) (omega arith)

      after-own : (b : Bool) → ltb x (next T r) ≡ b → (c : Bool) → ltb x (first_child T r) ≡ c → children_fit T x ≡ true
      after-own true e c e' = subst (λ z. children_fit T z ≡ true) (next-only T r x p (ltb-true x (next T r) e)) own
      after-own false e true e' = in_inline (ltb-false x (next T r) e) (ltb-true x (first_child T r) e') (owns T r) refl
      after-own false e false e' = child r own (odd-kind (kind T r) (search (and_left, and_right))) (ltb-false x (first_child T r) e') q

  -- every row from r on belongs to a definition, and its children have the kind that belongs to it
  pub laid_fit : (n r : ℕ) → laid_out T n r ≡ true → (x : ℕ) → r ≤ x → x < row_count T → children_fit T x ≡ true
  unfolding laid_out
  laid_fit zero r e x p q = let z : r ≡ row_count T = eqb-true r (row_count T) e in absurd (omega arith)
  laid_fit (suc n) r e x p q =
      let end : ℕ = past_children T r in
      ⊎_elim
      (λ y. let z : r ≡ row_count T = eqb-true r (row_count T) y in absurd (omega arith))
      (λ y. go (and_left (definition_at T r) (laid_out T n end) y) (ltb x end) refl
      (λ l. laid_fit n end (and_right (definition_at T r) (laid_out T n end) y) x l q))
      (or_cases (eqb r (row_count T)) (definition_at T r && laid_out T n end) e)
    where
      go : definition_at T r ≡ true → (b : Bool) → ltb x (past_children T r) ≡ b
          → (past_children T r ≤ x → children_fit T x ≡ true) → children_fit T x ≡ true
      go d true l more = definition_fit r d x p (ltb-true x (past_children T r) l)
      go d false l more = more (ltb-false x (past_children T r) l)

  -- members with different fuel agree
  pub members_agree : (n k l : ℕ) (a b : List ℕ) → members T n l ≡ some a → members T k l ≡ some b → a ≡ b
  unfolding members
  members_agree zero zero zero a b p q = cc
  members_agree zero zero (suc r) a b p q = absurd (none-not-some p)
  members_agree zero (suc k) zero a b p q = cc
  members_agree zero (suc k) (suc r) a b p q = absurd (none-not-some p)
  members_agree (suc n) zero zero a b p q = cc
  members_agree (suc n) zero (suc r) a b p q = absurd (none-not-some q)
  members_agree (suc n) (suc k) zero a b p q = cc
  members_agree (suc n) (suc k) (suc r) a b p q = go (members T n (base T r)) refl (members T k (base T r)) refl p q (members_agree n k (base T r))
    where
      go : (x : Option (List ℕ)) → members T n (base T r) ≡ x → (y : Option (List ℕ)) → members T k (base T r) ≡ y
          → after x (children T r) ≡ some a → after y (children T r) ≡ some b
          → ((c d : List ℕ) → members T n (base T r) ≡ some c → members T k (base T r) ≡ some d → c ≡ d) → a ≡ b
      go none e y f p q r = absurd (none-not-some p)
      go (some c) e none f p q r = absurd (none-not-some q)
      go (some c) e (some d) f p q r = let z : c ≡ d = r c d e f in cc
