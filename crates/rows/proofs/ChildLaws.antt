-- The children of a row as the walk that `first_child` and `child_count` give, and loops over it.
use Prim.Native.Nat.{ℕ, ◌+◌, ◌-◌, ◌≤◌, ◌<◌}
use mathlib.Core.Path.{◌≡◌, refl, sym, ap, ◌∙◌}
use mathlib.Core.Bool.{Bool, true, false, not}
use mathlib.Core.List.{List}
use native.Mathlib.Numerals.{add-one}
use native.Mathlib.Omega.{arith}
use Rattle.rules.specs.Rows.{count, next, walk, past, owns, first_child, children, past_children, name_of}
use Rattle.rules.specs.Names.{same_name}
use Rattle.rules.specs.SchemaTable.{member_in}
use Rattle.rules.proofs.TableRows.{first_plain, first-owner}
use Rattle.rows.specs.Rows.{Follows, Room, First, Counted}
use Rattle.rows.proofs.Walks.{granted, denied}
use Rattle.rows.proofs.LoopLaws.{WalkLeft, left_hit, left-on, left-ends}

-- the first child
module _ {T : List ℕ} {r s : ℕ} {b : Bool} (p : Follows T r s) (o : b ≡ owns T r) where
  pub first_next : not b ≡ true → s ≡ first_child T r
  first_next t = p.is ∙ sym (first_plain T r (denied o t))

  pub first_past : not b ≡ false → {c n e : ℕ} → Follows T s c → n ≡ count T s → e ≡ past T c n → e ≡ first_child T r
  first_past t {c} {n} q k z =
      let u : c ≡ next T (next T r) = q.is ∙ ap (next T) p.is in
      let v : n ≡ count T (next T r) = k ∙ ap (count T) p.is in
      z ∙ rw (u, v) (sym (first-owner T r (granted o t)))

-- a walk over the children
module _ {T : List ℕ} {r a n : ℕ} (p : First T r a) (q : Counted T r n) where
  pub children-room : Room a n
  children-room = record { few = omega (arith, q.few); low = omega (arith, p.low, q.few) }

  pub children-walk : children T r ≡ walk T a n
  unfolding children
  children-walk = rw (p.is, q.is)

  pub children-past : {e : ℕ} → e ≡ past T a n → e ≡ past_children T r
  unfolding past_children
  children-past z = z ∙ rw (p.is, q.is)

  pub left-children : {A : Type 0} {whole : A} (g : List ℕ → A) → whole ≡ g (children T r) → WalkLeft g T whole a n
  left-children g h = record { left = h ∙ ap g children-walk }

-- a walk for a name: `whole` is the link of the first of the rows left that has the name x
pub record LinkLeft (whole : ℕ) (S T x : List ℕ) (c n : ℕ) : Type 0 where
  pub rows : WalkLeft (member_in S T x) T whole c n

pub link-starts : (S T x : List ℕ) {r a n : ℕ} → First T r a → Counted T r n → LinkLeft (member_in S T x (children T r)) S T x a n
link-starts S T x p q = record { rows = left-children p q (member_in S T x) refl }

module _ {whole : ℕ} {S T x : List ℕ} {c n : ℕ} (l : LinkLeft whole S T x c n) where
  pub link-ends : n ≤ 0 → 0 ≡ whole
  link-ends h = left-ends l.rows h

  module _ (h : 0 < n) {y : List ℕ} {t : Bool} (p : y ≡ name_of S T c) (q : t ≡ same_name x y) where
    pub link_hit : t ≡ true → c + 1 ≡ whole
    link_hit e = left_hit l.rows h (λ rs. rw (← p, ← q, e, add-one c))

    pub link_on : t ≡ false → {c' : ℕ} → Follows T c c' → LinkLeft whole S T x c' (n - 1)
    link_on e f = record { rows = left-on l.rows h f.is (λ rs. rw (← p, ← q, e)) }
