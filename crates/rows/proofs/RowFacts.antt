-- Laws of rows in any words: unnamed and inline structs, children as numbers up to an end, and how large the counts are that 32-bit words hold.
-- Each goes by the tests in the definition.
use Prim.Native.Nat.{ℕ, ◌+◌, ◌<◌, ◌^◌}
use mathlib.Core.Path.{◌≡◌, ◌∙◌}
use mathlib.Core.Bool.{Bool, true, false, cond, ◌||◌, and-false}
use mathlib.Core.Logic.{◌⊎◌, ⊎_elim}
use mathlib.Core.List.{List}
use native.Mathlib.Numerals.{add-one}
use native.Mathlib.Omega.{arith}
use lib.Dec.{eqb}
use lib.ListN.{get_or}
use mir.Syntax.{w32}
use mir.Val.{Fits}
use borrow.Author.Tests.{eq-eqb, ne_eqb}
use Rattle.rules.specs.Kinds.{struct_kind, union_kind, command_kind}
use Rattle.rules.specs.Rows.{kind, start, size, base, is_enum, is_struct, is_union, is_alternate, count, branch_count, next, unnamed, owns, child_count, owner_link}
use Rattle.rows.specs.Rows.{Follows}
use Rattle.rows.proofs.Walks.{so}

-- an unnamed struct: the words read of it, and what they are
module _ (T : List ℕ) (r : ℕ) where
  pub unnamed-kind : (k : ℕ) → k ≡ kind T r → (k ≡ struct_kind → ⊥) → false ≡ unnamed T r
  unfolding unnamed
  unnamed-kind k p n = rw (ne_eqb (kind T r) struct_kind (λ e. n (p ∙ e)))

  pub unnamed-start : (a : ℕ) → a ≡ start T r → (a ≡ 0 → ⊥) → false ≡ unnamed T r
  unfolding unnamed
  unnamed-start a p n = rw (ne_eqb (start T r) 0 (λ e. n (p ∙ e)), and-false)

  pub unnamed-size : (s : ℕ) → s ≡ size T r → (s ≡ 0 → ⊥) → false ≡ unnamed T r
  unfolding unnamed
  unnamed-size s p n = rw (ne_eqb (size T r) 0 (λ e. n (p ∙ e)), and-false)

  pub unnamed-base : (k a s b : ℕ) → k ≡ kind T r → k ≡ struct_kind → a ≡ start T r → a ≡ 0 → s ≡ size T r → s ≡ 0 → b ≡ base T r → eqb b 0 ≡ unnamed T r
  unfolding unnamed
  unnamed-base k a s b p p' q q' t t' u = rw (so p p', so q q', so t t', u)

-- the next row, as it is counted
pub follows-one : {T : List ℕ} (r : ℕ) → Follows T r (r + 1)
unfolding next
follows-one r = record { is = add-one r; low = omega arith }

-- an owner: a union or a command that links to the unnamed struct after it
module _ (T : List ℕ) (r : ℕ) where
  pub owns-kind : (k : ℕ) → k ≡ kind T r → (k ≡ union_kind → ⊥) → (k ≡ command_kind → ⊥) → false ≡ owns T r
  unfolding owns
  owns-kind k p u c = rw (ne_eqb (kind T r) union_kind (λ e. u (p ∙ e)), ne_eqb (kind T r) command_kind (λ e. c (p ∙ e)))

  module _ {s : ℕ} (n : Follows T r s) (l : ℕ) (q : l ≡ owner_link T r) where
    pub owns_no_link : (l ≡ s + 1 → ⊥) → false ≡ owns T r
    unfolding owns
    owns_no_link m = rw (← n.is, ← add-one s, ne_eqb (owner_link T r) (s + 1) (λ e. m (q ∙ e)), and-false)

    pub owns-linked : (k : ℕ) (b : Bool) → k ≡ kind T r → (k ≡ command_kind) ⊎ (k ≡ union_kind) → l ≡ s + 1 → b ≡ unnamed T s → b ≡ owns T r
    unfolding owns
    owns-linked k b p o e u = rw (← n.is, ← add-one s, ← p, kinds, eq-eqb (owner_link T r) (s + 1) (so q e)) u
      where
        kinds : (eqb k union_kind || eqb k command_kind) ≡ true
        kinds = ⊎_elim (λ (e : k ≡ command_kind). rw e) (λ (e : k ≡ union_kind). rw e) o

-- words of 32 bits
module _ (T : List ℕ) (small : (k : ℕ) → Fits w32 (get_or T k 0)) where
  pub child_count-small : (r : ℕ) → child_count T r < 2 ^ 32
  unfolding child_count
  child_count-small r = go (is_enum T r || is_struct T r || is_alternate T r) (is_union T r)
    where
      go : (a b : Bool) → cond a (count T r) (cond b (branch_count T r) 0) < 2 ^ 32
      go true b = (small _).fits
      go false true = (small _).fits
      go false false = omega arith
