-- Mandatory members counted: one more, of two lists, and of a row's children, looked at in turn or by the index.
-- The idea: what is counted so far and what is left make up the whole; no more is counted than was looked at.
use Prim.Native.Nat.{ℕ, suc, ◌+◌, ◌-◌, ◌≤◌, ◌<◌, ◌^◌}
use mathlib.Core.Path.{◌≡◌, sym, ap, ◌∙◌}
use mathlib.Core.Bool.{Bool, true, false, cond}
use mathlib.Core.List.{List, [], ◌∷◌, ◌++◌}
use native.Mathlib.Omega.{arith}
use lib.Dec.{eqb}
use lib.ListN.{get_or, length}
use mir.Syntax.{w32, w64}
use mir.Val.{Fits}
use borrow.Author.Tests.{eq-eqb, ne_eqb}
use Rattle.rules.specs.Rows.{optional, walk, child_count, children}
use Rattle.rules.proofs.TableRows.{children-length}
use Rattle.rows.specs.Rows.{Follows, First, Counted}
use Rattle.rows.proofs.RowFacts.{child_count-small}
use Rattle.rows.proofs.LoopLaws.{walk_at, walk-over}
use Rattle.rows.proofs.ChildLaws.{children-walk}
use Rattle.children.specs.Counts.{mandatory_in}
use Rattle.children.specs.Index.{count_place, is_long}
use Rattle.children.specs.Children.{OwnMandatory}

module _ (T : List ℕ) where
  pub count-more : (c : ℕ) (l : List ℕ) → mandatory_in T (c ∷ l) ≡ mandatory_in T (c ∷ []) + mandatory_in T l
  unfolding mandatory_in
  count-more c l = go (eqb (optional T c) 0)
    where
      go : (b : Bool) → cond b (suc (mandatory_in T l)) (mandatory_in T l) ≡ cond b 1 0 + mandatory_in T l
      go true = omega arith
      go false = omega arith

  pub count-append : (a b : List ℕ) → mandatory_in T (a ++ b) ≡ mandatory_in T a + mandatory_in T b
  unfolding mandatory_in
  count-append [] b = omega arith
  count-append (c ∷ a) b = omega (arith, count-more c (a ++ b), count-more c a, count-append a b)

  one-small : (c : ℕ) → mandatory_in T (c ∷ []) ≤ 1
  unfolding mandatory_in
  one-small c = go (eqb (optional T c) 0)
    where
      go : (b : Bool) → cond b 1 0 ≤ 1
      go true = omega arith
      go false = omega arith

  pub count-few : (l : List ℕ) → mandatory_in T l ≤ length l
  unfolding mandatory_in
  count-few [] = omega arith
  count-few (c ∷ l) = omega (arith, count-more c l, one-small c, count-few l)

-- one member
module _ (T : List ℕ) (c : ℕ) {o : ℕ} (p : o ≡ optional T c) where
  pub one_mandatory : o ≡ 0 → 1 ≡ mandatory_in T (c ∷ [])
  unfolding mandatory_in
  one_mandatory z = rw (eq-eqb (optional T c) 0 (sym p ∙ z))

  pub one-optional : (o ≡ 0 → ⊥) → 0 ≡ mandatory_in T (c ∷ [])
  unfolding mandatory_in
  one-optional n = rw (ne_eqb (optional T c) 0 (λ z. n (p ∙ z)))

-- of the children of row r the n from c on are left, and s of the others are mandatory
pub record CountLeft (T : List ℕ) (r s c n : ℕ) : Type 0 where
  pub few : s + n < 2 ^ 32
  pub so_far : mandatory_in T (children T r) ≡ s + mandatory_in T (walk T c n)

pub count-start : {T : List ℕ} {r a n : ℕ} → First T r a → Counted T r n → CountLeft T r 0 a n
count-start {T} p q = record { few = omega (arith, q.few); so_far = ap (mandatory_in T) (children-walk p q) ∙ omega arith }

module _ {T : List ℕ} {r s c n : ℕ} (v : CountLeft T r s c n) where
  pub count-on : 0 < n → {x c' : ℕ} → x ≡ mandatory_in T (c ∷ []) → Follows T c c' → CountLeft T r (s + x) c' (n - 1)
  count-on h {x} {c'} p f = record {
    few = omega (arith, v.few, one-small T c);
    so_far = v.so_far ∙ ap (λ l. s + mandatory_in T l) (walk_at T h f.is) ∙ omega (arith, count-more T c (walk T c' (n - 1)));
  }

  pub count-end : n ≤ 0 → s ≡ mandatory_in T (children T r)
  unfolding mandatory_in
  count-end h = sym (v.so_far ∙ ap (λ l. s + mandatory_in T l) (walk-over T c h) ∙ omega arith)

  pub count_fits : {x : ℕ} → x ≡ mandatory_in T (c ∷ []) → 0 < n → Fits w64 (s + x)
  count_fits p h = omega (arith, v.few, one-small T c)

-- no more are mandatory than there are
pub own-few : (T : List ℕ) (r : ℕ) → mandatory_in T (children T r) ≤ child_count T r
own-few T r = omega (arith, count-few T (children T r), children-length T r)

pub own_scanned : (T : List ℕ) → ((i : ℕ) → Fits w32 (get_or T i 0)) → (r : ℕ) {ix : List ℕ} {x : ℕ} → x ≡ mandatory_in T (children T r) → OwnMandatory T ix r x
own_scanned T f r p = record { small = omega (arith, own-few T r, child_count-small T f r); told = λ S g. p }

pub own_indexed : (T ix : List ℕ) → ((i : ℕ) → Fits w32 (get_or ix i 0)) → {r x : ℕ} {b : Bool} → b ≡ is_long T r → b ≡ true → x ≡ get_or ix (count_place r) 0 → OwnMandatory T ix r x
own_indexed T ix f {r} p t q = record { small = omega (arith, f (count_place r)); told = λ S g. q ∙ (g.filled.owned r (sym p ∙ t)).counted }
