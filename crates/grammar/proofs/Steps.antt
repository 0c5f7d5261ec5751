-- The machine one step at a time, and the place where it stops: it lies between where the machine is and the end, and what comes after it does not count.
-- Each law goes by induction on the bytes, with a lemma for one step.
use Prim.Native.Nat.{ℕ, suc, ◌+◌, ◌≤◌, ◌<◌}
use native.Mathlib.Omega.{arith}
use mathlib.Core.Path.{◌≡◌, refl, sym, ◌∙◌, subst}
use mathlib.Core.List.{List, [], ◌∷◌, ◌++◌}
use mathlib.Core.Option.{Option, some}
use lib.ListN.{length}
use Rattle.grammar.specs.Tree.{Scalar, Json, Json.leaf, Items}
use Rattle.grammar.specs.Serving.Machine.{Dialect, Stack, Stack.bottom, Stack.in_array, Stack.in_object, Out, Out.whole, Out.fault, Out.deep, Next, Next.to, Next.stuck, Next.over}
use Rattle.grammar.specs.Serving.Machine.{step, end_value, end_objects, end_token, finish, scan, Control}
use Rattle.grammar.specs.Serving.Machine.Control.{AtObject, AtValue, AtElement, After, AtFirstKey, AtKey, AtColon, InString, InChar, InToken, InComment}

-- the answer stops at a place
abbrev pub Stops : Out → ℕ → Type 0
Stops (whole x) e = ⊥
Stops (fault n) e = n ≡ e
Stops (deep n) e = n ≡ e

-- the answer is no lack of levels
abbrev pub NotDeep : Out → Type 0
NotDeep (whole x) = Unit {0}
NotDeep (fault n) = Unit {0}
NotDeep (deep n) = ⊥

module _ (D : Dialect) (lim : ℕ) where
  abbrev pub goes_on : Next D → ℕ → List ℕ → Out
  goes_on (to c k) p l = scan D lim c k (suc p) l
  goes_on stuck p l = fault p
  goes_on over p l = deep p

  pub scan_cons : (c : Control D) (k : Stack) (p b : ℕ) (l : List ℕ) → scan D lim c k p (b ∷ l) ≡ goes_on (step D lim c k p b) p l
  unfolding scan
  scan_cons c k p b l = go (step D lim c k p b)
    where
      go : (n : Next D) → elim n as (λ _. Out) [ to c' k' ↦ scan D lim c' k' (suc p) l | stuck ↦ fault p | over ↦ deep p ] ≡ goes_on n p l
      go (to c k) = refl
      go stuck = refl
      go over = refl

  -- at the end of the text the machine stops there, if it stops, and never for lack of levels
  record Finished (p : ℕ) (o : Out) : Type 0 where
    stops : (e : ℕ) → Stops o e → p ≡ e
    not_deep : NotDeep o

  whole-end : {p : ℕ} {x : Items} → Finished p (whole x)
  whole-end = record { stops = λ e s. absurd s; not_deep = tt }

  fault-end : {p : ℕ} → Finished p (fault p)
  fault-end = record { stops = λ e s. s; not_deep = tt }

  value-end : (v : Json) (k : Stack) (p : ℕ) → Finished p (end_value D v k p)
  value-end v (bottom js) p = whole-end
  value-end v (in_array a js k) p = fault-end
  value-end v (in_object a fs s e cs k) p = fault-end

  objects-end : (k : Stack) (p : ℕ) → Finished p (end_objects D k p)
  objects-end (bottom js) p = whole-end
  objects-end (in_array a js k) p = whole-end
  objects-end (in_object a fs s e cs k) p = whole-end

  token_end_lem : (y : Option Scalar) (a : ℕ) (k : Stack) (p : ℕ) → Finished p (end_token D y a k p)
  token_end_lem (some v) a k p = value-end (leaf a p v) k p
  token_end_lem Option.none a k p = fault-end

  at-end : (c : Control D) (k : Stack) (p : ℕ) → Finished p (finish D c k p)
  at-end AtObject k p = objects-end k p
  at-end AtValue k p = fault-end
  at-end (AtElement a) k p = fault-end
  at-end (After v) k p = value-end v k p
  at-end (AtFirstKey a) k p = fault-end
  at-end (AtKey a fs) k p = fault-end
  at-end (AtColon a fs s e cs) k p = fault-end
  at-end (InString d acc) k p = fault-end
  at-end (InChar d acc s) k p = fault-end
  at-end (InToken a s) k p = token_end_lem (D.token_end s) a k p
  at-end (InComment c) k p = at-end c k p

  pub finish-not_deep : (c : Control D) (k : Stack) (p : ℕ) → NotDeep (finish D c k p)
  finish-not_deep c k p = (at-end c k p).not_deep

  -- a stop lies between the place where the machine is and the end
  range_step : (l : List ℕ) (p e : ℕ) → ((c : Control D) (k : Stack) → Stops (scan D lim c k (suc p) l) e → (suc p ≤ e) × (e ≤ suc p + length l))
      → (n : Next D) → Stops (goes_on n p l) e → (p ≤ e) × (e ≤ p + suc (length l))
  range_step l p e ih (to c k) s = let h = ih c k s in omega arith
  range_step l p e ih stuck s = omega arith
  range_step l p e ih over s = omega arith

  pub range : (l : List ℕ) (c : Control D) (k : Stack) (p e : ℕ) → Stops (scan D lim c k p l) e → (p ≤ e) × (e ≤ p + length l)
  unfolding scan
  range [] c k p e s = let h = (at-end c k p).stops e s in omega arith
  range (b ∷ l) c k p e s = range_step l p e (λ c k. range l c k (suc p) e) (step D lim c k p b) (subst (λ (o : Out). Stops o e) (scan_cons c k p b l) s)

  -- what comes after a stop does not count
  stop_step : (a x y : List ℕ) (p e : ℕ)
      → ((c : Control D) (k : Stack) → Stops (scan D lim c k (suc p) (a ++ x)) e → scan D lim c k (suc p) (a ++ y) ≡ scan D lim c k (suc p) (a ++ x))
      → (n : Next D) → Stops (goes_on n p (a ++ x)) e → goes_on n p (a ++ y) ≡ goes_on n p (a ++ x)
  stop_step a x y p e ih (to c k) s = ih c k s
  stop_step a x y p e ih stuck s = refl
  stop_step a x y p e ih over s = refl

  pub stop-stays : (a x y : List ℕ) (c : Control D) (k : Stack) (p e : ℕ) → e < p + length a → Stops (scan D lim c k p (a ++ x)) e
      → scan D lim c k p (a ++ y) ≡ scan D lim c k p (a ++ x)
  stop-stays [] x y c k p e h s = absurd (omega (arith, range x c k p e s))
  stop-stays (b ∷ a) x y c k p e h s =
      scan_cons c k p b (a ++ y)
      ∙ stop_step a x y p e (λ c k. stop-stays a x y c k (suc p) e (omega arith)) (step D lim c k p b) (subst (λ (o : Out). Stops o e) (scan_cons c k p b (a ++ x)) s)
      ∙ sym (scan_cons c k p b (a ++ x))
