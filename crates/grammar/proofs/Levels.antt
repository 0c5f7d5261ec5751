-- One level more: an answer other than `deep` stays the same, and where the levels ran out the machine goes on, at an opening bracket.
-- One walk over `step` compares the two limits (`Raised`); the levels in use never pass the limit, so that one level more is enough.
use Prim.Native.Nat.{ℕ, suc, ◌+◌, ◌≤◌, ◌<◌}
use Prim.Native.Char.{code}
use native.Mathlib.Omega.{arith}
use mathlib.Core.Logic.{inl, inr}
use mathlib.Core.Path.{◌≡◌, refl, sym, ap, ◌∙◌, subst}
use mathlib.Core.Bool.{Bool, true, false, cond}
use mathlib.Core.List.{List, [], ◌∷◌, ◌++◌}
use mathlib.Core.Option.{Option, some}
use lib.ListN.{length}
use lib.Dec.{ltb, eqb}
use borrow.Author.Tests.{ltb-true, ltb-false, lt-ltb, eqb-true}
use Rattle.grammar.specs.Tree.{Json, Json.leaf, Items, Items.no_items, Items.item}
use Rattle.grammar.specs.Starts.{Opening}
use Rattle.grammar.specs.Serving.Machine.{CharStep, CharStep.stay, CharStep.char, CharStep.bad, TokenStep, TokenStep.on, TokenStep.last, TokenStep.past, TokenStep.off, Dialect}
use Rattle.grammar.specs.Serving.Machine.{Out, Out.whole, Out.fault, Out.deep, Stack, Stack.bottom, Stack.in_array, Stack.in_object, StringRole, StringRole.as_value}
use Rattle.grammar.specs.Serving.Machine.{StringRole.as_key, Next, Next.to, Next.stuck, Next.over, Control, depth, opens, begin_token, begin_value, skip, follow, end_string, in_char}
use Rattle.grammar.specs.Serving.Machine.{in_token, step, finish, scan}
use Rattle.grammar.specs.Serving.Machine.Control.{AtObject, AtValue, AtElement, After, AtFirstKey, AtKey, AtColon, InString, InChar, InToken, InComment}
use Rattle.grammar.proofs.TokenRuns.{TokensComplete, TokensCompletable}
use Rattle.grammar.proofs.Rest.{level, level_string}
use Rattle.grammar.proofs.Steps.{Stops, NotDeep, goes_on, scan_cons, range, finish-not_deep}
use Rattle.grammar.proofs.Viable.{completion, completes}

module _ (D : Dialect) (lim : ℕ) where
  -- where a bracket may want a level too many: an object, a value or a first element may begin, or after a value another of several
  pub data Wants : Control D → Stack → Type 0 where
    an_object : {k : Stack} → lim ≤ depth k → Wants AtObject k
    a_value : {k : Stack} → lim ≤ depth k → Wants AtValue k
    an_element : {a : ℕ} {k : Stack} → lim ≤ suc (depth k) → Wants (AtElement a) k
    another : {c : Control D} {k : Stack} → D.lexis.several ≡ true → Wants c k

  -- a step at the byte b with lim levels, and with one more: the same, or for lack of levels at a bracket, and then P
  pub data Raised (b : ℕ) (P : Type 0) : Next D → Next D → Type 0 where
    same : {c : Control D} {k : Stack} → level D c k ≤ lim → Raised b P (to c k) (to c k)
    none : Raised b P stuck stuck
    more : {c : Control D} {k : Stack} → Opening b → P → Raised b P over (to c k)

  module _ {b : ℕ} {P : Type 0} where
    tests : (t : Bool) {x y x' y' : Next D} → (t ≡ true → Raised b P x x') → Raised b P y y' → Raised b P (cond t x y) (cond t x' y')
    tests true f r = f refl
    tests false f r = r

    opened : (c : Control D) (k : Stack) → level D c k ≡ suc (depth k) → depth k ≤ lim → Opening b → (lim ≤ depth k → P) → Raised b P (opens D lim c k) (opens D (suc lim) c k)
    opened c k e h r f = go (ltb (depth k) lim) refl (ltb (depth k) (suc lim)) (lt-ltb (depth k) (suc lim) (omega arith))
      where
        go : (x : Bool) → ltb (depth k) lim ≡ x → (y : Bool) → y ≡ true → Raised b P (cond x (to c k) over) (cond y (to c k) over)
        go true t true u = same {c = c} {k = k} (omega (arith, ltb-true (depth k) lim t, e))
        go false t true u = more r (f (ltb-false (depth k) lim t))
        go x t false u = let z : ◌≡◌ {A = ℕ} 0 1 = cc in absurd (omega arith)

    array-opened : (p : ℕ) (k : Stack) → depth k ≤ lim → (lim ≤ depth k → P) → eqb b (code "[") ≡ true → Raised b P (opens D lim (AtElement p) k) (opens D (suc lim) (AtElement p) k)
    array-opened p k h f t = opened (AtElement p) k refl h (inl (eqb-true b (code "[") t)) f

    object-opened : (p : ℕ) (k : Stack) → depth k ≤ lim → (lim ≤ depth k → P) → eqb b (code "{") ≡ true → Raised b P (opens D lim (AtFirstKey p) k) (opens D (suc lim) (AtFirstKey p) k)
    object-opened p k h f t = opened (AtFirstKey p) k refl h (inr (eqb-true b (code "{") t)) f

    raised_token : (p : ℕ) (y : Option D.TokenState) (k : Stack) → depth k ≤ lim → Raised b P (begin_token D p y k) (begin_token D p y k)
    raised_token p (some s) k h = same h
    raised_token p Option.none k h = none

    raised_value : (k : Stack) (p : ℕ) → depth k ≤ lim → (lim ≤ depth k → P) → Raised b P (begin_value D lim k p b) (begin_value D (suc lim) k p b)
    raised_value k p h f =
        tests (D.lexis.quote b) (λ _. same h)
        (tests (eqb b (code "[")) (array-opened p k h f) (tests (eqb b (code "{")) (object-opened p k h f) (raised_token p (D.token_start b) k h)))

    raised_skip : (c : Control D) (k : Stack) {x y : Next D} → level D c k ≤ lim → Raised b P x y → Raised b P (skip D c k b x) (skip D c k b y)
    raised_skip c k h r = tests (D.lexis.blank b) (λ _. same h) (tests (D.lexis.comment b) (λ _. same h) r)

    raised_follow : (v : Json) (k : Stack) (p : ℕ) → depth k ≤ lim → (D.lexis.several ≡ true → P) → Raised b P (follow D lim v k p b) (follow D (suc lim) v k p b)
    raised_follow v (bottom js) p h f = tests D.lexis.several (λ t. tests (eqb b (code "{")) (object-opened p (bottom (item v js)) h (λ _. f t)) none) none
    raised_follow v (in_array a js k) p h f = tests (eqb b (code ",")) (λ _. same h) (tests (eqb b (code "]")) (λ _. same (omega arith)) none)
    raised_follow v (in_object a fs s e cs k) p h f = tests (eqb b (code ",")) (λ _. same h) (tests (eqb b (code "}")) (λ _. same (omega arith)) none)

    raised_char : (y : CharStep D.CharState) (d : StringRole) (acc : List ℕ) (k : Stack) → level_string d k ≤ lim → Raised b P (in_char D y d acc k) (in_char D y d acc k)
    raised_char (stay s) d acc k h = same h
    raised_char (char c) d acc k h = same h
    raised_char bad d acc k h = none

    raised_quote : (d : StringRole) (e : ℕ) (cs : List ℕ) (k : Stack) → level_string d k ≤ lim → Raised b P (to (end_string D d e cs) k) (to (end_string D d e cs) k)
    raised_quote (as_value a) e cs k h = same h
    raised_quote (as_key a fs o) e cs k h = same h

    raised_in_token : (y : TokenStep D.TokenState) (a : ℕ) (k : Stack) (p : ℕ) → depth k ≤ lim → (D.lexis.several ≡ true → P) → Raised b P (in_token D y lim a k p b) (in_token D y (suc lim) a k p b)
    raised_in_token (on s) a k p h f = same h
    raised_in_token (last v) a k p h f = same h
    raised_in_token (past v) a k p h f = raised_skip (After (leaf a p v)) k h (raised_follow (leaf a p v) k p h f)
    raised_in_token off a k p h f = none

  pub raised : {b : ℕ} (c : Control D) (k : Stack) (p : ℕ) → level D c k ≤ lim → Raised b (Wants c k) (step D lim c k p b) (step D (suc lim) c k p b)
  raised {b} AtObject k p h = raised_skip AtObject k h (tests (eqb b (code "{")) (object-opened p k h an_object) none)
  raised {b} AtValue k p h = raised_skip AtValue k h (raised_value k p h a_value)
  raised {b} (AtElement a) k p h = raised_skip (AtElement a) k h (tests (eqb b (code "]")) (λ _. same (omega arith)) (raised_value (in_array a no_items k) p h an_element))
  raised {b} (After v) k p h = raised_skip (After v) k h (raised_follow v k p h another)
  raised {b} (AtFirstKey a) k p h = raised_skip (AtFirstKey a) k h (tests (eqb b (code "}")) (λ _. same (omega arith)) (tests (D.lexis.quote b) (λ _. same h) none))
  raised {b} (AtKey a fs) k p h = raised_skip (AtKey a fs) k h (tests (D.lexis.quote b) (λ _. same h) none)
  raised {b} (AtColon a fs s e cs) k p h = raised_skip (AtColon a fs s e cs) k h (tests (eqb b (code ":")) (λ _. same h) none)
  raised {b} (InString d acc) k p h = tests (D.lexis.quote b) (λ _. raised_quote d _ _ k h) (raised_char (D.char_start b) d acc k h)
  raised {b} (InChar d acc s) k p h = raised_char (D.char_step s b) d acc k h
  raised {b} (InToken a s) k p h = raised_in_token (D.token_step s b) a k p h another
  raised {b} (InComment c) k p h = tests (eqb b (code "\n")) (λ _. same h) (same h)

  -- an answer other than `deep` stays
  stays_step : {b : ℕ} {P : Type 0} (l : List ℕ) (p : ℕ)
      → ((c : Control D) (k : Stack) → level D c k ≤ lim → NotDeep (scan D lim c k (suc p) l) → scan D (suc lim) c k (suc p) l ≡ scan D lim c k (suc p) l)
      → (x y : Next D) → Raised b P x y → NotDeep (goes_on D lim x p l) → goes_on D (suc lim) y p l ≡ goes_on D lim x p l
  stays_step l p ih x y (same {c = c} {k = k} h) d = ih c k h d
  stays_step l p ih x y none d = refl
  stays_step l p ih x y (more r f) d = absurd d

  pub stays : (l : List ℕ) (c : Control D) (k : Stack) (p : ℕ) → level D c k ≤ lim → NotDeep (scan D lim c k p l) → scan D (suc lim) c k p l ≡ scan D lim c k p l
  unfolding scan
  stays [] c k p h d = refl
  stays (b ∷ l) c k p h d =
      scan_cons D (suc lim) c k p b l
      ∙ stays_step l p (λ c k. stays l c k (suc p)) (step D lim c k p b) (step D (suc lim) c k p b) (raised c k p h) (subst NotDeep (scan_cons D lim c k p b l) d)
      ∙ sym (scan_cons D lim c k p b l)

  -- `deep` is said of a byte that is there
  not_deep : {A : Type 0} {e : ℕ} (o : Out) → NotDeep o → o ≡ deep e → A
  not_deep o d h = absurd (subst NotDeep h d)

  inside-step : (l : List ℕ) (p e : ℕ) → ((c : Control D) (k : Stack) → scan D lim c k (suc p) l ≡ deep e → e < suc p + length l) → (x : Next D) → goes_on D lim x p l ≡ deep e
      → e < p + suc (length l)
  inside-step l p e ih (to c k) h = let z = ih c k h in omega arith
  inside-step l p e ih stuck h = not_deep (fault p) tt h
  inside-step l p e ih over h = let z : p ≡ e = cc in omega arith

  pub inside : (l : List ℕ) (c : Control D) (k : Stack) (p e : ℕ) → scan D lim c k p l ≡ deep e → e < p + length l
  unfolding scan
  inside [] c k p e h = not_deep (finish D c k p) (finish-not_deep D lim c k p) h
  inside (b ∷ l) c k p e h = inside-step l p e (λ c k. inside l c k (suc p) e) (step D lim c k p b) (sym (scan_cons D lim c k p b l) ∙ h)

  -- where the machine comes to over bytes at which it does not stop, with lim levels and with one more
  pub record Reached (low high : List ℕ → Out) (q : ℕ) : Type 0 where
    pub control : Control D
    pub stack : Stack
    pub within : level D control stack ≤ lim
    pub path : (y : List ℕ) → low y ≡ scan D lim control stack q y
    pub higher : (y : List ℕ) → high y ≡ scan D (suc lim) control stack q y

  reach_step : {b : ℕ} {P : Type 0} (a x : List ℕ) (p q : ℕ) → p < q
      → ((c : Control D) (k : Stack) → level D c k ≤ lim → ((e : ℕ) → Stops (scan D lim c k (suc p) (a ++ x)) e → q ≤ e)
      → Reached (λ y. scan D lim c k (suc p) (a ++ y)) (λ y. scan D (suc lim) c k (suc p) (a ++ y)) q)
      → (n m : Next D) → Raised b P n m → ((e : ℕ) → Stops (goes_on D lim n p (a ++ x)) e → q ≤ e) → Reached (λ y. goes_on D lim n p (a ++ y)) (λ y. goes_on D (suc lim) m p (a ++ y)) q
  reach_step a x p q h ih n m (same {c = c} {k = k} i) s = ih c k i s
  reach_step a x p q h ih n m none s = absurd (omega (arith, s p refl))
  reach_step a x p q h ih n m (more r f) s = absurd (omega (arith, s p refl))

  pub reach : (a x : List ℕ) (c : Control D) (k : Stack) (p q : ℕ) → level D c k ≤ lim → p + length a ≡ q → ((e : ℕ) → Stops (scan D lim c k p (a ++ x)) e → q ≤ e)
      → Reached (λ y. scan D lim c k p (a ++ y)) (λ y. scan D (suc lim) c k p (a ++ y)) q
  reach [] x c k p q h i s =
      let e : p ≡ q = omega arith in
      record { control = c; stack = k; within = h; path = λ y. ap (λ (n : ℕ). scan D lim c k n y) e; higher = λ y. ap (λ (n : ℕ). scan D (suc lim) c k n y) e }
  reach (b ∷ a) x c k p q h i s =
      let t : (e : ℕ) → Stops (goes_on D lim (step D lim c k p b) p (a ++ x)) e → q ≤ e = λ e u. s e (subst (λ (o : Out). Stops o e) (sym (scan_cons D lim c k p b (a ++ x))) u) in
      let z = reach_step a x p q (omega arith) (λ c k g. reach a x c k (suc p) q g (omega arith)) _ _ (raised c k p h) t in
      record {
        control = z.control;
        stack = z.stack;
        within = z.within;
        path = λ y. scan_cons D lim c k p b (a ++ y) ∙ z.path y;
        higher = λ y. scan_cons D (suc lim) c k p b (a ++ y) ∙ z.higher y;
      }

  -- from `deep` at the byte b the machine goes on with one level more, and b is a bracket
  pub record Deeper (answer : List ℕ → Out) (b : ℕ) : Type 0 where
    pub bytes : List ℕ
    pub items : Items
    pub path : answer bytes ≡ whole items
    pub opening : Opening b

  module _ (L : TokensComplete D) (H : TokensCompletable D) where
    deeper-here : {b : ℕ} {P : Type 0} (l : List ℕ) (p : ℕ) (x y : Next D) → Raised b P x y → goes_on D lim x p l ≡ deep p → Deeper (λ r. goes_on D (suc lim) y p r) b
    deeper-here l p x y (same {c = c} {k = k} h) e = absurd (omega (arith, range D lim l c k (suc p) p (rw e refl)))
    deeper-here l p x y none e = not_deep (fault p) tt e
    deeper-here l p x y (more {c = c} {k = k} r f) e =
        let z = completes D L H (suc lim) c k (suc p) in record { bytes = completion D L H c k; items = z.items; path = z.path; opening = r }

    deeper-reached : {low high : List ℕ → Out} {e : ℕ} (b : ℕ) (l : List ℕ) → Reached low high e → low (b ∷ l) ≡ deep e → Deeper (λ r. high (b ∷ r)) b
    deeper-reached {e = e} b l r t =
        let z = deeper-here l e _ _ (raised r.control r.stack e r.within) (sym (scan_cons D lim r.control r.stack e b l) ∙ sym (r.path (b ∷ l)) ∙ t) in
        record { bytes = z.bytes; items = z.items; path = r.higher (b ∷ z.bytes) ∙ scan_cons D (suc lim) r.control r.stack e b z.bytes ∙ z.path; opening = z.opening }

    pub deeper : (a : List ℕ) (b : ℕ) (l : List ℕ) (c : Control D) (k : Stack) (p e : ℕ) → level D c k ≤ lim → p + length a ≡ e → scan D lim c k p (a ++ (b ∷ l)) ≡ deep e
        → Deeper (λ r. scan D (suc lim) c k p (a ++ (b ∷ r))) b
    deeper a b l c k p e h i t = deeper-reached b l (reach a (b ∷ l) c k p e h i (λ f s. let z : e ≡ f = subst (λ (o : Out). Stops o f) t s in omega arith)) t
