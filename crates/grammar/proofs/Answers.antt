-- What the machine's three answers say of a text, both ways: a tree, Broken at the place of a fault, TooDeep at the place where the levels ran out.
-- One way from soundness, completeness, the longest viable start and the level more; the other since the three shut one another out.
use Prim.Native.Nat.{ℕ, zero, suc, ◌+◌, ◌≤◌, ◌<◌}
use native.Mathlib.Omega.{arith}
use mathlib.Core.Logic.{◌⊎◌, inl, inr}
use mathlib.Core.Path.{◌≡◌, refl, sym, ap, ◌∙◌, subst}
use mathlib.Core.Bool.{Bool, true, false, cond}
use mathlib.Core.List.{List, ◌++◌}
use lib.ListN.{length, take, drop, get_or}
use lib.Seq.{length-take-le, take-suc, split_at, append_snoc}
use lib.Dec.{ltb}
use borrow.Author.Tests.{ltb-true, ltb-false}
use Rattle.grammar.specs.Tree.{Items, Items.no_items}
use Rattle.grammar.specs.Starts.{Opening, Valid, Viable, TooDeep}
use Rattle.grammar.specs.Serving.Faults.{Broken}
use Rattle.grammar.specs.Serving.Machine.{Dialect, Out, Out.whole, Out.fault, Out.deep, scan, start, read, Stack.bottom, Control.AtObject, Control.AtValue}
use Rattle.grammar.proofs.TokenRuns.{TokensSound, TokensComplete, TokensCompletable}
use Rattle.grammar.proofs.Rest.{level}
use Rattle.grammar.proofs.Steps.{Stops, NotDeep}
use Rattle.grammar.proofs.Sound.{sound}
use Rattle.grammar.proofs.Complete.{complete}
use Rattle.grammar.proofs.Viable.{longest}
use Rattle.grammar.proofs.Starts.{longest_unique, valid_not_deep, broken_not_deep}
use Rattle.grammar.proofs.Levels.{Deeper, stays, inside, deeper}

fault-not-whole : {js : Items} {e : ℕ} → whole js ≡ fault e → ⊥
fault-not-whole h = let z : ◌≡◌ {A = ℕ} 0 1 = cc in omega arith

module _ (D : Dialect) (S : TokensSound D) (L : TokensComplete D) (H : TokensCompletable D) where
  start-level : (lim : ℕ) → level D (start D) (bottom no_items) ≤ lim
  start-level lim = go D.lexis.several
    where
      go : (m : Bool) → level D (cond m AtObject AtValue) (bottom no_items) ≤ lim
      go true = omega arith
      go false = omega arith

  one-level : (lim : ℕ) (l : List ℕ) → NotDeep (read D lim l) → read D (suc lim) l ≡ read D lim l
  unfolding read
  one-level lim l d = stays D lim l (start D) (bottom no_items) 0 (start-level lim) d

  -- an answer other than `deep` is the answer with any number of levels more
  more-levels : (n lim : ℕ) → lim ≤ n → (l : List ℕ) → NotDeep (read D lim l) → read D n l ≡ read D lim l
  more-levels zero lim h l d = ap (λ (m : ℕ). read D m l) (omega arith)
  more-levels (suc n) lim h l d = go (ltb n lim) refl (λ g. more-levels n lim g l d)
    where
      go : (t : Bool) → ltb n lim ≡ t → (lim ≤ n → read D n l ≡ read D lim l) → read D (suc n) l ≡ read D lim l
      go true t ih = let e : suc n ≡ lim = omega (arith, ltb-true n lim t) in ap (λ (m : ℕ). read D m l) e
      go false t ih = let e = ih (ltb-false n lim t) in one-level n l (subst NotDeep (sym e) d) ∙ e

  viable-more : (n lim : ℕ) (l : List ℕ) → lim ≤ n → Viable D.lexis lim l → Viable D.lexis n l
  viable-more n lim l h v =
      let e = complete D L lim v.1.1 in
      (v.0, (v.1.0, sound D S n v.1.0 (l ++ v.0) (more-levels n lim h (l ++ v.0) (subst NotDeep (sym e) tt) ∙ e)))

  module _ (lim : ℕ) (l : List ℕ) where
    pub fault_broken : (e : ℕ) → read D lim l ≡ fault e → Broken D.lexis lim l e
    fault_broken e h =
        record {
          longest = longest D L H lim S l e (subst (λ (o : Out). Stops o e) (sym h) refl);
          invalid = λ v. fault-not-whole (sym (complete D L lim v.1) ∙ h);
          never = λ i n v. never i n v;
        }
      where
        never : e < length l → (n : ℕ) → Viable D.lexis n (take (suc e) l) → ⊥
        never i n v =
            let m : ℕ = n + lim in
            let g = more-levels m lim (omega arith) l (subst NotDeep (sym h) tt) ∙ h in
            (longest D L H m S l e (subst (λ (o : Out). Stops o e) (sym g) refl)).longest (suc e) (omega arith) i (viable-more m n (take (suc e) l) (omega arith) v)

    deep-inside : (e : ℕ) → read D lim l ≡ deep e → e < length l
    unfolding read
    deep-inside e h = omega (arith, inside D lim l (start D) (bottom no_items) 0 e h)

    deep-deeper : (e : ℕ) → read D lim l ≡ deep e → Deeper D lim (λ r. read D (suc lim) (take (suc e) l ++ r)) (get_or l e 0)
    unfolding read
    deep-deeper e h =
        let i : e < length l = deep-inside e h in
        let m : e ≤ length l = omega arith in
        let s = subst (λ (w : List ℕ). scan D lim (start D) (bottom no_items) 0 w ≡ deep e) (split_at l e 0 i) h in
        let z = deeper D lim L H (take e l) (get_or l e 0) (drop (suc e) l) (start D) (bottom no_items) 0 e (start-level lim) (omega (arith, length-take-le e l m)) s in
        record { bytes = z.bytes; items = z.items; path = rw (take-suc l e 0 i, append_snoc (take e l) (get_or l e 0) z.bytes) z.path; opening = z.opening }

    pub deep-too_deep : (e : ℕ) → read D lim l ≡ deep e → TooDeep D.lexis lim l e
    deep-too_deep e h =
        let z = deep-deeper e h in
        record {
          longest = longest D L H lim S l e (subst (λ (o : Out). Stops o e) (sym h) refl);
          next = deep-inside e h;
          deeper = (z.bytes, (z.items, sound D S (suc lim) z.items (take (suc e) l ++ z.bytes) z.path));
        }

    -- the other way round
    pub broken_fault : (e : ℕ) → Broken D.lexis lim l e → read D lim l ≡ fault e
    broken_fault e b = go (read D lim l) refl
      where
        go : (o : Out) → read D lim l ≡ o → read D lim l ≡ fault e
        go (whole js) h = absurd (b.invalid (js, sound D S lim js l h))
        go (fault f) h = h ∙ ap (λ (n : ℕ). fault n) (longest_unique D.lexis (fault_broken f h).longest b.longest)
        go (deep f) h = absurd (broken_not_deep D.lexis b (deep-too_deep f h))

    pub too_deep-deep : (e : ℕ) → TooDeep D.lexis lim l e → read D lim l ≡ deep e
    too_deep-deep e t = go (read D lim l) refl
      where
        go : (o : Out) → read D lim l ≡ o → read D lim l ≡ deep e
        go (whole js) h = absurd (valid_not_deep D.lexis t (js, sound D S lim js l h))
        go (fault f) h = absurd (broken_not_deep D.lexis (fault_broken f h) t)
        go (deep f) h = h ∙ ap (λ (n : ℕ). deep n) (longest_unique D.lexis (deep-too_deep f h).longest t.longest)

    -- the byte that opens one level too many is a bracket
    pub too_deep-opening : (e : ℕ) → TooDeep D.lexis lim l e → Opening (get_or l e 0)
    too_deep-opening e t = (deep-deeper e (too_deep-deep e t)).opening

    -- nothing is left over
    pub one_of_three : Valid D.lexis lim l ⊎ (((e : ℕ) × Broken D.lexis lim l e) ⊎ ((e : ℕ) × TooDeep D.lexis lim l e))
    one_of_three = go (read D lim l) refl
      where
        go : (o : Out) → read D lim l ≡ o → Valid D.lexis lim l ⊎ (((e : ℕ) × Broken D.lexis lim l e) ⊎ ((e : ℕ) × TooDeep D.lexis lim l e))
        go (whole js) h = inl (js, sound D S lim js l h)
        go (fault e) h = inr (inl (e, fault_broken e h))
        go (deep e) h = inr (inr (e, deep-too_deep e h))
