-- Valid, Broken and TooDeep shut one another out, and the place in each is the only one.
-- All from the definitions: the longest viable start is unique, and a valid text is its own longest viable start.
use Prim.Native.Nat.{ℕ, suc}
use native.Mathlib.Omega.{arith}
use mathlib.Core.Path.{◌≡◌, refl, ap}
use mathlib.Core.Bool.{Bool, true, false}
use mathlib.Core.List.{List, [], ◌∷◌, ◌++◌}
use lib.ListN.{length, take}
use lib.Seq.{take-length}
use lib.Dec.{ltb}
use borrow.Author.Tests.{ltb-true, ltb-false}
use Rattle.grammar.specs.Lexis.{Lexis}
use Rattle.grammar.specs.Starts.{Valid, Viable, Longest, TooDeep}
use Rattle.grammar.specs.Serving.Faults.{Broken}

append_nil : (l : List ℕ) → l ++ [] ≡ l
append_nil [] = refl
append_nil (x ∷ l) = ap (λ (m : List ℕ). x ∷ m) (append_nil l)

module _ (G : Lexis) {lim : ℕ} {l : List ℕ} where
  pub longest_unique : {e f : ℕ} → Longest G lim l e → Longest G lim l f → e ≡ f
  longest_unique {e} {f} a b = go (ltb e f) refl (ltb f e) refl
    where
      go : (x : Bool) → ltb e f ≡ x → (y : Bool) → ltb f e ≡ y → e ≡ f
      go true u y v = absurd (a.longest f (ltb-true e f u) b.inside b.viable)
      go false u true v = absurd (b.longest e (ltb-true f e v) a.inside a.viable)
      go false u false v = omega (arith, ltb-false e f u, ltb-false f e v)

  pub whole-viable : Valid G lim l → Viable G lim (take (length l) l)
  whole-viable v = ([], rw (take-length l, append_nil l) v)

  pub valid_not_deep : {e : ℕ} → TooDeep G lim l e → Valid G lim l → ⊥
  valid_not_deep t v = t.longest.longest (length l) t.next (omega arith) (whole-viable v)

  pub broken_not_deep : {e f : ℕ} → Broken G lim l e → TooDeep G lim l f → ⊥
  broken_not_deep b t = let h = longest_unique b.longest t.longest in b.never (omega (arith, t.next)) (suc lim) (rw h t.deeper)
