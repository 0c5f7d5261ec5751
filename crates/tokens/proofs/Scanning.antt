-- The machine at a place of the bytes: a step, a stop, the end, and two controls that take the byte there alike.
-- The byte at the place is split off what is left, and the machine's own clauses apply.
use Prim.Native.Nat.{ℕ, suc, ◌+◌, ◌≤◌, ◌<◌}
use native.Mathlib.Numerals.{add-one}
use mathlib.Core.Path.{◌≡◌, refl, sym, ap, ◌∙◌}
use mathlib.Core.Bool.{Bool, true, false}
use mathlib.Core.List.{List}
use lib.Dec.{ltb}
use lib.ListN.{length, get_or, drop, drop_of_length-le}
use lib.Seq.{drop-cons}
use borrow.Author.Tests.{ltb-true, ltb-false}
use Rattle.grammar.specs.Serving.Machine.{Dialect, Stack, Next, Next.to, Next.stuck, Control, Out.fault, step, finish, scan}
use Rattle.grammar.proofs.Steps.{goes_on, scan_cons}

module _ (D : Dialect) (s : List ℕ) (lim : ℕ) (c : Control D) (k : Stack) (p : ℕ) where
  scan-byte : p < length s → scan D lim c k p (drop p s) ≡ goes_on D lim (step D lim c k p (get_or s p 0)) p (drop (suc p) s)
  scan-byte h = ap (λ (l : List ℕ). scan D lim c k p l) (drop-cons s p 0 h) ∙ scan_cons D lim c k p (get_or s p 0) (drop (suc p) s)

  pub scan-to : {d : Control D} {k' : Stack} → p < length s → step D lim c k p (get_or s p 0) ≡ to d k'
      → scan D lim c k p (drop p s) ≡ scan D lim d k' (p + 1) (drop (p + 1) s)
  scan-to h e = rw (add-one p) (scan-byte h ∙ ap (λ (n : Next D). goes_on D lim n p (drop (suc p) s)) e)

  pub scan_stuck : p < length s → step D lim c k p (get_or s p 0) ≡ stuck → scan D lim c k p (drop p s) ≡ fault p
  scan_stuck h e = scan-byte h ∙ ap (λ (n : Next D). goes_on D lim n p (drop (suc p) s)) e

  pub scan-end : length s ≤ p → scan D lim c k p (drop p s) ≡ finish D c k p
  unfolding scan
  scan-end h = rw (drop_of_length-le s h)

  pub scan_alike : (d : Control D) → p < length s → step D lim c k p (get_or s p 0) ≡ step D lim d k p (get_or s p 0)
      → scan D lim c k p (drop p s) ≡ scan D lim d k p (drop p s)
  scan_alike d h e =
      scan-byte h ∙ ap (λ (n : Next D). goes_on D lim n p (drop (suc p) s)) e
      ∙ sym (ap (λ (l : List ℕ). scan D lim d k p l) (drop-cons s p 0 h) ∙ scan_cons D lim d k p (get_or s p 0) (drop (suc p) s))

-- below or not
pub by_order : {A : Type 0} (m n : ℕ) → (m < n → A) → (n ≤ m → A) → A
by_order {A} m n f g = go (ltb m n) refl
  where
    go : (t : Bool) → ltb m n ≡ t → A
    go true e = f (ltb-true m n e)
    go false e = g (ltb-false m n e)
