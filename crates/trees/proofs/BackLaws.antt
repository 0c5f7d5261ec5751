-- A list seen backwards: one step, its length, and what a later write leaves alone.
use Prim.Native.Nat.{ℕ, zero, suc, ◌+◌, ◌-◌, ◌≤◌, ◌<◌}
use native.Mathlib.Nat.{not-suc-le-zero, min-eq_left}
use native.Mathlib.Numerals.{add-one}
use native.Mathlib.Omega.{arith}
use mathlib.Core.Path.{◌≡◌, refl, ap, ◌∙◌}
use mathlib.Core.List.{List, [], ◌∷◌}
use lib.ListN.{length, get_or, set}
use lib.Seq.{get_or-set_other}
use Rattle.trees.specs.Backwards.{back, before}

pub back_none : (l : List ℕ) → back l 0 ≡ []
unfolding back
back_none l = refl

-- the one before a place, and those before it
pub back_next : (l : List ℕ) (i : ℕ) → back l (i + 1) ≡ get_or l i 0 ∷ back l i
unfolding back
back_next l i = ap (back l) (add-one i)

pub back_start : (l : List ℕ) (i : ℕ) → i ≤ 0 → back l i ≡ []
unfolding back
back_start l zero h = refl
back_start l (suc i) h = absurd (not-suc-le-zero h)

pub back_length : (l : List ℕ) (i : ℕ) → length (back l i) ≡ i
unfolding back
back_length l zero = refl
back_length l (suc i) = ap suc (back_length l i)

-- within the list
pub before_in : (l : List ℕ) (i : ℕ) → i ≤ length l → before l i ≡ back l i
before_in l i h = ap (back l) (min-eq_left h)

set_later : (l : List ℕ) (i k x : ℕ) → i ≤ k → back (set l k x) i ≡ back l i
unfolding back
set_later l zero k x h = refl
set_later l (suc i) k x h =
    ap (λ (y : ℕ). y ∷ back (set l k x) i) (get_or-set_other l k i x 0 (λ (e : i ≡ k). omega (arith, e, h)))
    ∙ ap (λ (t : List ℕ). get_or l i 0 ∷ t) (set_later l i k x (omega arith))

pub back_set : (l : List ℕ) (k x : ℕ) → back (set l k x) k ≡ back l k
back_set l k x = set_later l k k x (omega arith)
