-- The ends of open records: those that go on after a start, and one more.
use Prim.Native.Nat.{ℕ, ◌≤◌, ◌<◌}
use mathlib.Core.Path.{◌≡◌, refl, ap}
use mathlib.Core.Bool.{Bool, true, false, cond}
use mathlib.Core.List.{List, [], ◌∷◌}
use lib.Dec.{ltb}
use lib.ListN.{length}
use borrow.Author.Tests.{lt-ltb, le-ltb}
use Rattle.trees.specs.Nesting.{still_open, opened}

pub by_end : (start e : ℕ) (es : List ℕ) (t : Bool) → ltb start e ≡ t → still_open start (e ∷ es) ≡ elim t [ true ↦ e ∷ es | false ↦ still_open start es ]
unfolding still_open
by_end start e es t p = ap (λ (x : Bool). elim x [ true ↦ e ∷ es | false ↦ still_open start es ]) p

-- the innermost goes on, or has ended, or there is none
pub still_stop : (start e : ℕ) (es : List ℕ) → start < e → still_open start (e ∷ es) ≡ e ∷ es
still_stop start e es h = by_end start e es true (lt-ltb start e h)

pub still_on : (start e : ℕ) (es : List ℕ) → e ≤ start → still_open start (e ∷ es) ≡ still_open start es
still_on start e es h = by_end start e es false (le-ltb start e h)

pub still_none : (start : ℕ) → still_open start [] ≡ []
unfolding still_open
still_none start = refl

-- one more, or no room
by_room : (room e : ℕ) (es : List ℕ) (t : Bool) → ltb (length es) room ≡ t → opened room e es ≡ cond t (e ∷ es) es
unfolding opened
by_room room e es t p = ap (λ (x : Bool). cond x (e ∷ es) es) p

pub opened_one : (room e : ℕ) (es : List ℕ) → length es < room → opened room e es ≡ e ∷ es
opened_one room e es h = by_room room e es true (lt-ltb (length es) room h)

pub opened_full : (room e : ℕ) (es : List ℕ) → room ≤ length es → opened room e es ≡ es
opened_full room e es h = by_room room e es false (le-ltb (length es) room h)
