-- What a test says: cases by a test's outcome, what `within` says of numbers, and that the least of two is no greater.
-- Every lemma goes by the outcome of the tests in it.
use Prim.Native.Nat.{ℕ, ◌≤◌, ◌<◌, min}
use native.Mathlib.Nat.{min-eq_left, min-eq_right, le_of_lt}
use native.Mathlib.Omega.{arith}
use mathlib.Core.Path.{◌≡◌, refl}
use mathlib.Core.Bool.{Bool, true, false, cond, ◌&&◌, ◌||◌}
use mathlib.Core.Option.{some, none}
use lib.Dec.{leb}
use borrow.Author.Tests.{leb-true, leb-false, le-leb, lt-leb}
use Rattle.grammar.specs.Notation.{within}

pub clash : {A : Type 0} {b : Bool} → b ≡ true → b ≡ false → A
clash e f = let z : ◌≡◌ {A = ℕ} 0 1 = cc in absurd (omega arith)

pub none-not-some : {A B : Type 0} {x : B} → none ≡ some x → A
none-not-some e = let z : ◌≡◌ {A = ℕ} 0 1 = cc in absurd (omega arith)

pub some_is : {B : Type 0} {x y : B} → some x ≡ some y → x ≡ y
some_is e = cc

-- by the outcome of a test, which is kept as an equation
pub by : {A : Type 0} (P : A → Type 0) (t : Bool) {a b : A} → (t ≡ true → P a) → (t ≡ false → P b) → P (cond t a b)
by P true f g = f refl
by P false f g = g refl

-- one of two tests holds
pub either : {A : Type 0} (x y : Bool) → (x ≡ true → A) → (y ≡ true → A) → (x || y) ≡ true → A
either true y f g e = f refl
either false y f g e = g e

pub both : (x y : Bool) → (x && y) ≡ true → (x ≡ true) × (y ≡ true)
both true y e = (refl, e)
both false y e = clash e refl

pub min_right : (a b : ℕ) → min a b ≤ b
min_right a b = go (leb a b) refl
  where
    go : (t : Bool) → leb a b ≡ t → min a b ≤ b
    go true h = omega (arith, min-eq_left (leb-true a b h), leb-true a b h)
    go false h = omega (arith, min-eq_right (le_of_lt (leb-false a b h)))

pub within-true : (a e b : ℕ) → within a e b ≡ true → (a ≤ b) × (b ≤ e)
within-true a e b t = let h = both (leb a b) (leb b e) t in (leb-true a b h.0, leb-true b e h.1)

pub within-is : (a e b : ℕ) → a ≤ b → b ≤ e → within a e b ≡ true
within-is a e b h g = simp (le-leb a b h, le-leb b e g)

pub within-below : (a e b : ℕ) → b < a → within a e b ≡ false
within-below a e b h = simp (lt-leb a b h)

pub within-above : (a e b : ℕ) → e < b → within a e b ≡ false
within-above a e b h = go (leb a b)
  where
    go : (t : Bool) → (t && leb b e) ≡ false
    go true = lt-leb b e h
    go false = refl

pub data Outside (a e b : ℕ) : Type 0 where
  below : b < a → Outside a e b
  above : e < b → Outside a e b

pub within-false : (a e b : ℕ) → within a e b ≡ false → Outside a e b
within-false a e b = go (leb a b) refl
  where
    go : (t : Bool) → leb a b ≡ t → (t && leb b e) ≡ false → Outside a e b
    go true t u = above (leb-false b e u)
    go false t u = below (leb-false a b t)

pub within_out : (a e b : ℕ) → Outside a e b → within a e b ≡ false
within_out a e b (below h) = within-below a e b h
within_out a e b (above h) = within-above a e b h
