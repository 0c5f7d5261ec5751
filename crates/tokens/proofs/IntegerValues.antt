-- The value of an integer token against a bound, without wrapping: the value so far only grows, so it may be given up as soon as it is above.
-- By the bytes from a place on, one at a time.
use Prim.Native.Nat.{ℕ, ◌+◌, ◌-◌, ◌*◌, ◌/◌, ◌%◌, ◌≤◌, ◌<◌}
use Prim.Native.Char.{code}
use native.Mathlib.Nat.{le_refl, mod-lt, div-add-mod', div-mul-le_self}
use native.Mathlib.Numerals.{add-one}
use native.Mathlib.Omega.{arith}
use mathlib.Core.Path.{◌≡◌, refl, sym, ◌∙◌}
use mathlib.Core.Bool.{true, false}
use mathlib.Core.List.{List, [], ◌∷◌}
use lib.Dec.{leb}
use lib.ListN.{length, get_or, drop, drop_of_length-le}
use lib.Seq.{drop-cons}
use borrow.Author.Tests.{le-leb, lt-leb}
use Rattle.grammar.specs.Integers.{decimal}

grows : (l : List ℕ) (n : ℕ) → n ≤ decimal n l
grows [] n = le_refl n
grows (b ∷ l) n = omega (arith, grows l (n * 10 + (b - code "0")))

-- the tenth part of a bound
pub tenth_low : (n : ℕ) → n / 10 * 10 ≤ n
tenth_low n = div-mul-le_self n 10

pub tenth_high : (n : ℕ) → n < n / 10 * 10 + 10
tenth_high n = let h : n % 10 < 10 = mod-lt n (omega arith) in omega (arith, div-add-mod' n 10)

-- the first i digits mean v
pub record Valued (l : List ℕ) (most i v : ℕ) : Type 0 where
  pub fits : v ≤ most
  pub same : decimal 0 l ≡ decimal v (drop i l)

pub valued_none : (l : List ℕ) (most : ℕ) → Valued l most 0 0
valued_none l most = record { fits = omega arith; same = refl }

module _ {l : List ℕ} {most i v : ℕ} (w : Valued l most i v) where
  next : i < length l → decimal 0 l ≡ decimal (v * 10 + (get_or l i 0 - 48)) (drop (i + 1) l)
  next h = w.same ∙ rw (add-one, drop-cons l i 0 h) refl

  pub valued_more : {d : ℕ} → i < length l → d ≡ get_or l i 0 - 48 → v * 10 + d ≤ most → Valued l most (i + 1) (v * 10 + d)
  valued_more h q f = record { fits = f; same = rw q (next h) }

  pub value-over : i < length l → most < v * 10 + (get_or l i 0 - 48) → false ≡ leb (decimal 0 l) most
  value-over h f = sym (lt-leb (decimal 0 l) most (omega (arith, next h, grows (drop (i + 1) l) (v * 10 + (get_or l i 0 - 48)))))

  pub value-end : length l ≤ i → true ≡ leb (decimal 0 l) most
  value-end h = rw (w.same, drop_of_length-le l h) (sym (le-leb v most w.fits))
