-- What the class of a byte says of it: whether it is a blank, whether it is a digit.
-- By the tests of the rule, in their order.
use Prim.Native.Nat.{ℕ, ◌<◌}
use Prim.Native.Char.{code}
use native.Mathlib.Omega.{arith}
use mathlib.Core.Path.{◌≡◌, refl}
use mathlib.Core.Bool.{true, false, ◌||◌}
use lib.Dec.{eqb, leb}
use borrow.Author.Tests.{eqb-true, leb-true}
use Rattle.grammar.specs.Notation.{digit}
use Rattle.grammar.specs.Lexis.{blank}
use Rattle.grammar.proofs.Booleans.{by, either, within-below, within-above}
use Rattle.strings.specs.declared.class.Class.{Class}
use Rattle.strings.specs.Classes.{named, class_of, blank_class, digit_class}

module _ (b : ℕ) where
  space-blank : eqb b (code " ") ≡ true → blank b ≡ true
  unfolding blank
  space-blank t = simp t

  blank-no_digit : blank b ≡ true → digit b ≡ false
  unfolding blank
  blank-no_digit =
      either (eqb b (code " ") || eqb b (code "\t") || eqb b (code "\n")) (eqb b (code "\r"))
      (either (eqb b (code " ") || eqb b (code "\t")) (eqb b (code "\n"))
      (either (eqb b (code " ")) (eqb b (code "\t")) (at (code " ") refl) (at (code "\t") refl)) (at (code "\n") refl))
      (at (code "\r") refl)
    where
      at : (a : ℕ) → digit a ≡ false → eqb b a ≡ true → digit b ≡ false
      at a h t = rw (eqb-true b a t) h

  below : b < 48 → digit b ≡ false
  below h = within-below (code "0") (code "9") b h

  above : 57 < b → digit b ≡ false
  above h = within-above (code "0") (code "9") b h

  -- the classes of breaks and the space are the blanks, that of digits the digits
  pub tells : (blank b ≡ blank_class (class_of b)) × (digit b ≡ digit_class (class_of b))
  unfolding class_of
  tells =
      let P : Class → Type 0 = λ c. (blank b ≡ blank_class c) × (digit b ≡ digit_class c) in
      by P (eqb b (code " ")) (λ t. (space-blank t, blank-no_digit (space-blank t)))
      (λ _. by P (blank b) (λ t. (t, blank-no_digit t))
      (λ f. by P (leb b 0x1F) (λ t. let e = leb-true b 0x1F t in (f, below (omega arith)))
      (λ _. by P (leb 0x80 b) (λ t. let e = leb-true 0x80 b t in (f, above (omega arith)))
      (λ _. by P (eqb b (code "\"")) (λ t. let e = eqb-true b (code "\"") t in (f, below (omega arith)))
      (λ _. by P (eqb b (code "\\")) (λ t. let e = eqb-true b (code "\\") t in (f, above (omega arith))) (λ _. by P (digit b) (λ t. (f, t)) (λ t. by P (named b) (λ _. (f, t)) (λ _. (f, t)))))))))
