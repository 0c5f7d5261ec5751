-- The byte classes, one table of 256 entries by one rule (Reference, Text of messages, for what each class is).
use Rattle.std.specs.Prelude.{ℕ, zero, suc, Bool, true, false, cond, ◌||◌, List, [], ◌∷◌, eqb, leb}
use Prim.Native.Char.{code}
use Rattle.grammar.specs.Notation.{within}
use Rattle.grammar.specs.Lexis.{blank}
use Rattle.strings.specs.declared.class.Class.{Class}
use Rattle.strings.specs.declared.class.Class.TheVariants.{Control, High, Quote, Backslash, Break, Space, Digit, Letter, Other}

-- what may stand in a name beside digits
abbrev pub named : ℕ → Bool
named b = within (code "A") (code "Z") b || within (code "a") (code "z") b || eqb b (code "-") || eqb b (code "_")

-- the bytes of these classes are plain in a message string: each is its own code point
abbrev pub plain_class : Class → Bool
plain_class Space = true
plain_class Digit = true
plain_class Letter = true
plain_class Other = true
plain_class _ = false

-- the classes of blanks, and that of digits
abbrev pub blank_class : Class → Bool
blank_class Break = true
blank_class Space = true
blank_class _ = false

abbrev pub digit_class : Class → Bool
digit_class Digit = true
digit_class _ = false

-- those of the bytes of names
abbrev pub named_class : Class → Bool
named_class Digit = true
named_class Letter = true
named_class _ = false

unfoldable pub class_of : ℕ → Class
unfolding blank
class_of b =
    cond (eqb b (code " ")) Space
    (cond (blank b) Break
    (cond (leb b 0x1F) Control
    (cond (leb 0x80 b) High
    (cond (eqb b (code "\"")) Quote
    (cond (eqb b (code "\\")) Backslash
    (cond (within (code "0") (code "9") b) Digit
    (cond (named b) Letter Other)))))))

-- f i, f (i + 1), .., n of them
abbrev pub tabulate : {A : Type 0} → (ℕ → A) → ℕ → ℕ → List A
tabulate f i zero = []
tabulate f i (suc n) = f i ∷ tabulate f (suc i) n
