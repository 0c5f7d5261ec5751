-- Reference, Viewer: bytes as they go to a terminal. A message may hold any bytes; only 0x20 to 0x7E go out as they are.
use Rattle.std.specs.Prelude.{ℕ, ◌+◌, ◌-◌, ◌/◌, ◌%◌, Bool, cond, List, [], ◌∷◌, ◌++◌, ltb, length, take}
use Prim.Native.Char.{code}
use Rattle.grammar.specs.Limits.{name_bytes}
use Rattle.grammar.specs.Notation.{text, within}

abbrev pub printable : ℕ → Bool
printable b = within 0x20 0x7E b

abbrev pub shown_digit : ℕ → ℕ
shown_digit d = cond (ltb d 10) (code "0" + d) (code "a" + (d - 10))

-- any other byte is shown as \x and two hex digits; JSON has no such escape
abbrev pub hex_byte : ℕ → List ℕ
hex_byte b = code "\\" ∷ code "x" ∷ shown_digit (b / 16 % 16) ∷ shown_digit (b % 16) ∷ []

unfoldable pub shown_byte : ℕ → List ℕ
shown_byte b = cond (printable b) (b ∷ []) (hex_byte b)

unfoldable pub shown_bytes : List ℕ → List ℕ
shown_bytes [] = []
shown_bytes (b ∷ l) = shown_byte b ++ shown_bytes l

-- cut to the longest name, so that no name is cut; dots where there is more
unfoldable pub shown : List ℕ → List ℕ
shown l = shown_bytes (take name_bytes l) ++ cond (ltb name_bytes (length l)) (text "...") []
