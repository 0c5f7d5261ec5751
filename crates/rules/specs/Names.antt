-- Reference, Names: good names, the same name, names that clash.
use Rattle.std.specs.Prelude.{ℕ, Bool, false, not, cond, ◌&&◌, ◌||◌, List, [], ◌∷◌, map, leb, eqb, length, take}
use Prim.Native.Char.{code}
use Rattle.grammar.specs.Limits.{name_bytes}
use Rattle.grammar.specs.Notation.{text, within, digit, same, all}

abbrev pub letter : ℕ → Bool
letter b = within (code "A") (code "Z") b || within (code "a") (code "z") b

-- a letter, a digit, - or _
abbrev pub name_byte : ℕ → Bool
name_byte b = letter b || digit b || eqb b (code "-") || eqb b (code "_")

-- Rule 5 asks for it: 1 to 63 name bytes, the first a letter, or a digit where `digits` says so (an enum value, a branch), and no q_ in front
abbrev pub good_name : Bool → List ℕ → Bool
good_name digits [] = false
good_name digits (b ∷ bs) =
    (letter b || digits && digit b) && all name_byte bs && leb (length (b ∷ bs)) name_bytes && not (same (take 2 (b ∷ bs)) (text "q_"))

-- what a lookup asks: the same bytes
abbrev pub same_name : List ℕ → List ℕ → Bool
same_name = same

-- what a name becomes in C: QEMU's generator turns each - into _
abbrev pub c_byte : ℕ → ℕ
c_byte b = cond (eqb b (code "-")) (code "_") b

abbrev pub c_name : List ℕ → List ℕ
c_name x = map c_byte x

-- Rules 6, 8 and 9: what two names of one list must not do: be one name in C. proofs/Clashes has all that is used of it.
unfoldable pub clash : List ℕ → List ℕ → Bool
clash x y = same (c_name x) (c_name y)
