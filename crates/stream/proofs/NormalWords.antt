-- The words that a reader leaves behind are determined by where it stands: two that stand for the same are the same.
-- A mode has its number back, computed for each of them; the brackets have their word back, bit by bit.
use Prim.Native.Nat.{ℕ, zero, suc, ◌+◌, ◌-◌, ◌*◌, ◌/◌, ◌%◌, ◌≤◌, ◌<◌}
use Prim.Native.Char.{code}
use native.Mathlib.Omega.{arith}
use mathlib.Core.Path.{◌≡◌, refl, sym, ap, ◌∙◌}
use mathlib.Core.Bool.{Bool, true, false, cond}
use mathlib.Core.List.{List, [], ◌∷◌}
use lib.ListN.{length}
use lib.Dec.{eqb, leb}
use borrow.Author.Tests.{eqb-true, eqb-false, leb-true, leb-false}
use Rattle.grammar.specs.Serving.Machine.Message.{Want, Want.one, Want.two, Want.two_E0, Want.two_ED, Want.three, Want.three_F0, Want.three_F4, NumberState}
use Rattle.stream.specs.Serving.Modes.{DigitMode, CharMode, Point, Mode}
use Rattle.stream.specs.Serving.Feeding.{Standing}
use Rattle.stream.specs.Serving.States.{first_point, first_string, key_string, first_char, first_key_char, mode_end, mode_at, bits, brackets_of, Known, Nest, stands_for, Normal}
use Rattle.stream.proofs.Every.{every, every-at}
use Rattle.stream.proofs.Nests.{power, bits-low, bits_cons}
use Rattle.stream.proofs.StateLaws.{stands-inside}

-- the number of a mode
abbrev digit_number : DigitMode → ℕ
digit_number DigitMode.hex0 = 3
digit_number (DigitMode.hex1 h) = cond h 5 4
digit_number (DigitMode.hex2 h) = cond h 7 6
digit_number (DigitMode.hex3 h) = cond h 9 8
digit_number DigitMode.low0 = 10
digit_number DigitMode.low1 = 11
digit_number DigitMode.low2 = 12
digit_number DigitMode.low3 = 13

abbrev want_number : Want → ℕ
want_number one = 14
want_number two = 15
want_number two_E0 = 16
want_number two_ED = 17
want_number three = 18
want_number three_F0 = 19
want_number three_F4 = 20

abbrev char_number : CharMode → ℕ
char_number CharMode.escape = 0
char_number CharMode.low_backslash = 1
char_number CharMode.low_u = 2
char_number (CharMode.digit s) = digit_number s
char_number (CharMode.utf8 w) = want_number w

abbrev point_number : Point → ℕ
point_number Point.value = 2
point_number Point.element = 3
point_number Point.after = 4
point_number Point.first_key = 5
point_number Point.key = 6
point_number Point.colon = 7

abbrev number_number : NumberState → ℕ
number_number NumberState.begin = 0
number_number NumberState.after_minus = 10
number_number NumberState.after_zero = 11
number_number NumberState.in_int = 12
number_number NumberState.after_point = 13
number_number NumberState.in_frac = 14
number_number NumberState.after_e = 15
number_number NumberState.after_sign = 16
number_number NumberState.in_exp = 17

-- by the byte wanted and how many come after it
abbrev word_number : ℕ → ℕ → ℕ
word_number w n =
    cond (eqb w (code "r")) 20
    (cond (eqb w (code "a")) 22
    (cond (eqb w (code "s")) 24 (cond (eqb w (code "e")) 26 (cond (eqb w (code "u")) (cond (eqb n 2) 18 21) (cond (eqb n 2) 23 (cond (eqb n 1) 19 25))))))

abbrev mode_number : Mode → ℕ
mode_number (Mode.at p) = point_number p
mode_number (Mode.in_string d) = cond d key_string first_string
mode_number (Mode.in_number s) = number_number s
mode_number (Mode.in_word w ws) = word_number w (length ws)
mode_number (Mode.inside_char d s) = char_number s + cond d first_key_char first_char

numbered : every (λ m. eqb (mode_number (mode_at m)) m) first_point (mode_end - first_point) ≡ true
unfolding mode_at
numbered = refl

mode_number_lem : (m : ℕ) → Known m → mode_number (mode_at m) ≡ m
mode_number_lem m k =
    let a = k.low in
    let b = k.high in
    eqb-true (mode_number (mode_at m)) m (every-at (λ m. eqb (mode_number (mode_at m)) m) first_point (mode_end - first_point) m numbered a (omega arith))

-- the word of brackets
abbrev bits_value : List Bool → ℕ
bits_value [] = 1
bits_value (f ∷ fs) = 2 * bits_value fs + cond f 1 0

bits_value_lem : (d n : ℕ) → 1 ≤ n → n < power (suc d) → bits_value (bits d n) ≡ n
bits_value_lem zero n h g = ap bits_value (bits-low 0 n (omega arith)) ∙ omega arith
bits_value_lem (suc d) n h g = go (leb n 1) refl (bits_value_lem d (n / 2))
  where
    low : (t : Bool) → eqb (n % 2) 1 ≡ t → cond t 1 0 ≡ n % 2
    low true t = sym (eqb-true (n % 2) 1 t)
    low false t = let e = eqb-false (n % 2) 1 t in omega arith

    go : (t : Bool) → leb n 1 ≡ t → (1 ≤ n / 2 → n / 2 < power (suc d) → bits_value (bits d (n / 2)) ≡ n / 2) → bits_value (bits (suc d) n) ≡ n
    go true t ih = let k = leb-true n 1 t in ap bits_value (bits-low (suc d) n k) ∙ omega arith
    go false t ih =
        let k = leb-false n 1 t in
        let i : 1 ≤ n / 2 = omega arith in
        let j : n / 2 < power (suc d) = omega arith in
        let e = ih i j in
        let f = low (eqb (n % 2) 1) refl in
        ap bits_value (bits_cons d n k) ∙ omega arith

brackets-value : (n : ℕ) → Nest n → bits_value (brackets_of n) ≡ n
unfolding brackets_of
brackets-value n z = let a = z.some_open in let b = z.levels in bits_value_lem 64 n (omega arith) (omega arith)

pub record Same (m n k m' n' k' : ℕ) : Type 0 where
  pub modes : m ≡ m'
  pub nests : n ≡ n'
  pub lens : k ≡ k'

inside-only : {a b : Mode} {f g : List Bool} {k l : ℕ} → Standing.inside a f k ≡ Standing.inside b g l → (a ≡ b) × (f ≡ g) × (k ≡ l)
inside-only e = (cc, cc, cc)

different : {A : Type 0} {s t : Standing} → s ≡ t → s ≡ Standing.between → t ≡ Standing.skipping → A
different e f g = let z : ◌≡◌ {A = ℕ} 0 1 = cc in absurd (omega arith)

not-between : {A : Type 0} {s t : Standing} {a : Mode} {f : List Bool} {k : ℕ} → s ≡ t → s ≡ Standing.between → t ≡ Standing.inside a f k → A
not-between e f g = let z : ◌≡◌ {A = ℕ} 0 1 = cc in absurd (omega arith)

not-skipping : {A : Type 0} {s t : Standing} {a : Mode} {f : List Bool} {k : ℕ} → s ≡ t → s ≡ Standing.skipping → t ≡ Standing.inside a f k → A
not-skipping e f g = let z : ◌≡◌ {A = ℕ} 0 1 = cc in absurd (omega arith)

pub at_zero : stands_for 0 0 0 ≡ Standing.between
unfolding stands_for
at_zero = refl

pub at_one : stands_for 1 0 0 ≡ Standing.skipping
unfolding stands_for
at_one = refl

pub normal-only : {m n k m' n' k' : ℕ} → Normal m n k → Normal m' n' k' → stands_for m n k ≡ stands_for m' n' k' → Same m n k m' n' k'
normal-only Normal.between Normal.between e = record { modes = refl; nests = refl; lens = refl }
normal-only Normal.skipping Normal.skipping e = record { modes = refl; nests = refl; lens = refl }
normal-only Normal.between Normal.skipping e = different e at_zero at_one
normal-only Normal.skipping Normal.between e = different (sym e) at_zero at_one
normal-only Normal.between (Normal.inside a b) e = not-between e at_zero (stands-inside _ _ _ a b)
normal-only (Normal.inside a b) Normal.between e = not-between (sym e) at_zero (stands-inside _ _ _ a b)
normal-only Normal.skipping (Normal.inside a b) e = not-skipping e at_one (stands-inside _ _ _ a b)
normal-only (Normal.inside a b) Normal.skipping e = not-skipping (sym e) at_one (stands-inside _ _ _ a b)
normal-only {m} {n} {k} {m'} {n'} {k'} (Normal.inside a b) (Normal.inside c d) e =
    let z = inside-only (sym (stands-inside m n k a b) ∙ e ∙ stands-inside m' n' k' c d) in
    record {
      modes = sym (mode_number_lem m a) ∙ ap mode_number z.0 ∙ mode_number_lem m' c;
      nests = sym (brackets-value n b) ∙ ap bits_value z.1 ∙ brackets-value n' d;
      lens = z.2;
    }

-- inside a message the last word is its length
pub normal-length : {m n k l : ℕ} {md : Mode} {fs : List Bool} → Normal m n k → stands_for m n k ≡ Standing.inside md fs l → k ≡ l
normal-length Normal.between e = not-between e at_zero refl
normal-length Normal.skipping e = not-skipping e at_one refl
normal-length {m} {n} {k} (Normal.inside a b) e = (inside-only (sym (stands-inside m n k a b) ∙ e)).2
