-- Inside a character the modes follow the grammar's machine: a step and then forgetting the digits and bits gathered is forgetting and then a turn.
-- Of the digits of `\u` only the range of the number matters, and a digit more does not change what is known of the digits before it.
use Prim.Native.Nat.{ℕ, ◌+◌, ◌*◌, ◌≤◌}
use Prim.Native.Char.{code}
use native.Mathlib.Omega.{arith}
use mathlib.Core.Path.{◌≡◌, refl, ap}
use mathlib.Core.Bool.{Bool, true, false, cond, ◌&&◌}
use mathlib.Core.Option.{Option, some, none}
use lib.Dec.{leb, ltb, eqb}
use borrow.Author.Tests.{ltb-true, ltb-false, eqb-true, eqb-false}
use Rattle.grammar.specs.Notation.{within}
use Rattle.grammar.specs.MessageText.{hex_digit, join}
use Rattle.grammar.specs.Serving.Machine.{CharStep, CharStep.stay, CharStep.char, CharStep.bad}
use Rattle.grammar.specs.Serving.Machine.Message.{char_start, char_step, escape_of, with_hex, wanted, escaped, lowest, highest, CharState, Want}
use Rattle.grammar.specs.Serving.Machine.Message.CharState.{escape, hex0, hex1, hex2, hex3, low_backslash, low_u, low0, low1, low2, low3, utf8}
use Rattle.grammar.specs.Serving.Machine.Message.Want.{one, two, two_E0, two_ED, three, three_F0, three_F4}
use Rattle.grammar.proofs.Strings.{hex-low}
use Rattle.grammar.proofs.Booleans.{within-true, within-is, within-below, within-above, within-false, Outside, Outside.below, Outside.above}
use Rattle.stream.specs.Serving.Modes.{DigitMode, CharMode, CharTurn, begin_char, char_turn, with_digit, want_turn, escape_turn}

-- what is left of the machine's state
abbrev pub forget_char : CharState → CharMode
forget_char escape = CharMode.escape
forget_char hex0 = CharMode.digit DigitMode.hex0
forget_char (hex1 v) = CharMode.digit (DigitMode.hex1 (eqb v 0xD))
forget_char (hex2 v) = CharMode.digit (DigitMode.hex2 (within 0xD8 0xDB v))
forget_char (hex3 v) = CharMode.digit (DigitMode.hex3 (within 0xD80 0xDBF v))
forget_char (low_backslash h) = CharMode.low_backslash
forget_char (low_u h) = CharMode.low_u
forget_char (low0 h) = CharMode.digit DigitMode.low0
forget_char (low1 h) = CharMode.digit DigitMode.low1
forget_char (low2 h v) = CharMode.digit DigitMode.low2
forget_char (low3 h v) = CharMode.digit DigitMode.low3
forget_char (utf8 w v) = CharMode.utf8 w

-- a step of the machine, and the turn that is left of it
pub data Chars : CharStep CharState → CharTurn → Type 0 where
  stays : {s : CharState} {m : CharMode} → forget_char s ≡ m → Chars (stay s) (CharTurn.stay m)
  completes : {x : ℕ} → Chars (char x) CharTurn.char
  fails : Chars bad CharTurn.bad

tests : (t : Bool) {x y : CharStep CharState} {x' y' : CharTurn} → Chars x x' → Chars y y' → Chars (cond t x y) (cond t x' y')
tests true e f = e
tests false e f = f

pub char-begins : (b : ℕ) → Chars (char_start b) (begin_char b)
unfolding char_start begin_char
char-begins b =
    tests (eqb b (code "\\")) (stays refl)
    (tests (within 0x20 0x7F b) completes
    (tests (within 0xC2 0xDF b) (stays refl)
    (tests (eqb b 0xE0) (stays refl)
    (tests (eqb b 0xED) (stays refl)
    (tests (within 0xE1 0xEF b) (stays refl)
    (tests (eqb b 0xF0) (stays refl) (tests (within 0xF1 0xF3 b) (stays refl) (tests (eqb b 0xF4) (stays refl) fails))))))))

-- a digit more does not change what is known of the digits before
within-digit : (a e v d : ℕ) → d ≤ 15 → within (a * 16) (e * 16 + 15) (v * 16 + d) ≡ within a e v
within-digit a e v d h = go (within a e v) refl
  where
    out : Outside a e v → within (a * 16) (e * 16 + 15) (v * 16 + d) ≡ false
    out (below g) = within-below (a * 16) (e * 16 + 15) (v * 16 + d) (omega arith)
    out (above g) = within-above (a * 16) (e * 16 + 15) (v * 16 + d) (omega arith)

    go : (t : Bool) → within a e v ≡ t → within (a * 16) (e * 16 + 15) (v * 16 + d) ≡ t
    go true t = let z = within-true a e v t in within-is (a * 16) (e * 16 + 15) (v * 16 + d) (omega arith) (omega arith)
    go false t = out (within-false a e v t)

-- two digits are from D and a to D and e exactly when the first is D and the second from a to e
within-two : (a e v d : ℕ) → d ≤ 15 → e ≤ 15 → within (0xD * 16 + a) (0xD * 16 + e) (v * 16 + d) ≡ (eqb v 0xD && within a e d)
within-two a e v d h g = go (eqb v 0xD) refl
  where
    out : Outside a e d → v ≡ 0xD → within (0xD * 16 + a) (0xD * 16 + e) (v * 16 + d) ≡ false
    out (below k) z = within-below (0xD * 16 + a) (0xD * 16 + e) (v * 16 + d) (omega arith)
    out (above k) z = within-above (0xD * 16 + a) (0xD * 16 + e) (v * 16 + d) (omega arith)

    second : (t : Bool) → within a e d ≡ t → v ≡ 0xD → within (0xD * 16 + a) (0xD * 16 + e) (v * 16 + d) ≡ t
    second true t z = let k = within-true a e d t in within-is (0xD * 16 + a) (0xD * 16 + e) (v * 16 + d) (omega arith) (omega arith)
    second false t z = out (within-false a e d t) z

    other : (x : Bool) → ltb v 0xD ≡ x → (v ≡ 0xD → ⊥) → within (0xD * 16 + a) (0xD * 16 + e) (v * 16 + d) ≡ false
    other true t z = let k = ltb-true v 0xD t in within-below (0xD * 16 + a) (0xD * 16 + e) (v * 16 + d) (omega arith)
    other false t z = let k = ltb-false v 0xD t in within-above (0xD * 16 + a) (0xD * 16 + e) (v * 16 + d) (omega arith)

    go : (x : Bool) → eqb v 0xD ≡ x → within (0xD * 16 + a) (0xD * 16 + e) (v * 16 + d) ≡ (x && within a e d)
    go true t = second (within a e d) refl (eqb-true v 0xD t)
    go false t = other (ltb v 0xD) refl (eqb-false v 0xD t)

digit_turns : {f : ℕ → CharStep CharState} {g : ℕ → CharTurn} (b : ℕ) → ((d : ℕ) → d ≤ 15 → Chars (f d) (g d)) → Chars (with_hex (hex_digit b) f) (with_digit (hex_digit b) g)
digit_turns {f} {g} b h = go (hex_digit b) refl
  where
    go : (y : Option ℕ) → hex_digit b ≡ y → Chars (with_hex y f) (with_digit y g)
    go (some d) e = h d (hex-low b d e)
    go none e = fails

want_turns : (w : Want) (v : ℕ) → Chars (wanted w v) (want_turn w)
want_turns one v = completes
want_turns two v = stays refl
want_turns two_E0 v = stays refl
want_turns two_ED v = stays refl
want_turns three v = stays refl
want_turns three_F0 v = stays refl
want_turns three_F4 v = stays refl

hex1_turns : (v d : ℕ) → d ≤ 15
    → Chars (cond (within 0xDC 0xDF (v * 16 + d)) bad (stay (hex2 (v * 16 + d))))
    (cond (eqb v 0xD && within 0xC 0xF d) CharTurn.bad (CharTurn.stay (CharMode.digit (DigitMode.hex2 (eqb v 0xD && within 8 0xB d)))))
hex1_turns v d h =
    rw (within-two 0xC 0xF v d h (omega arith))
    (tests (eqb v 0xD && within 0xC 0xF d) fails (stays (ap (λ (z : Bool). CharMode.digit (DigitMode.hex2 z)) (within-two 8 0xB v d h (omega arith)))))

hex3_turns : (v d : ℕ) → d ≤ 15
    → Chars (cond (within 0xD800 0xDBFF (v * 16 + d)) (stay (low_backslash (v * 16 + d))) (char (v * 16 + d)))
    (cond (within 0xD80 0xDBF v) (CharTurn.stay CharMode.low_backslash) CharTurn.char)
hex3_turns v d h = rw (within-digit 0xD80 0xDBF v d h) (tests (within 0xD80 0xDBF v) (stays refl) completes)

escape_turns : (y : Option ℕ) → Chars (escaped y) (escape_turn y)
escape_turns (some c) = completes
escape_turns none = fails

pub char_turns : (s : CharState) (b : ℕ) → Chars (char_step s b) (char_turn (forget_char s) b)
unfolding char_step char_turn
char_turns escape b = tests (eqb b (code "u")) (stays refl) (escape_turns (escape_of b))
char_turns hex0 b = digit_turns b (λ d h. stays refl)
char_turns (hex1 v) b = digit_turns b (λ d h. hex1_turns v d h)
char_turns (hex2 v) b = digit_turns b (λ d h. stays (ap (λ (z : Bool). CharMode.digit (DigitMode.hex3 z)) (within-digit 0xD8 0xDB v d h)))
char_turns (hex3 v) b = digit_turns b (λ d h. hex3_turns v d h)
char_turns (low_backslash h) b = tests (eqb b (code "\\")) (stays refl) fails
char_turns (low_u h) b = tests (eqb b (code "u")) (stays refl) fails
char_turns (low0 h) b = digit_turns b (λ d g. tests (eqb d 0xD) (stays refl) fails)
char_turns (low1 h) b = digit_turns b (λ d g. tests (leb 0xC d) (stays refl) fails)
char_turns (low2 h v) b = digit_turns b (λ d g. stays refl)
char_turns (low3 h v) b = digit_turns b (λ d g. completes)
char_turns (utf8 w v) b = tests (within (lowest w) (highest w) b) (want_turns w (join v b)) fails
