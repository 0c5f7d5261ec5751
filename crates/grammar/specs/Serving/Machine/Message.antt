-- Serves proofs: nobody has to believe it. The machine inside the tokens of message text.
use Rattle.std.specs.Prelude.{ℕ, ◌+◌, ◌*◌, ◌-◌, Bool, true, false, not, cond, ◌||◌, List, [], ◌∷◌, reverse, leb, eqb}
use Prim.Native.Char.{code}
use Rattle.std.proofs.Math.Option.{Option, some, none}
use Rattle.grammar.specs.Limits.{message_levels}
use Rattle.grammar.specs.Notation.{text, within, digit}
use Rattle.grammar.specs.Tree.{Scalar, Scalar.null, Scalar.bool, Scalar.num}
use Rattle.grammar.specs.Lexis.{blank}
use Rattle.grammar.specs.MessageText.{join, hex_digit, letter_e, sign, message_lexis}
use Rattle.grammar.specs.Serving.Machine.{CharStep, CharStep.stay, CharStep.char, CharStep.bad, Dialect, Out, scan, read, TokenStep, TokenStep.on, TokenStep.past, TokenStep.off}
use Rattle.grammar.specs.Serving.Machine.{spell}

-- how many bytes of UTF-8 are wanted; after some lead bytes the next one is narrowed, against overlong forms, surrogates and what is above U+10FFFF
pub data Want : Type 0 where
  one two two_E0 two_ED three three_F0 three_F4 : Want

abbrev pub lowest : Want → ℕ
lowest one = 0x80
lowest two = 0x80
lowest two_E0 = 0xA0
lowest two_ED = 0x80
lowest three = 0x80
lowest three_F0 = 0x90
lowest three_F4 = 0x80

abbrev pub highest : Want → ℕ
highest one = 0xBF
highest two = 0xBF
highest two_E0 = 0xBF
highest two_ED = 0x9F
highest three = 0xBF
highest three_F0 = 0xBF
highest three_F4 = 0x8F

-- after a backslash; in the digits of `\u`; after a high surrogate, at the backslash, the u and the digits of its low one; in UTF-8. The numbers are what is read so far
pub data CharState : Type 0 where
  escape hex0 : CharState
  hex1 hex2 hex3 : ℕ → CharState
  low_backslash low_u low0 low1 : ℕ → CharState
  low2 low3 : ℕ → ℕ → CharState
  utf8 : Want → ℕ → CharState

abbrev pub wanted : Want → ℕ → CharStep CharState
wanted one v = char v
wanted two v = stay (utf8 one v)
wanted two_E0 v = stay (utf8 one v)
wanted two_ED v = stay (utf8 one v)
wanted three v = stay (utf8 two v)
wanted three_F0 v = stay (utf8 two v)
wanted three_F4 v = stay (utf8 two v)

abbrev pub lead : ℕ → CharStep CharState
lead b =
    cond (within 0xC2 0xDF b) (stay (utf8 one (b - 0xC0)))
    (cond (eqb b 0xE0) (stay (utf8 two_E0 0))
    (cond (eqb b 0xED) (stay (utf8 two_ED 13))
    (cond (within 0xE1 0xEF b) (stay (utf8 two (b - 0xE0)))
    (cond (eqb b 0xF0) (stay (utf8 three_F0 0))
    (cond (within 0xF1 0xF3 b) (stay (utf8 three (b - 0xF0)))
    (cond (eqb b 0xF4) (stay (utf8 three_F4 4)) bad))))))

unfoldable pub char_start : ℕ → CharStep CharState
char_start b = cond (eqb b (code "\\")) (stay escape) (cond (within 0x20 0x7F b) (char b) (lead b))

unfoldable pub escape_of : ℕ → Option ℕ
escape_of b =
    cond (eqb b (code "\"")) (some 0x22)
    (cond (eqb b (code "\\")) (some 0x5C)
    (cond (eqb b (code "/")) (some 0x2F)
    (cond (eqb b (code "b")) (some 0x08)
    (cond (eqb b (code "f")) (some 0x0C)
    (cond (eqb b (code "n")) (some 0x0A)
    (cond (eqb b (code "r")) (some 0x0D)
    (cond (eqb b (code "t")) (some 0x09) none)))))))

abbrev pub with_hex : Option ℕ → (ℕ → CharStep CharState) → CharStep CharState
with_hex (some d) f = f d
with_hex none f = bad

abbrev pub escaped : Option ℕ → CharStep CharState
escaped (some c) = char c
escaped none = bad

-- four digits are read: a high surrogate waits for its low one
abbrev pub unit : ℕ → CharStep CharState
unit v = cond (within 0xD800 0xDBFF v) (stay (low_backslash v)) (char v)

unfoldable pub char_step : CharState → ℕ → CharStep CharState
unfolding hex_digit escape_of
char_step escape b = cond (eqb b (code "u")) (stay hex0) (escaped (escape_of b))
char_step hex0 b = with_hex (hex_digit b) (λ d. stay (hex1 d))
char_step (hex1 v) b = with_hex (hex_digit b) (λ d. cond (within 0xDC 0xDF (v * 16 + d)) bad (stay (hex2 (v * 16 + d))))
char_step (hex2 v) b = with_hex (hex_digit b) (λ d. stay (hex3 (v * 16 + d)))
char_step (hex3 v) b = with_hex (hex_digit b) (λ d. unit (v * 16 + d))
char_step (low_backslash h) b = cond (eqb b (code "\\")) (stay (low_u h)) bad
char_step (low_u h) b = cond (eqb b (code "u")) (stay (low0 h)) bad
char_step (low0 h) b = with_hex (hex_digit b) (λ d. cond (eqb d 0xD) (stay (low1 h)) bad)
char_step (low1 h) b = with_hex (hex_digit b) (λ d. cond (leb 0xC d) (stay (low2 h (0xD0 + d))) bad)
char_step (low2 h v) b = with_hex (hex_digit b) (λ d. stay (low3 h (v * 16 + d)))
char_step (low3 h v) b = with_hex (hex_digit b) (λ d. char (0x10000 + (h - 0xD800) * 0x400 + (v * 16 + d - 0xDC00)))
char_step (utf8 n v) b = cond (within (lowest n) (highest n) b) (wanted n (join v b)) bad

-- before a number, after its minus, after its leading zero, in its integer part, after its point, in its fraction, after its e, after the sign of its exponent, in its exponent
pub data NumberState : Type 0 where
  begin after_minus after_zero in_int after_point in_frac after_e after_sign in_exp : NumberState

unfoldable pub number_step : NumberState → ℕ → Option NumberState
number_step begin b = cond (eqb b (code "-")) (some after_minus) (cond (eqb b (code "0")) (some after_zero) (cond (within (code "1") (code "9") b) (some in_int) none))
number_step after_minus b = cond (eqb b (code "0")) (some after_zero) (cond (within (code "1") (code "9") b) (some in_int) none)
number_step after_zero b = cond (eqb b (code ".")) (some after_point) (cond (letter_e b) (some after_e) none)
number_step in_int b = cond (digit b) (some in_int) (cond (eqb b (code ".")) (some after_point) (cond (letter_e b) (some after_e) none))
number_step after_point b = cond (digit b) (some in_frac) none
number_step in_frac b = cond (digit b) (some in_frac) (cond (letter_e b) (some after_e) none)
number_step after_e b = cond (sign b) (some after_sign) (cond (digit b) (some in_exp) none)
number_step after_sign b = cond (digit b) (some in_exp) none
number_step in_exp b = cond (digit b) (some in_exp) none

-- whether a number may end here, and whether it is then an integer
abbrev pub number_end : NumberState → Option Bool
number_end begin = none
number_end after_minus = none
number_end after_zero = some true
number_end in_int = some true
number_end after_point = none
number_end in_frac = some false
number_end after_e = none
number_end after_sign = none
number_end in_exp = some false

-- inside a word; inside a number, with its bytes so far in reverse
pub data TokenState : Type 0 where
  word : ℕ → List ℕ → Scalar → TokenState
  number : NumberState → List ℕ → TokenState

abbrev pub word_start : ℕ → Option TokenState
word_start b =
    cond (eqb b (code "n")) (some (word (code "u") (text "ll") null))
    (cond (eqb b (code "t")) (some (word (code "r") (text "ue") (bool true)))
    (cond (eqb b (code "f")) (some (word (code "a") (text "lse") (bool false))) none))

abbrev pub number_start : Option NumberState → ℕ → Option TokenState
number_start (some s) b = some (number s (b ∷ []))
number_start none b = word_start b

unfoldable pub token_start : ℕ → Option TokenState
unfolding number_step
token_start b = number_start (number_step begin b) b

abbrev pub number_past : Option Bool → List ℕ → TokenStep TokenState
number_past (some i) acc = past (num i (reverse acc))
number_past none acc = off

abbrev pub number_on : Option NumberState → Option Bool → List ℕ → ℕ → TokenStep TokenState
number_on (some s) i acc b = on (number s (b ∷ acc))
number_on none i acc b = number_past i acc

unfoldable pub token_step : TokenState → ℕ → TokenStep TokenState
unfolding number_step
token_step (word w ws v) b = cond (eqb b w) (spell word ws v) off
token_step (number s acc) b = number_on (number_step s b) (number_end s) acc b

abbrev pub numeral : Option Bool → List ℕ → Option Scalar
numeral (some i) acc = some (num i (reverse acc))
numeral none acc = none

abbrev pub token_end : TokenState → Option Scalar
token_end (word w ws v) = none
token_end (number s acc) = numeral (number_end s) acc

unfoldable pub stops : ℕ → Bool
stops b = not (digit b || eqb b (code ".") || letter_e b)

abbrev pub message : Dialect
message =
    record {
      lexis = message_lexis;
      CharState = CharState;
      char_start = λ b. char_start b;
      char_step = λ s b. char_step s b;
      TokenState = TokenState;
      token_start = λ b. token_start b;
      token_step = λ s b. token_step s b;
      token_end = λ s. token_end s;
      stops = λ b. stops b;
    }

-- the value of a message text, as the only item
unfoldable pub read_message : List ℕ → Out
unfolding read scan blank char_start char_step hex_digit escape_of token_start token_step number_step
read_message l = read message message_levels l
