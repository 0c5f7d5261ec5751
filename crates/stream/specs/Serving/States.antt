-- Serves contracts and proofs. Where the reader stands, as three words that a caller keeps: a mode, the open brackets, and how many bytes of a message are in the buffer. Any words stand for something.
use Rattle.std.specs.Prelude.{ℕ, zero, suc, ◌-◌, ◌/◌, ◌%◌, ◌^◌, ◌≤◌, ◌<◌, Bool, true, false, cond, ◌&&◌, List, [], ◌∷◌, get_or, eqb, leb, ltb}
use Rattle.grammar.specs.Limits.{message_levels}
use Rattle.grammar.specs.Notation.{text}
use Rattle.grammar.specs.Serving.Machine.Message.{Want, Want.one, Want.two, Want.two_E0, Want.two_ED, Want.three, Want.three_F0, Want.three_F4}
use Rattle.grammar.specs.Serving.Machine.Message.{NumberState}
use Rattle.stream.specs.Serving.Modes.{DigitMode, CharMode, Point, Mode, spelled}
use Rattle.stream.specs.Serving.Modes.DigitMode.{hex0, hex1, hex2, hex3, low0, low1, low2, low3}
use Rattle.stream.specs.Serving.Modes.CharMode.{escape, low_backslash, low_u, digit, utf8}
use Rattle.stream.specs.Serving.Modes.Point.{value, element, after, first_key, key, colon}
use Rattle.stream.specs.Serving.Modes.Mode.{at, in_string, inside_char, in_number}
use Rattle.stream.specs.Serving.Feeding.{Standing}

-- Modes inside a character, by number: three, the digits, the tails of UTF-8
abbrev pub first_digit : ℕ
first_digit = 3

abbrev pub first_tail : ℕ
first_tail = 14

abbrev pub char_count : ℕ
char_count = 21

-- each list but its last entry, which stands for every further number too
abbrev pub digits : List DigitMode
digits = hex0 ∷ hex1 false ∷ hex1 true ∷ hex2 false ∷ hex2 true ∷ hex3 false ∷ hex3 true ∷ low0 ∷ low1 ∷ low2 ∷ []

unfoldable pub digit_at : ℕ → DigitMode
digit_at c = get_or digits (c - first_digit) low3

abbrev pub wants : List Want
wants = one ∷ two ∷ two_E0 ∷ two_ED ∷ three ∷ three_F0 ∷ []

unfoldable pub want_at : ℕ → Want
want_at c = get_or wants (c - first_tail) three_F4

unfoldable pub char_at : ℕ → CharMode
unfolding digit_at want_at
char_at c = cond (ltb c first_digit) (get_or (escape ∷ low_backslash ∷ []) c low_u) (cond (ltb c first_tail) (digit (digit_at c)) (utf8 (want_at c)))

-- Modes by number, after the two numbers for between messages and for skipping: the points, two for strings, numbers, words, the characters of strings, those of keys
abbrev pub first_point : ℕ
first_point = 2

abbrev pub first_string : ℕ
first_string = 8

abbrev pub key_string : ℕ
key_string = 9

abbrev pub first_number : ℕ
first_number = 10

abbrev pub first_word : ℕ
first_word = 18

abbrev pub first_char : ℕ
first_char = 27

abbrev pub first_key_char : ℕ
first_key_char = 48

abbrev pub mode_end : ℕ
mode_end = 69

abbrev pub points : List Point
points = value ∷ element ∷ after ∷ first_key ∷ key ∷ colon ∷ []

unfoldable pub point_at : ℕ → Point
point_at m = get_or points (m - first_point) value

abbrev pub numbers : List NumberState
numbers = NumberState.after_minus ∷ NumberState.after_zero ∷ NumberState.in_int ∷ NumberState.after_point ∷ NumberState.in_frac ∷ NumberState.after_e ∷ NumberState.after_sign ∷ []

unfoldable pub number_at : ℕ → NumberState
number_at m = get_or numbers (m - first_number) NumberState.in_exp

-- what is wanted of null, true and false
abbrev pub words : List (List ℕ)
words = text "ull" ∷ text "ll" ∷ text "rue" ∷ text "ue" ∷ text "alse" ∷ text "lse" ∷ text "se" ∷ text "l" ∷ []

unfoldable pub word_at : ℕ → List ℕ
word_at m = get_or words (m - first_word) (text "e")

unfoldable pub mode_at : ℕ → Mode
unfolding point_at number_at word_at char_at
mode_at m =
    cond (ltb m first_string) (at (point_at m))
    (cond (ltb m first_number) (in_string (eqb m key_string))
    (cond (ltb m first_word) (in_number (number_at m))
    (cond (ltb m first_char) (spelled (word_at m)) (cond (ltb m first_key_char) (inside_char false (char_at (m - first_char))) (inside_char true (char_at (m - first_key_char)))))))

-- the bits below the leading 1, at most d of them, the lowest first
unfoldable pub bits : ℕ → ℕ → List Bool
bits zero n = []
bits (suc d) n = cond (leb n 1) [] (eqb (n % 2) 1 ∷ bits d (n / 2))

-- the open brackets of a word of 64 bits, innermost first, true for an object
unfoldable pub brackets_of : ℕ → List Bool
unfolding bits
brackets_of n = bits 64 n

-- one bracket at least, and at most as many as there are levels
pub record Nest (n : ℕ) : Type 0 where
  pub some_open : 2 ≤ n
  pub levels : n < 2 ^ suc message_levels

pub record Known (m : ℕ) : Type 0 where
  pub low : first_point ≤ m
  pub high : m < mode_end

-- what three words stand for; where the mode or the brackets are none, skipping
unfoldable pub stands_for : ℕ → ℕ → ℕ → Standing
unfolding mode_at brackets_of
stands_for mode nest len =
    cond (eqb mode 0) Standing.between
    (cond (leb first_point mode && ltb mode mode_end && leb 2 nest && ltb nest (2 ^ suc message_levels)) (Standing.inside (mode_at mode) (brackets_of nest) len) Standing.skipping)

-- the words that a reader leaves behind
pub data Normal : ℕ → ℕ → ℕ → Type 0 where
  between : Normal 0 0 0
  skipping : Normal 1 0 0
  inside : {mode nest len : ℕ} → Known mode → Nest nest → Normal mode nest len
