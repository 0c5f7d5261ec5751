-- Serves contracts and proofs. The grammar's byte machine inside a message, without the trees that it builds: what is read next, and which brackets are open.
use Rattle.std.specs.Prelude.{ℕ, Bool, true, false, cond, ◌&&◌, List, [], ◌∷◌, length, leb, ltb, eqb}
use Prim.Native.Char.{code}
use Rattle.std.proofs.Math.Option.{Option, some, none}
use Rattle.grammar.specs.Limits.{message_levels}
use Rattle.grammar.specs.Notation.{text, within}
use Rattle.grammar.specs.Lexis.{blank}
use Rattle.grammar.specs.MessageText.{hex_digit}
use Rattle.grammar.specs.Serving.Machine.Message.{Want, Want.one, Want.two, Want.two_E0, Want.two_ED, Want.three, Want.three_F0, Want.three_F4, lowest, highest, escape_of}
use Rattle.grammar.specs.Serving.Machine.Message.{NumberState, NumberState.begin, number_step, number_end}

-- At a digit of `\u`. Of the digits before it is known whether they may make a surrogate: hex1, that the first is D; hex2 and hex3, that they make a high one. low0 to low3 are at those of its low one.
pub data DigitMode : Type 0 where
  hex0 : DigitMode
  hex1 hex2 hex3 : Bool → DigitMode
  low0 low1 low2 low3 : DigitMode

-- inside a character: after a backslash; after a high surrogate, at the backslash or the u of its low one; at a digit; in UTF-8
pub data CharMode : Type 0 where
  escape low_backslash low_u : CharMode
  digit : DigitMode → CharMode
  utf8 : Want → CharMode

-- after a byte: more bytes are wanted, the character is complete, or the byte does not fit
pub data CharTurn : Type 0 where
  stay : CharMode → CharTurn
  char bad : CharTurn

abbrev pub want_turn : Want → CharTurn
want_turn one = char
want_turn two = stay (utf8 one)
want_turn two_E0 = stay (utf8 one)
want_turn two_ED = stay (utf8 one)
want_turn three = stay (utf8 two)
want_turn three_F0 = stay (utf8 two)
want_turn three_F4 = stay (utf8 two)

abbrev pub lead_turn : ℕ → CharTurn
lead_turn b =
    cond (within 0xC2 0xDF b) (stay (utf8 one))
    (cond (eqb b 0xE0) (stay (utf8 two_E0))
    (cond (eqb b 0xED) (stay (utf8 two_ED))
    (cond (within 0xE1 0xEF b) (stay (utf8 two))
    (cond (eqb b 0xF0) (stay (utf8 three_F0))
    (cond (within 0xF1 0xF3 b) (stay (utf8 three))
    (cond (eqb b 0xF4) (stay (utf8 three_F4)) bad))))))

-- where a character starts
unfoldable pub begin_char : ℕ → CharTurn
begin_char b = cond (eqb b (code "\\")) (stay escape) (cond (within 0x20 0x7F b) char (lead_turn b))

abbrev pub with_digit : Option ℕ → (ℕ → CharTurn) → CharTurn
with_digit (some d) f = f d
with_digit none f = bad

abbrev pub escape_turn : Option ℕ → CharTurn
escape_turn (some c) = char
escape_turn none = bad

abbrev pub digit_turn : DigitMode → ℕ → CharTurn
digit_turn hex0 d = stay (digit (hex1 (eqb d 0xD)))
digit_turn (hex1 h) d = cond (h && within 0xC 0xF d) bad (stay (digit (hex2 (h && within 8 0xB d))))
digit_turn (hex2 h) d = stay (digit (hex3 h))
digit_turn (hex3 h) d = cond h (stay low_backslash) char
digit_turn low0 d = cond (eqb d 0xD) (stay (digit low1)) bad
digit_turn low1 d = cond (leb 0xC d) (stay (digit low2)) bad
digit_turn low2 d = stay (digit low3)
digit_turn low3 d = char

-- a byte that is wanted, or one of a range
abbrev pub byte_turn : ℕ → ℕ → CharTurn → CharTurn
byte_turn w b t = cond (eqb b w) t bad

abbrev pub tail_turn : ℕ → ℕ → ℕ → CharTurn → CharTurn
tail_turn low high b t = cond (within low high b) t bad

unfoldable pub char_turn : CharMode → ℕ → CharTurn
unfolding hex_digit escape_of
char_turn escape b = cond (eqb b (code "u")) (stay (digit hex0)) (escape_turn (escape_of b))
char_turn low_backslash b = byte_turn (code "\\") b (stay low_u)
char_turn low_u b = byte_turn (code "u") b (stay (digit low0))
char_turn (digit s) b = with_digit (hex_digit b) (λ d. digit_turn s d)
char_turn (utf8 w) b = tail_turn (lowest w) (highest w) b (want_turn w)

-- where a blank may stand: at a value, at an element or the end of its array, after a value, at a key or the end of its object, at a key, at its colon
pub data Point : Type 0 where
  value element after first_key key colon : Point

-- what is read next: a blank or what stands at a point; the next character of a string (true for a key); the rest of a character; that of a number; that of a word: the byte that it wants and those after it
pub data Mode : Type 0 where
  at : Point → Mode
  in_string : Bool → Mode
  inside_char : Bool → CharMode → Mode
  in_number : NumberState → Mode
  in_word : ℕ → List ℕ → Mode

-- After a byte: a mode and the open brackets, innermost first (true for an object); the outermost bracket is closed; no text goes on so; or only one with more levels.
pub data Turn : Type 0 where
  to : Mode → List Bool → Turn
  ended stuck over : Turn

abbrev pub opened_mode : Bool → Mode
opened_mode true = at first_key
opened_mode false = at element

abbrev pub open_turn : Bool → List Bool → Turn
open_turn f fs = cond (ltb (length fs) message_levels) (to (opened_mode f) (f ∷ fs)) over

-- the innermost bracket is closed
abbrev pub close_turn : List Bool → Turn
close_turn [] = ended
close_turn (f ∷ []) = ended
close_turn (f ∷ g ∷ fs) = to (at after) (g ∷ fs)

abbrev pub word_turn : ℕ → List Bool → Turn
word_turn b fs =
    cond (eqb b (code "n")) (to (in_word (code "u") (text "ll")) fs)
    (cond (eqb b (code "t")) (to (in_word (code "r") (text "ue")) fs)
    (cond (eqb b (code "f")) (to (in_word (code "a") (text "lse")) fs) stuck))

abbrev pub token_turn : Option NumberState → ℕ → List Bool → Turn
token_turn (some s) b fs = to (in_number s) fs
token_turn none b fs = word_turn b fs

abbrev pub value_turn : List Bool → ℕ → Turn
value_turn fs b =
    cond (eqb b (code "\"")) (to (in_string false) fs)
    (cond (eqb b (code "[")) (open_turn false fs) (cond (eqb b (code "{")) (open_turn true fs) (token_turn (number_step begin b) b fs)))

abbrev pub key_turn : List Bool → ℕ → Turn
key_turn fs b = cond (eqb b (code "\"")) (to (in_string true) fs) stuck

-- after a value: a comma, or the end of what it stands in
abbrev pub follow_turn : List Bool → ℕ → Turn
follow_turn [] b = stuck
follow_turn (false ∷ fs) b = cond (eqb b (code ",")) (to (at value) (false ∷ fs)) (cond (eqb b (code "]")) (close_turn (false ∷ fs)) stuck)
follow_turn (true ∷ fs) b = cond (eqb b (code ",")) (to (at key) (true ∷ fs)) (cond (eqb b (code "}")) (close_turn (true ∷ fs)) stuck)

-- at a byte that is no blank
abbrev pub point_turn : Point → List Bool → ℕ → Turn
point_turn value fs b = value_turn fs b
point_turn element fs b = cond (eqb b (code "]")) (close_turn fs) (value_turn fs b)
point_turn after fs b = follow_turn fs b
point_turn first_key fs b = cond (eqb b (code "}")) (close_turn fs) (key_turn fs b)
point_turn key fs b = key_turn fs b
point_turn colon fs b = cond (eqb b (code ":")) (to (at value) fs) stuck

abbrev pub at_turn : Point → List Bool → ℕ → Turn
at_turn p fs b = cond (blank b) (to (at p) fs) (point_turn p fs b)

-- where a string or a key has ended
abbrev pub end_point : Bool → Point
end_point true = colon
end_point false = after

abbrev pub in_char_turn : CharTurn → Bool → List Bool → Turn
in_char_turn (stay s) d fs = to (inside_char d s) fs
in_char_turn char d fs = to (in_string d) fs
in_char_turn bad d fs = stuck

abbrev pub past_turn : Option Bool → List Bool → ℕ → Turn
past_turn (some i) fs b = at_turn after fs b
past_turn none fs b = stuck

abbrev pub number_turn : Option NumberState → Option Bool → List Bool → ℕ → Turn
number_turn (some s) i fs b = to (in_number s) fs
number_turn none i fs b = past_turn i fs b

-- a word of which so much is wanted
abbrev pub spelled : List ℕ → Mode
spelled [] = at after
spelled (w ∷ ws) = in_word w ws

abbrev pub spell_turn : List ℕ → List Bool → Turn
spell_turn ws fs = to (spelled ws) fs

-- a byte inside a message
unfoldable pub turn : Mode → List Bool → ℕ → Turn
unfolding blank hex_digit escape_of begin_char char_turn number_step
turn (at p) fs b = at_turn p fs b
turn (in_string d) fs b = cond (eqb b (code "\"")) (to (at (end_point d)) fs) (in_char_turn (begin_char b) d fs)
turn (inside_char d s) fs b = in_char_turn (char_turn s b) d fs
turn (in_number s) fs b = number_turn (number_step s b) (number_end s) fs b
turn (in_word w ws) fs b = cond (eqb b w) (spell_turn ws fs) stuck
