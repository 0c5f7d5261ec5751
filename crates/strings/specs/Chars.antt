-- Serves contracts: what a reader of a character finds, as the byte machine goes inside a character. Nobody has to believe it: the text reader's contract cites the grammar.
use Rattle.std.specs.Prelude.{ℕ, zero, suc, ◌+◌, ◌*◌, ◌≤◌, ◌<◌, ◌≡◌, true, false, cond, List, [], ◌∷◌, ltb, length, get_or, drop}
use Rattle.std.specs.Prelude.{Result, Ok, Err}
use Rattle.std.proofs.Math.Option.{Option, some, none}
use Rattle.grammar.specs.Notation.{within}
use Rattle.grammar.specs.MessageText.{hex_digit, join}
use Rattle.grammar.specs.Serving.Machine.{Dialect, CharStep}
use Rattle.grammar.specs.Serving.Machine.CharStep.{stay, char, bad}
use Rattle.strings.specs.declared.chars.Char.{Char}
use Rattle.strings.specs.declared.chars.Fault.{Fault}

-- what a reader of a character answers: a code point and the place past it, or a place where it stops
abbrev pub CharRead : Type 0
CharRead = Result Char Fault

abbrev pub Code : ℕ → ℕ → CharRead
Code c e = Ok (record { code = c; end = e })

abbrev pub FaultAt : {A : Type 0} → ℕ → Result A Fault
FaultAt p = Err (record { at = p })

module _ (D : Dialect) where
  -- the rest of a character, where l is left at place p
  unfoldable pub char_rest : D.CharState → ℕ → List ℕ → CharRead
  char_rest t p [] = FaultAt p
  char_rest t p (b ∷ l) = elim (D.char_step t b) [ stay u ↦ char_rest u (suc p) l | char c ↦ Code c (suc p) | bad ↦ FaultAt p ]

  -- a character after a step by the byte at place p, where l is left behind it
  abbrev pub char_next : CharStep D.CharState → ℕ → List ℕ → CharRead
  char_next (stay t) p l = char_rest t (suc p) l
  char_next (char c) p l = Code c (suc p)
  char_next bad p l = FaultAt p

  -- a whole character; a quote is none
  unfoldable pub char_from : ℕ → List ℕ → CharRead
  char_from p [] = FaultAt p
  char_from p (b ∷ l) = cond (D.lexis.quote b) (FaultAt p) (char_next (D.char_start b) p l)

  -- the three at place i of the text s
  unfoldable pub rest_at : D.CharState → List ℕ → ℕ → CharRead
  rest_at t s i = char_rest t i (drop i s)

  unfoldable pub next_at : CharStep D.CharState → List ℕ → ℕ → CharRead
  next_at y s i = char_next y i (drop (suc i) s)

  unfoldable pub char_at : List ℕ → ℕ → CharRead
  char_at s i = char_from i (drop i s)

-- what the hexadecimal digit at place i stands for; 16 if there is none
abbrev pub hex_or : Option ℕ → ℕ
hex_or (some x) = x
hex_or none = 16

unfoldable pub hex_at : List ℕ → ℕ → ℕ
hex_at s i = cond (ltb i (length s)) (hex_or (hex_digit (get_or s i 0))) 16

-- a reader of such a digit
pub data HexAt (s : List ℕ) (i : ℕ) : Result ℕ Fault → Type 0 where
  no_digit : 16 ≤ hex_at s i → HexAt s i (FaultAt i)
  one_digit : {x : ℕ} → x ≡ hex_at s i → x ≤ 15 → HexAt s i (Ok x)

-- two such digits from place i on, after those that make v
pub data TwoDigits (s : List ℕ) (i v : ℕ) : CharRead → Type 0 where
  no_first : 16 ≤ hex_at s i → TwoDigits s i v (FaultAt i)
  no_second : hex_at s i ≤ 15 → 16 ≤ hex_at s (i + 1) → TwoDigits s i v (FaultAt (i + 1))
  two_digits : hex_at s i ≤ 15 → hex_at s (i + 1) ≤ 15 → TwoDigits s i v (Code ((v * 16 + hex_at s i) * 16 + hex_at s (i + 1)) (i + 2))

-- a byte of UTF-8 at place i, from low to high, after bytes that make v
pub data TailByte (low high v : ℕ) (s : List ℕ) (i : ℕ) : CharRead → Type 0 where
  no_byte : length s ≤ i → TailByte low high v s i (FaultAt i)
  wrong_byte : i < length s → within low high (get_or s i 0) ≡ false → TailByte low high v s i (FaultAt i)
  tail_byte : i < length s → within low high (get_or s i 0) ≡ true → TailByte low high v s i (Code (join v (get_or s i 0)) (i + 1))

-- n such bytes, where l is left at place p; only the first may be narrowed
unfoldable pub utf8_rest : ℕ → ℕ → ℕ → ℕ → ℕ → List ℕ → CharRead
utf8_rest zero low high v p l = Code v p
utf8_rest (suc n) low high v p [] = FaultAt p
utf8_rest (suc n) low high v p (b ∷ l) = elim (within low high b) [ true ↦ utf8_rest n 0x80 0xBF (join v b) (suc p) l | false ↦ FaultAt p ]

-- n tail bytes at place i of the text s
unfoldable pub utf8_at : ℕ → ℕ → ℕ → ℕ → List ℕ → ℕ → CharRead
utf8_at n low high v s i = utf8_rest n low high v i (drop i s)
