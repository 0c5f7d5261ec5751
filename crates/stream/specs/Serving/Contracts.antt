-- Serves contracts and proofs. What the enums of the code stand for, and what its functions promise.
use Rattle.std.specs.Prelude.{ℕ, ◌+◌, ◌-◌, ◌≤◌, ◌<◌, ◌≡◌, Bool, true, false, not, ◌&&◌, List, [], ◌∷◌, Option, Some, None, Result, Ok, Err, length, drop, eqb, ltb}
use Prim.Native.Char.{code}
use Rattle.std.proofs.Math.Option as math
use Rattle.grammar.specs.Limits.{message_levels}
use Rattle.grammar.specs.Notation.{text, within}
use Rattle.grammar.specs.MessageText.{hex_digit}
use Rattle.grammar.specs.Serving.Machine.Message.{Want, NumberState}
use Rattle.rules.specs.declared.MessageRefusal.{MessageRefusal}
use Rattle.rules.specs.declared.MessageRefusal.TheVariants.{NotText}
use Rattle.stream.specs.declared.mode.Point.{Point}
use Rattle.stream.specs.declared.mode.Point.TheVariants.{Value, Element, After, FirstKey, Key, Colon}
use Rattle.stream.specs.declared.mode.CharMode.{CharMode}
use Rattle.stream.specs.declared.mode.CharMode.TheVariants.{Escape, LowBackslash, LowU, Hex0, Hex1, Hex1AfterD, Hex2, Hex2High, Hex3, Hex3High, Low0, Low1, Low2, Low3, One, Two, TwoE0, TwoED, Three, ThreeF0, ThreeF4}
use Rattle.stream.specs.declared.mode.NumberMode.{NumberMode}
use Rattle.stream.specs.declared.mode.NumberMode.TheVariants.{AfterMinus, AfterZero, InInteger, AfterPoint, InFraction, AfterE, AfterSign, InExponent}
use Rattle.stream.specs.declared.mode.Word.{Word}
use Rattle.stream.specs.declared.mode.Word.TheVariants.{Ull, Ll, Rue, Ue, Alse, Lse, Se, L, E}
use Rattle.stream.specs.declared.mode.Mode.{Mode}
use Rattle.stream.specs.declared.mode.Mode.TheVariants.{At, InString, InKey, InStringChar, InKeyChar, InNumber, InWord}
use Rattle.stream.specs.declared.brackets.Brackets.{Brackets}
use Rattle.stream.specs.declared.steps.Place.{Place}
use Rattle.stream.specs.declared.state.State.{State}
use Rattle.stream.specs.declared.state.State.TheVariants.{Between, Skipping, Inside}
use Rattle.stream.specs.declared.state.Words.{Words}
use Rattle.stream.specs.declared.pieces.Outcome.{Outcome}
use Rattle.stream.specs.declared.pieces.Outcome.TheVariants.{ToBetween, ToSkipping, Keep, Whole, Lost, Cleared}
use Rattle.stream.specs.declared.pieces.Fed.{Fed}
use Rattle.stream.specs.Stream.{limit_of}
use Rattle.stream.specs.Serving.Modes as modes
use Rattle.stream.specs.Serving.Feeding as feeding
use Rattle.stream.specs.Serving.Feeding.{Standing, outcome_of, byte, Call, call}
use Rattle.stream.specs.Serving.States.{char_at, char_count, mode_at, brackets_of, Nest, Known, stands_for, Normal}

-- Modes
abbrev pub point_of : Point → modes.Point
point_of Value = modes.Point.value
point_of Element = modes.Point.element
point_of After = modes.Point.after
point_of FirstKey = modes.Point.first_key
point_of Key = modes.Point.key
point_of Colon = modes.Point.colon

abbrev pub char_of : CharMode → modes.CharMode
char_of Escape = modes.CharMode.escape
char_of LowBackslash = modes.CharMode.low_backslash
char_of LowU = modes.CharMode.low_u
char_of Hex0 = modes.CharMode.digit modes.DigitMode.hex0
char_of Hex1 = modes.CharMode.digit (modes.DigitMode.hex1 false)
char_of Hex1AfterD = modes.CharMode.digit (modes.DigitMode.hex1 true)
char_of Hex2 = modes.CharMode.digit (modes.DigitMode.hex2 false)
char_of Hex2High = modes.CharMode.digit (modes.DigitMode.hex2 true)
char_of Hex3 = modes.CharMode.digit (modes.DigitMode.hex3 false)
char_of Hex3High = modes.CharMode.digit (modes.DigitMode.hex3 true)
char_of Low0 = modes.CharMode.digit modes.DigitMode.low0
char_of Low1 = modes.CharMode.digit modes.DigitMode.low1
char_of Low2 = modes.CharMode.digit modes.DigitMode.low2
char_of Low3 = modes.CharMode.digit modes.DigitMode.low3
char_of One = modes.CharMode.utf8 Want.one
char_of Two = modes.CharMode.utf8 Want.two
char_of TwoE0 = modes.CharMode.utf8 Want.two_E0
char_of TwoED = modes.CharMode.utf8 Want.two_ED
char_of Three = modes.CharMode.utf8 Want.three
char_of ThreeF0 = modes.CharMode.utf8 Want.three_F0
char_of ThreeF4 = modes.CharMode.utf8 Want.three_F4

abbrev pub number_of : NumberMode → NumberState
number_of AfterMinus = NumberState.after_minus
number_of AfterZero = NumberState.after_zero
number_of InInteger = NumberState.in_int
number_of AfterPoint = NumberState.after_point
number_of InFraction = NumberState.in_frac
number_of AfterE = NumberState.after_e
number_of AfterSign = NumberState.after_sign
number_of InExponent = NumberState.in_exp

abbrev pub spelling : Word → List ℕ
spelling Ull = text "ull"
spelling Ll = text "ll"
spelling Rue = text "rue"
spelling Ue = text "ue"
spelling Alse = text "alse"
spelling Lse = text "lse"
spelling Se = text "se"
spelling L = text "l"
spelling E = text "e"

abbrev pub mode_of : Mode → modes.Mode
mode_of (At p) = modes.Mode.at (point_of p)
mode_of InString = modes.Mode.in_string false
mode_of InKey = modes.Mode.in_string true
mode_of (InStringChar c) = modes.Mode.inside_char false (char_of c)
mode_of (InKeyChar c) = modes.Mode.inside_char true (char_of c)
mode_of (InNumber n) = modes.Mode.in_number (number_of n)
mode_of (InWord w) = modes.spelled (spelling w)

-- by number: every number below the count, and no other
abbrev pub CharAt : ℕ → Option CharMode → Type 0
CharAt n (Some c) = (n < char_count) × (char_at n ≡ char_of c)
CharAt n None = char_count ≤ n

abbrev pub ModeAt : ℕ → Option Mode → Type 0
ModeAt n (Some m) = Known n × (mode_at n ≡ mode_of m)
ModeAt n None = Known n → ⊥

pub record NumberOf (m : Mode) (n : ℕ) : Type 0 where
  pub known : Known n
  pub same : mode_at n ≡ mode_of m

-- Characters
abbrev pub HexDigit : ℕ → Result ℕ MessageRefusal → Type 0
HexDigit b (Ok d) = hex_digit b ≡ math.some d
HexDigit b (Err x) = (x ≡ NotText) × (hex_digit b ≡ math.none)

abbrev pub turn_at : Option CharMode → modes.CharTurn
turn_at (Some c) = modes.CharTurn.stay (char_of c)
turn_at None = modes.CharTurn.char

abbrev pub CharGoes : Result (Option CharMode) MessageRefusal → modes.CharTurn → Type 0
CharGoes (Ok o) t = turn_at o ≡ t
CharGoes (Err x) t = (x ≡ NotText) × (modes.CharTurn.bad ≡ t)

-- Numbers and words
abbrev pub number_turn_of : Option NumberMode → math.Option NumberState
number_turn_of (Some n) = math.some (number_of n)
number_turn_of None = math.none

abbrev pub is_some : {A : Type 0} → math.Option A → Bool
is_some (math.some c) = true
is_some math.none = false

-- what a word wants is a byte and then the rest
abbrev pub rest_of : Option Word → List ℕ
rest_of (Some w) = spelling w
rest_of None = []

-- Brackets
abbrev pub BracketsAt : ℕ → Option Brackets → Type 0
BracketsAt n (Some s) = n ≡ s.bits
BracketsAt n None = Nest n → ⊥

abbrev pub open_of : Brackets → List Bool
open_of s = brackets_of s.bits

-- one more is open, where a level is left
abbrev pub OneMore : Bool → Brackets → Option Brackets → Type 0
OneMore f s (Some r) = (open_of r ≡ f ∷ open_of s) × (ltb (length (open_of s)) message_levels ≡ true)
OneMore f s None = ltb (length (open_of s)) message_levels ≡ false

-- one less, where it is not the last
abbrev pub OneLess : Brackets → Option Brackets → Type 0
OneLess s (Some r) = modes.close_turn (open_of s) ≡ modes.Turn.to (modes.Mode.at modes.Point.after) (open_of r)
OneLess s None = modes.close_turn (open_of s) ≡ modes.Turn.ended

pub record Innermost (s : Brackets) (f : Bool) : Type 0 where
  pub outer : List Bool
  pub same : open_of s ≡ f ∷ outer

-- Steps
abbrev pub stepped : Result (Option Place) MessageRefusal → feeding.Outcome
stepped (Ok (Some p)) = feeding.Outcome.keep (mode_of p.mode) (open_of p.brackets)
stepped (Ok None) = feeding.Outcome.ends
stepped (Err x) = feeding.Outcome.refuse x Standing.skipping

-- States
abbrev pub standing_of : State → Standing
standing_of Between = Standing.between
standing_of Skipping = Standing.skipping
standing_of (Inside p k) = Standing.inside (mode_of p.mode) (open_of p.brackets) k

pub record WordsOf (s : State) (w : Words) : Type 0 where
  pub stands : stands_for w.mode w.nest w.len ≡ standing_of s
  pub normal : Normal w.mode w.nest w.len

-- A byte
abbrev pub outcome_for : Outcome → feeding.Outcome
outcome_for ToBetween = feeding.Outcome.pass Standing.between
outcome_for ToSkipping = feeding.Outcome.pass Standing.skipping
outcome_for (Keep p) = feeding.Outcome.keep (mode_of p.mode) (open_of p.brackets)
outcome_for Whole = feeding.Outcome.ends
outcome_for (Lost x) = feeding.Outcome.refuse x Standing.skipping
outcome_for Cleared = feeding.Outcome.refuse NotText Standing.between

-- Pieces
-- a byte of a string that is a whole character
unfoldable pub plain : ℕ → Bool
plain b = within 0x20 0x7F b && not (eqb b (code "\"")) && not (eqb b (code "\\"))

-- so many bytes were taken before
abbrev pub laters : ℕ → Call → Call
laters n c = record { said = c.said; taken = n + c.taken; standing = c.standing; buffer = c.buffer }

-- inside a message with `at` bytes in the buffer the bytes of the piece from `from` to `e` are only kept
pub record Runs (md : modes.Mode) (old piece : List ℕ) (from start limit : ℕ) (new : List ℕ) (e : ℕ) : Type 0 where
  pub told : (fs : List Bool)
      → call limit (Standing.inside md fs start) old (drop from piece) ≡ laters (e - from) (call limit (Standing.inside md fs (start + (e - from))) new (drop e piece))
  pub rises : from ≤ e
  pub taken : e ≤ length piece
  pub room : start + (e - from) ≤ limit
  pub same_length : length new ≡ length old

pub record RunsStrings (old piece : List ℕ) (from start limit : ℕ) (new : List ℕ) (e : ℕ) : Type 0 where
  pub runs : (d : Bool) → Runs (modes.Mode.in_string d) old piece from start limit new e

-- a call: the buffer, the piece and the state before, the buffer and what is given after
pub record Feeds (old piece : List ℕ) (s : State) (new : List ℕ) (r : Fed State) : Type 0 where
  pub told : call (limit_of (length old)) (standing_of s) old piece ≡ record { said = r.said; taken = r.taken; standing = standing_of r.state; buffer = new }

-- The reader
abbrev pub start_words : Words
start_words = record { mode = 0; nest = 0; len = 0 }

abbrev pub standing_by : Words → Standing
standing_by w = stands_for w.mode w.nest w.len

-- the whole outcome of a call: the buffer, the piece and the words before, the buffer and what is given after
pub record ReadsPiece (old piece : List ℕ) (w : Words) (new : List ℕ) (r : Fed Words) : Type 0 where
  pub told : call (limit_of (length old)) (standing_by w) old piece ≡ record { said = r.said; taken = r.taken; standing = standing_by r.state; buffer = new }
  pub normal : Normal r.state.mode r.state.nest r.state.len
