-- Serves contracts: the inside of a number of message text, in terms of the byte machine. Nobody has to believe it: the text reader's contract cites the grammar.
use Rattle.std.specs.Prelude.{ℕ, ◌-◌, ◌≤◌, ◌<◌, ◌≡◌, Bool, true, false, Result, Ok, Err, List, reverse, length, get_or, take, drop}
use Prim.Native.Char.{code}
use Rattle.std.proofs.Math.Option.{some, none}
use Rattle.grammar.specs.Notation.{digit}
use Rattle.grammar.specs.Tree.Scalar.{num}
use Rattle.grammar.specs.Tree.Json.{leaf}
use Rattle.grammar.specs.MessageText.{letter_e}
use Rattle.grammar.specs.Serving.Machine.{Stack, Control, scan}
use Rattle.grammar.specs.Serving.Machine.Control.{After, InToken}
use Rattle.grammar.specs.Serving.Machine.Out.{fault}
use Rattle.grammar.specs.Serving.Machine.Message.{message, NumberState, number_step, number_end}
use Rattle.grammar.specs.Serving.Machine.Message.NumberState.{begin, after_zero, in_int, after_point, after_e}
use Rattle.grammar.specs.Serving.Machine.Message.TokenState.{number}
use Rattle.strings.specs.declared.chars.Fault.{Fault}
use Rattle.tokens.specs.declared.literals.Number.{Number}

-- the bytes from place a to p, the last first: what the machine has gathered at p of a number that began at a
unfoldable pub gathered : List ℕ → ℕ → ℕ → List ℕ
gathered s a p = reverse (take (p - a) (drop a s))

-- digits do not lead out of state t
abbrev pub Loops : NumberState → Type 0
Loops t = (b : ℕ) → digit b ≡ true → number_step t b ≡ some t

module _ (s : List ℕ) where
  -- at place p in state f of the number that began at a
  abbrev pub InNumber : ℕ → NumberState → ℕ → Control message
  InNumber a f p = InToken a (number f (gathered s a p))

  -- from state f at place i to state t at place e, wherever the number began
  abbrev pub Passes : NumberState → ℕ → NumberState → ℕ → Type 0
  Passes f i t e = (lim a : ℕ) (k : Stack) → a ≤ i → scan message lim (InNumber a f i) k i (drop i s) ≡ scan message lim (InNumber a t e) k e (drop e s)

  -- over one byte or more, from state f at place i to state t at place e
  pub record NumberRuns (f : NumberState) (i : ℕ) (t : NumberState) (e : ℕ) : Type 0 where
    pub on : i < e
    pub within : e ≤ length s
    pub runs : Passes f i t e

  -- the first byte that no number could have there is at place e
  abbrev pub NumberStops : NumberState → ℕ → ℕ → Type 0
  NumberStops f i e = (lim a : ℕ) (k : Stack) → a ≤ i → scan message lim (InNumber a f i) k i (drop i s) ≡ fault e

  -- the number ends at place e
  pub record NumberEnds (f : NumberState) (i e : ℕ) (integer : Bool) : Type 0 where
    pub on : i ≤ e
    pub moves : number_end f ≡ none → i < e
    pub within : i ≤ length s → e ≤ length s
    pub runs : (lim a : ℕ) (k : Stack) → a ≤ i
        → scan message lim (InNumber a f i) k i (drop i s) ≡ scan message lim (After (leaf a e (num integer (take (e - a) (drop a s))))) k e (drop e s)

  abbrev pub NumberTold : NumberState → ℕ → Result Number Fault → Type 0
  NumberTold f i (Ok r) = NumberEnds f i r.end r.integer
  NumberTold f i (Err e) = NumberStops f i e.at

  -- at place i stands no digit
  abbrev pub NoDigit : ℕ → Type 0
  NoDigit i = i < length s → digit (get_or s i 0) ≡ false

  -- digits from place i to e, and none after them
  pub record DigitsRun (i e : ℕ) : Type 0 where
    pub on : i ≤ e
    pub within : i ≤ length s → e ≤ length s
    pub ends : NoDigit e
    pub runs : (t : NumberState) → Loops t → Passes t i t e

  -- at place i a digit leads from state f to t, and nothing else does
  pub record Leads (i : ℕ) (f t : NumberState) : Type 0 where
    pub first : i < length s → digit (get_or s i 0) ≡ true → number_step f (get_or s i 0) ≡ some t
    pub other : NoDigit i → i < length s → number_step f (get_or s i 0) ≡ none
    pub unended : number_end f ≡ none
    pub more : Loops t

  -- one digit or more from place i to e, and none after them
  abbrev pub DigitsTold : NumberState → ℕ → NumberState → Result ℕ Fault → Type 0
  DigitsTold f i t (Ok e) = NumberRuns f i t e × NoDigit e
  DigitsTold f i t (Err e) = NumberStops f i e.at

  -- at place i the number may end in state f, or an exponent may follow
  pub record BeforePower (i : ℕ) (integer : Bool) (f : NumberState) : Type 0 where
    pub ends : number_end f ≡ some integer
    pub power : i < length s → letter_e (get_or s i 0) ≡ true → number_step f (get_or s i 0) ≡ some after_e
    pub other : i < length s → letter_e (get_or s i 0) ≡ false → number_step f (get_or s i 0) ≡ none

  -- at place i the integer part may end in state f
  pub record BeforePoint (i : ℕ) (f : NumberState) : Type 0 where
    pub point : number_step f (code ".") ≡ some after_point
    pub other : (i < length s → get_or s i 0 ≡ code "." → ⊥) → BeforePower i true f

  -- at place i the integer part begins in state f
  pub record BeforeInt (i : ℕ) (f : NumberState) : Type 0 where
    pub zero : number_step f (code "0") ≡ some after_zero
    pub other : (i < length s → get_or s i 0 ≡ code "0" → ⊥) → Leads i f in_int

  -- the integer part from place i to e
  abbrev pub IntTold : NumberState → ℕ → Result ℕ Fault → Type 0
  IntTold f i (Ok e) = (t : NumberState) × NumberRuns f i t e × BeforePoint e t
  IntTold f i (Err e) = NumberStops f i e.at

  -- the exponent after its e
  abbrev pub PowerTold : ℕ → Result ℕ Fault → Type 0
  PowerTold i (Ok e) = NumberEnds after_e i e false
  PowerTold i (Err e) = NumberStops after_e i e.at

-- what each reader answers at place i
pub record ReadsDigits (s : List ℕ) (i : ℕ) (r : Result ℕ Fault) : Type 0 where
  pub told : (f t : NumberState) → Leads s i f t → DigitsTold s f i t r

pub record ReadsInt (s : List ℕ) (i : ℕ) (r : Result ℕ Fault) : Type 0 where
  pub told : (f : NumberState) → BeforeInt s i f → IntTold s f i r

pub record ReadsPower (s : List ℕ) (i : ℕ) (r : Result ℕ Fault) : Type 0 where
  pub told : PowerTold s i r

-- of the rest of a number, in any state in P
pub record ReadsRest (s : List ℕ) (i : ℕ) (P : NumberState → Type 0) (r : Result Number Fault) : Type 0 where
  pub told : (f : NumberState) → P f → NumberTold s f i r

-- of a whole number
pub record ReadsNumber (s : List ℕ) (i : ℕ) (r : Result Number Fault) : Type 0 where
  pub told : NumberTold s begin i r
