-- A byte that clears fits nowhere in a message: every mode is stuck at it, so that no start of message text has one.
-- Of each mode this is computed, byte by byte. Of a word it is kept that none of its bytes clears.
use Prim.Native.Nat.{ℕ}
use Prim.Native.Char.{code}
use native.Mathlib.Omega.{arith}
use mathlib.Core.Path.{◌≡◌, refl, sym, ap, ◌∙◌}
use mathlib.Core.Bool.{Bool, true, false, cond, not, ◌&&◌, ◌||◌}
use mathlib.Core.List.{List, [], ◌∷◌}
use mathlib.Core.Option.{Option, some, none}
use lib.ListN.{length}
use lib.Dec.{eqb, ltb}
use borrow.Author.Tests.{eqb-true, ltb-true, not-true}
use Rattle.grammar.specs.Limits.{message_levels}
use Rattle.grammar.specs.Notation.{all}
use Rattle.grammar.specs.Lexis.{blank}
use Rattle.grammar.specs.Serving.Machine.Message.{Want, NumberState, number_step, number_end}
use Rattle.grammar.proofs.Booleans.{clash, either, both, by}
use Rattle.stream.specs.Stream.{clears}
use Rattle.stream.specs.Serving.Modes.{CharMode, CharTurn, Point, Mode, Turn, begin_char, char_turn, opened_mode, close_turn, token_turn, value_turn, key_turn, follow_turn}
use Rattle.stream.specs.Serving.Modes.{point_turn, at_turn, in_char_turn, number_turn, spell_turn, turn}
use Rattle.stream.proofs.Every.{every, every-at}

-- Words
abbrev pub Unclear : Mode → Type 0
Unclear (Mode.at p) = Unit {0}
Unclear (Mode.in_string d) = Unit {0}
Unclear (Mode.inside_char d s) = Unit {0}
Unclear (Mode.in_number s) = Unit {0}
Unclear (Mode.in_word w ws) = all (λ b. not (clears b)) (w ∷ ws) ≡ true

pub data UnclearTurn : Turn → Type 0 where
  goes : {md : Mode} {fs : List Bool} → Unclear md → UnclearTurn (Turn.to md fs)
  ends : UnclearTurn Turn.ended
  sticks : UnclearTurn Turn.stuck
  full : UnclearTurn Turn.over

test : (t : Bool) {x y : Turn} → UnclearTurn x → UnclearTurn y → UnclearTurn (cond t x y)
test true u v = u
test false u v = v

open_unclear : (f : Bool) (fs : List Bool) (t : Bool) → UnclearTurn (cond t (Turn.to (opened_mode f) (f ∷ fs)) Turn.over)
open_unclear true fs t = test t (goes tt) full
open_unclear false fs t = test t (goes tt) full

close-unclear : (fs : List Bool) → UnclearTurn (close_turn fs)
close-unclear [] = ends
close-unclear (f ∷ []) = ends
close-unclear (f ∷ g ∷ fs) = goes tt

module _ (fs : List Bool) (b : ℕ) where
  token-unclear : (s : Option NumberState) → UnclearTurn (token_turn s b fs)
  token-unclear (some s) = goes tt
  token-unclear none = test (eqb b (code "n")) (goes refl) (test (eqb b (code "t")) (goes refl) (test (eqb b (code "f")) (goes refl) sticks))

  value-unclear : UnclearTurn (value_turn fs b)
  value-unclear =
      test (eqb b (code "\"")) (goes tt)
      (test (eqb b (code "[")) (open_unclear false fs (ltb (length fs) message_levels))
      (test (eqb b (code "{")) (open_unclear true fs (ltb (length fs) message_levels)) (token-unclear (number_step NumberState.begin b))))

  key-unclear : UnclearTurn (key_turn fs b)
  key-unclear = test (eqb b (code "\"")) (goes tt) sticks

follow-unclear : (fs : List Bool) (b : ℕ) → UnclearTurn (follow_turn fs b)
follow-unclear [] b = sticks
follow-unclear (false ∷ fs) b = test (eqb b (code ",")) (goes tt) (test (eqb b (code "]")) (close-unclear (false ∷ fs)) sticks)
follow-unclear (true ∷ fs) b = test (eqb b (code ",")) (goes tt) (test (eqb b (code "}")) (close-unclear (true ∷ fs)) sticks)

point-unclear : (p : Point) (fs : List Bool) (b : ℕ) → UnclearTurn (point_turn p fs b)
point-unclear Point.value fs b = value-unclear fs b
point-unclear Point.element fs b = test (eqb b (code "]")) (close-unclear fs) (value-unclear fs b)
point-unclear Point.after fs b = follow-unclear fs b
point-unclear Point.first_key fs b = test (eqb b (code "}")) (close-unclear fs) (key-unclear fs b)
point-unclear Point.key fs b = key-unclear fs b
point-unclear Point.colon fs b = test (eqb b (code ":")) (goes tt) sticks

at-unclear : (p : Point) (fs : List Bool) (b : ℕ) → UnclearTurn (at_turn p fs b)
at-unclear p fs b = test (blank b) (goes tt) (point-unclear p fs b)

char-unclear : (t : CharTurn) (d : Bool) (fs : List Bool) → UnclearTurn (in_char_turn t d fs)
char-unclear (CharTurn.stay s) d fs = goes tt
char-unclear CharTurn.char d fs = goes tt
char-unclear CharTurn.bad d fs = sticks

number-unclear : (s : Option NumberState) (i : Option Bool) (fs : List Bool) (b : ℕ) → UnclearTurn (number_turn s i fs b)
number-unclear (some s) i fs b = goes tt
number-unclear none (some i) fs b = at-unclear Point.after fs b
number-unclear none none fs b = sticks

spell-unclear : (ws : List ℕ) (fs : List Bool) → all (λ b. not (clears b)) ws ≡ true → UnclearTurn (spell_turn ws fs)
spell-unclear [] fs h = goes tt
spell-unclear (w ∷ ws) fs h = goes h

pub turn-unclear : (md : Mode) (fs : List Bool) (b : ℕ) → Unclear md → UnclearTurn (turn md fs b)
unfolding turn
turn-unclear (Mode.at p) fs b u = at-unclear p fs b
turn-unclear (Mode.in_string d) fs b u = test (eqb b (code "\"")) (goes tt) (char-unclear (begin_char b) d fs)
turn-unclear (Mode.inside_char d s) fs b u = char-unclear (char_turn s b) d fs
turn-unclear (Mode.in_number s) fs b u = number-unclear (number_step s b) (number_end s) fs b
turn-unclear (Mode.in_word w ws) fs b u = test (eqb b w) (spell-unclear ws fs (both (not (clears w)) (all (λ b. not (clears b)) ws) u).1) sticks

-- Clearing bytes
abbrev is_stuck : Turn → Bool
is_stuck (Turn.to md fs) = false
is_stuck Turn.ended = false
is_stuck Turn.stuck = true
is_stuck Turn.over = false

is_stuck_lem : (t : Turn) → is_stuck t ≡ true → t ≡ Turn.stuck
is_stuck_lem (Turn.to md fs) h = clash h refl
is_stuck_lem Turn.ended h = clash h refl
is_stuck_lem Turn.stuck h = refl
is_stuck_lem Turn.over h = clash h refl

-- what is stuck at each byte that clears, computed
abbrev refuses : (ℕ → Turn) → ℕ → Bool
refuses f b = not (clears b) || is_stuck (f b)

abbrev refuses_all : (ℕ → Turn) → Bool
refuses_all f = every (refuses f) 0 0x20 && refuses f 0xFF

tested : (f : ℕ → Turn) → refuses_all f ≡ true → (b : ℕ) → clears b ≡ true → f b ≡ Turn.stuck
tested f h b c =
    let k = both (every (refuses f) 0 0x20) (refuses f 0xFF) h in
    either (eqb b 0xFF) (ltb b 0x20 && not (blank b)) (λ e. found (ap (refuses f) (eqb-true b 0xFF e) ∙ k.1))
    (λ e. found (every-at (refuses f) 0 0x20 b k.0 (omega arith) (ltb-true b 0x20 (both (ltb b 0x20) (not (blank b)) e).0))) c
  where
    found : refuses f b ≡ true → f b ≡ Turn.stuck
    found g = is_stuck_lem (f b) (ap (λ (t : Bool). not t || is_stuck (f b)) (sym c) ∙ g)

module _ (b : ℕ) (c : clears b ≡ true) where
  after_stuck : (fs : List Bool) → at_turn Point.after fs b ≡ Turn.stuck
  unfolding blank
  after_stuck [] = tested (λ b. at_turn Point.after [] b) refl b c
  after_stuck (false ∷ fs) = tested (λ b. at_turn Point.after (false ∷ fs) b) refl b c
  after_stuck (true ∷ fs) = tested (λ b. at_turn Point.after (true ∷ fs) b) refl b c

  at_stuck : (p : Point) (fs : List Bool) → at_turn p fs b ≡ Turn.stuck
  unfolding blank number_step
  at_stuck Point.value fs = tested (λ b. at_turn Point.value fs b) refl b c
  at_stuck Point.element fs = tested (λ b. at_turn Point.element fs b) refl b c
  at_stuck Point.after fs = after_stuck fs
  at_stuck Point.first_key fs = tested (λ b. at_turn Point.first_key fs b) refl b c
  at_stuck Point.key fs = tested (λ b. at_turn Point.key fs b) refl b c
  at_stuck Point.colon fs = tested (λ b. at_turn Point.colon fs b) refl b c

  utf8_stuck : (w : Want) (d : Bool) (fs : List Bool) → turn (Mode.inside_char d (CharMode.utf8 w)) fs b ≡ Turn.stuck
  unfolding turn
  utf8_stuck Want.one d fs = tested (λ b. turn (Mode.inside_char d (CharMode.utf8 Want.one)) fs b) refl b c
  utf8_stuck Want.two d fs = tested (λ b. turn (Mode.inside_char d (CharMode.utf8 Want.two)) fs b) refl b c
  utf8_stuck Want.two_E0 d fs = tested (λ b. turn (Mode.inside_char d (CharMode.utf8 Want.two_E0)) fs b) refl b c
  utf8_stuck Want.two_ED d fs = tested (λ b. turn (Mode.inside_char d (CharMode.utf8 Want.two_ED)) fs b) refl b c
  utf8_stuck Want.three d fs = tested (λ b. turn (Mode.inside_char d (CharMode.utf8 Want.three)) fs b) refl b c
  utf8_stuck Want.three_F0 d fs = tested (λ b. turn (Mode.inside_char d (CharMode.utf8 Want.three_F0)) fs b) refl b c
  utf8_stuck Want.three_F4 d fs = tested (λ b. turn (Mode.inside_char d (CharMode.utf8 Want.three_F4)) fs b) refl b c

  char_stuck : (s : CharMode) (d : Bool) (fs : List Bool) → turn (Mode.inside_char d s) fs b ≡ Turn.stuck
  unfolding turn
  char_stuck CharMode.escape d fs = tested (λ b. turn (Mode.inside_char d CharMode.escape) fs b) refl b c
  char_stuck CharMode.low_backslash d fs = tested (λ b. turn (Mode.inside_char d CharMode.low_backslash) fs b) refl b c
  char_stuck CharMode.low_u d fs = tested (λ b. turn (Mode.inside_char d CharMode.low_u) fs b) refl b c
  char_stuck (CharMode.digit s) d fs = tested (λ b. turn (Mode.inside_char d (CharMode.digit s)) fs b) refl b c
  char_stuck (CharMode.utf8 w) d fs = utf8_stuck w d fs

  -- no number goes on with it
  abbrev off : Option NumberState → Turn
  off (some s) = Turn.ended
  off none = Turn.stuck

  number-off : (s : NumberState) → off (number_step s b) ≡ Turn.stuck
  unfolding blank number_step
  number-off NumberState.begin = tested (λ b. off (number_step NumberState.begin b)) refl b c
  number-off NumberState.after_minus = tested (λ b. off (number_step NumberState.after_minus b)) refl b c
  number-off NumberState.after_zero = tested (λ b. off (number_step NumberState.after_zero b)) refl b c
  number-off NumberState.in_int = tested (λ b. off (number_step NumberState.in_int b)) refl b c
  number-off NumberState.after_point = tested (λ b. off (number_step NumberState.after_point b)) refl b c
  number-off NumberState.in_frac = tested (λ b. off (number_step NumberState.in_frac b)) refl b c
  number-off NumberState.after_e = tested (λ b. off (number_step NumberState.after_e b)) refl b c
  number-off NumberState.after_sign = tested (λ b. off (number_step NumberState.after_sign b)) refl b c
  number-off NumberState.in_exp = tested (λ b. off (number_step NumberState.in_exp b)) refl b c

  number_stuck : (s : Option NumberState) (i : Option Bool) (fs : List Bool) → off s ≡ Turn.stuck → number_turn s i fs b ≡ Turn.stuck
  number_stuck (some s) i fs h = let z : ◌≡◌ {A = ℕ} 0 1 = cc in absurd (omega arith)
  number_stuck none (some i) fs h = after_stuck fs
  number_stuck none none fs h = refl

  pub clearing_stuck : (md : Mode) (fs : List Bool) → Unclear md → turn md fs b ≡ Turn.stuck
  unfolding turn
  clearing_stuck (Mode.at p) fs u = at_stuck p fs
  clearing_stuck (Mode.in_string d) fs u = tested (λ b. turn (Mode.in_string d) fs b) refl b c
  clearing_stuck (Mode.inside_char d s) fs u = char_stuck s d fs
  clearing_stuck (Mode.in_number s) fs u = number_stuck (number_step s b) (number_end s) fs (number-off s)
  clearing_stuck (Mode.in_word w ws) fs u =
      by (λ (t : Turn). t ≡ Turn.stuck) (eqb b w)
      (λ e. clash (sym (ap clears (eqb-true b w e)) ∙ c) (not-true (clears w) (both (not (clears w)) (all (λ b. not (clears b)) ws) u).0)) (λ e. refl)
