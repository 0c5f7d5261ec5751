-- Modes by number: what is known of a number past a run of others, and which block of the numbering a mode is in.
-- A `match` leaves for its last arm that the number is none of those before; then it is past them, and a list's default is met.
use Prim.Native.Nat.{ℕ, zero, suc, ◌+◌, ◌-◌, ◌≤◌, ◌<◌}
use native.Mathlib.Omega.{arith}
use mathlib.Core.Path.{◌≡◌, refl, sym, ap, ◌∙◌}
use mathlib.Core.Bool.{Bool, true, false, cond}
use mathlib.Core.List.{List, [], ◌∷◌}
use lib.ListN.{get_or, get_or-eq_default}
use lib.Dec.{ltb, eqb, leb}
use borrow.Author.Tests.{ltb-true, ltb-false, lt-ltb, le-ltb, lt-leb, le-leb}
use Rattle.grammar.specs.Notation.{text, all}
use Rattle.grammar.proofs.Booleans.{clash, both}
use Rattle.grammar.specs.Serving.Machine.Message.{Want, NumberState}
use Rattle.stream.specs.Serving.Modes.{DigitMode, CharMode, CharMode.digit, CharMode.utf8, Point, Mode.at, Mode.in_string, Mode.inside_char, Mode.in_number, spelled}
use Rattle.stream.specs.Serving.States.{digits, wants, points, numbers, words, char_count, first_point, first_digit, first_tail, digit_at, want_at, char_at, first_string, key_string, first_number, first_word, first_char, first_key_char, point_at, number_at, word_at, mode_at}

-- n is none of the k numbers from a on
abbrev pub NoneOf : ℕ → ℕ → ℕ → Type 0
NoneOf a zero n = Unit {0}
NoneOf a (suc k) n = NoneOf a k n × (n ≡ a + k → ⊥)

pub past : (a k n : ℕ) → a ≤ n → NoneOf a k n → a + k ≤ n
past a zero n h r = omega arith
past a (suc k) n h r = let z = past a k n h r.0 in let y = r.1 in omega arith

-- the last of each block
pub digit-last : (c : ℕ) → 13 ≤ c → digit_at c ≡ DigitMode.low3
unfolding digit_at
digit-last c h = get_or-eq_default digits DigitMode.low3 {n = c - first_digit} (omega arith)

pub want_last : (c : ℕ) → 20 ≤ c → want_at c ≡ Want.three_F4
unfolding want_at
want_last c h = get_or-eq_default wants Want.three_F4 {n = c - first_tail} (omega arith)

pub number-last : (m : ℕ) → 17 ≤ m → number_at m ≡ NumberState.in_exp
unfolding number_at
number-last m h = get_or-eq_default numbers NumberState.in_exp {n = m - first_number} (omega arith)

pub word-last : (m : ℕ) → 26 ≤ m → word_at m ≡ text "e"
unfolding word_at
word-last m h = get_or-eq_default words (text "e") {n = m - first_word} (omega arith)

-- something is wanted of every word
pub word_some : (m : ℕ) → [] ≡ word_at m → ⊥
unfolding word_at
word_some m e = clash (go words refl (m - first_word)) (sym (ap filled e))
  where
    filled : List ℕ → Bool
    filled [] = false
    filled (w ∷ ws) = true

    go : (l : List (List ℕ)) → all filled l ≡ true → (n : ℕ) → filled (get_or l n (text "e")) ≡ true
    go [] h n = refl
    go (x ∷ l) h zero = (both (filled x) (all filled l) h).0
    go (x ∷ l) h (suc n) = go l (both (filled x) (all filled l) h).1 n

-- at a value, or no point at all
pub point-first : (m : ℕ) → NoneOf 3 5 m → point_at m ≡ Point.value
unfolding point_at
point-first m r = go (ltb m 3) refl
  where
    go : (t : Bool) → ltb m 3 ≡ t → get_or points (m - first_point) Point.value ≡ Point.value
    go true t = let e : m - first_point ≡ 0 = omega (arith, ltb-true m 3 t) in ap (λ (k : ℕ). get_or points k Point.value) e
    go false t = get_or-eq_default points Point.value {n = m - first_point} (omega (arith, past 3 5 m (ltb-false m 3 t) r))

-- Characters
two : char_at 2 ≡ CharMode.low_u
unfolding char_at
two = refl

pub low-mode : (c : ℕ) → 2 ≤ c → c < first_digit → char_at c ≡ CharMode.low_u
low-mode c h g = let e : c ≡ 2 = omega arith in ap char_at e ∙ two

pub digit-mode : (c : ℕ) → first_digit ≤ c → c < first_tail → char_at c ≡ digit (digit_at c)
unfolding char_at
digit-mode c h g = rw (le-ltb c first_digit h, lt-ltb c first_tail g)

pub utf8-mode : (c : ℕ) → first_tail ≤ c → char_at c ≡ utf8 (want_at c)
unfolding char_at
utf8-mode c h = let g : first_digit ≤ c = omega arith in rw (le-ltb c first_digit g, le-ltb c first_tail h)

-- Modes
module _ (m : ℕ) where
  pub point-mode : m < first_string → mode_at m ≡ at (point_at m)
  unfolding mode_at
  point-mode h = rw (lt-ltb m first_string h)

  pub string-mode : first_string ≤ m → m < first_number → mode_at m ≡ in_string (eqb m key_string)
  unfolding mode_at
  string-mode h g = rw (le-ltb m first_string h, lt-ltb m first_number g)

  pub number-mode : first_number ≤ m → m < first_word → mode_at m ≡ in_number (number_at m)
  unfolding mode_at
  number-mode h g = let f : first_string ≤ m = omega arith in rw (le-ltb m first_string f, le-ltb m first_number h, lt-ltb m first_word g)

  pub word-mode : first_word ≤ m → m < first_char → mode_at m ≡ spelled (word_at m)
  unfolding mode_at
  word-mode h g =
      let f : first_string ≤ m = omega arith in
      let e : first_number ≤ m = omega arith in rw (le-ltb m first_string f, le-ltb m first_number e, le-ltb m first_word h, lt-ltb m first_char g)

  module _ (h : first_char ≤ m) where
    char-mode : mode_at m ≡ cond (ltb m first_key_char) (inside_char false (char_at (m - first_char))) (inside_char true (char_at (m - first_key_char)))
    unfolding mode_at
    char-mode =
        let f : first_string ≤ m = omega arith in
        let e : first_number ≤ m = omega arith in
        let d : first_word ≤ m = omega arith in rw (le-ltb m first_string f, le-ltb m first_number e, le-ltb m first_word d, le-ltb m first_char h)

    pub string-char-mode : m < first_key_char → mode_at m ≡ inside_char (leb first_key_char m) (char_at (m - first_char))
    string-char-mode g = char-mode ∙ rw (lt-ltb m first_key_char g, lt-leb first_key_char m g)

    pub key-char-mode : first_key_char ≤ m → mode_at m ≡ inside_char (leb first_key_char m) (char_at (m - first_key_char))
    key-char-mode g = char-mode ∙ rw (le-ltb m first_key_char g, le-leb first_key_char m g)

-- the number of a mode inside a character
module _ (c : ℕ) (h : c < char_count) where
  pub string-char : mode_at (c + first_char) ≡ inside_char false (char_at c)
  string-char =
      let e : c + first_char - first_char ≡ c = omega arith in
      let g : c + first_char < first_key_char = omega arith in
      string-char-mode (c + first_char) (omega arith) g ∙ rw (lt-leb first_key_char (c + first_char) g, e)

  pub key-char : mode_at (c + first_key_char) ≡ inside_char true (char_at c)
  key-char =
      let e : c + first_key_char - first_key_char ≡ c = omega arith in
      let g : first_key_char ≤ c + first_key_char = omega arith in
      key-char-mode (c + first_key_char) (omega arith) g ∙ rw (le-leb first_key_char (c + first_key_char) g, e)
