-- The steps of the machine inside a character of a message string, in the terms of its readers: hexadecimal digits, escapes, the bytes of UTF-8.
-- Each law is one way through a reader; the steps themselves are grammar's.
use Prim.Native.Nat.{ℕ, suc, ◌+◌, ◌*◌, ◌-◌, ◌≤◌, ◌<◌}
use Prim.Native.Char.{code}
use native.Mathlib.Omega.{arith}
use native.Mathlib.Decide.{dec_lt}
use mathlib.Core.Path.{◌≡◌, refl, sym, ap, ◌∙◌}
use mathlib.Core.Bool.{Bool, true, false, cond}
use mathlib.Core.List.{List}
use mathlib.Core.Option.{Option, some, none}
use lib.Dec.{ltb, leb, eqb}
use lib.ListN.{length, get_or}
use borrow.Author.Tests.{lt-ltb, le-ltb, ltb-true, le-leb, lt-leb, eq-eqb, ne_eqb}
use Rattle.grammar.specs.Notation.{within}
use Rattle.grammar.specs.MessageText.{hex_digit, Escape}
use Rattle.grammar.specs.Serving.Machine.{CharStep}
use Rattle.grammar.specs.Serving.Machine.CharStep.{stay, char, bad}
use Rattle.grammar.specs.Serving.Machine.Message.{message, CharState, char_start, char_step, escape_of, with_hex, unit, Want, lowest, highest}
use Rattle.grammar.specs.Serving.Machine.Message.CharState.{hex0, hex1, hex2, hex3, low_backslash, low_u, low0, low1, low2, low3, utf8}
use Rattle.grammar.proofs.Booleans.{within-is, within-below, within-above, within_out, Outside, Outside.below, Outside.above}
use Rattle.grammar.proofs.Strings.{hex-low}
use Rattle.grammar.proofs.StringsComplete.{step-low-backslash, step-low_u, step-backslash, step_u, step-escape, lead-one}
use Rattle.std.specs.Prelude.{Ok, Err}
use Rattle.strings.specs.declared.chars.Fault.{Fault}
use Rattle.strings.specs.Chars.{CharRead, Code, FaultAt, rest_at, next_at, char_at, hex_or, hex_at, HexAt, HexAt.no_digit, HexAt.one_digit, TwoDigits, TwoDigits.no_first, TwoDigits.no_second, TwoDigits.two_digits, utf8_at}
use Rattle.strings.proofs.Utf8.{more, utf8_at_lem}
use Rattle.strings.proofs.CharRuns.{stay-at, char_at_lem, bad-at, at-end, at-step, at-bad, at-char, at-stay, starts_at_lem}

-- a hexadecimal digit
digit_09 : (b : ℕ) → 48 ≤ b → b ≤ 57 → hex_digit b ≡ some (b - 48)
unfolding hex_digit
digit_09 b h g = simp (within-is 48 57 b h g)

digit_AF : (b : ℕ) → 65 ≤ b → b ≤ 70 → hex_digit b ≡ some (b - 65 + 10)
unfolding hex_digit
digit_AF b h g = simp (within-above 48 57 b (omega arith), within-is 65 70 b h g)

digit_af : (b : ℕ) → 97 ≤ b → b ≤ 102 → hex_digit b ≡ some (b - 97 + 10)
unfolding hex_digit
digit_af b h g = simp (within-above 48 57 b (omega arith), within-above 65 70 b (omega arith), within-is 97 102 b h g)

digit-none : (b : ℕ) → Outside 48 57 b → Outside 65 70 b → Outside 97 102 b → hex_digit b ≡ none
unfolding hex_digit
digit-none b x y z = simp (within_out 48 57 b x, within_out 65 70 b y, within_out 97 102 b z)

module _ (s : List ℕ) (i : ℕ) where
  pub hex-end : length s ≤ i → HexAt s i (FaultAt i)
  unfolding hex_at
  hex-end h = no_digit (simp (le-ltb i (length s) h) (omega arith))

  hex-is : i < length s → (x : ℕ) → hex_digit (get_or s i 0) ≡ some x → x ≡ hex_at s i
  unfolding hex_at
  hex-is h x e = simp (lt-ltb i (length s) h, e)

  pub hex-none : i < length s → Outside 48 57 (get_or s i 0) → Outside 65 70 (get_or s i 0) → Outside 97 102 (get_or s i 0) → HexAt s i (FaultAt i)
  unfolding hex_at
  hex-none h x y z = no_digit (simp (lt-ltb i (length s) h, digit-none _ x y z) (omega arith))

  hex_below : {x : ℕ} → hex_digit (get_or s i 0) ≡ some x → x ≤ 15
  hex_below e = omega (arith, hex-low _ _ e)

  hex-read : {r : ℕ} → i < length s → hex_digit (get_or s i 0) ≡ some r → HexAt s i (Ok r)
  hex-read {r} h e = one_digit (hex-is h r e) (hex_below e)

  pub hex_09 : i < length s → 48 ≤ get_or s i 0 → get_or s i 0 ≤ 57 → HexAt s i (Ok (get_or s i 0 - 48))
  hex_09 h f g = hex-read h (digit_09 (get_or s i 0) f g)

  pub hex_AF : i < length s → 65 ≤ get_or s i 0 → get_or s i 0 ≤ 70 → HexAt s i (Ok (get_or s i 0 - 55))
  hex_AF h f g = let k : get_or s i 0 - 55 ≡ get_or s i 0 - 65 + 10 = omega arith in rw k (hex-read h (digit_AF (get_or s i 0) f g))

  pub hex_af : i < length s → 97 ≤ get_or s i 0 → get_or s i 0 ≤ 102 → HexAt s i (Ok (get_or s i 0 - 87))
  hex_af h f g = let k : get_or s i 0 - 87 ≡ get_or s i 0 - 97 + 10 = omega arith in rw k (hex-read h (digit_af (get_or s i 0) f g))

  -- there is a digit, or there is none
  pub hex-there : hex_at s i ≤ 15 → i < length s
  unfolding hex_at
  hex-there h = go (ltb i (length s)) refl
    where
      go : (t : Bool) → ltb i (length s) ≡ t → i < length s
      go true e = ltb-true i (length s) e
      go false e = absurd (omega (arith, rw e at h))

  hex-value : i < length s → hex_at s i ≡ hex_or (hex_digit (get_or s i 0))
  unfolding hex_at
  hex-value h = simp (lt-ltb i (length s) h)

  hex_digit_lem : hex_at s i ≤ 15 → hex_digit (get_or s i 0) ≡ some (hex_at s i)
  hex_digit_lem h = go (hex_digit (get_or s i 0)) refl (hex-value (hex-there h))
    where
      go : (y : Option ℕ) → hex_digit (get_or s i 0) ≡ y → hex_at s i ≡ hex_or y → hex_digit (get_or s i 0) ≡ some (hex_at s i)
      go (some x) e f = cc
      go none e f = absurd (omega arith)

  hex_no : i < length s → 16 ≤ hex_at s i → hex_digit (get_or s i 0) ≡ none
  hex_no h g = go (hex_digit (get_or s i 0)) refl (hex-value h)
    where
      go : (y : Option ℕ) → hex_digit (get_or s i 0) ≡ y → hex_at s i ≡ hex_or y → hex_digit (get_or s i 0) ≡ none
      go (some x) e f = absurd (omega (arith, hex-low _ x e))
      go none e f = e

-- what a reader of a digit answered
pub record Digit (s : List ℕ) (i a : ℕ) : Type 0 where
  pub is : a ≡ hex_at s i
  pub below : a ≤ 15
  pub there : i < length s

pub digit-told : {s : List ℕ} {i a : ℕ} → HexAt s i (Ok a) → Digit s i a
digit-told {s} {i} (one_digit e h) = record { is = e; below = h; there = hex-there s i (omega arith) }

pub record NoDigit (s : List ℕ) (i : ℕ) (f : Fault) : Type 0 where
  pub here : ◌≡◌ {A = CharRead} (FaultAt i) (Err f)
  pub none : 16 ≤ hex_at s i

no_digit-told : {s : List ℕ} {i : ℕ} {f : Fault} → HexAt s i (Err f) → NoDigit s i f
no_digit-told (no_digit h) = record { here = refl; none = h }

-- two digits
module _ {s : List ℕ} {i v : ℕ} where
  pub first-missing : {f : Fault} → HexAt s i (Err f) → TwoDigits s i v (Err f)
  first-missing d = let k = no_digit-told d in rw (← k.here) (no_first k.none)

  pub second-missing : {a : ℕ} {f : Fault} → HexAt s i (Ok a) → HexAt s (i + 1) (Err f) → TwoDigits s i v (Err f)
  second-missing d g = let j = digit-told d in let k = no_digit-told g in rw (← k.here) (no_second (omega arith) k.none)

  pub both-digits : {a b : ℕ} → HexAt s i (Ok a) → HexAt s (i + 1) (Ok b) → TwoDigits s i v (Code ((v * 16 + a) * 16 + b) (i + 2))
  both-digits d g = let j = digit-told d in let k = digit-told g in rw (j.is, k.is) (two_digits (omega arith) (omega arith))

-- a state that wants a digit
pub record Wants (t : CharState) (f : ℕ → CharStep CharState) : Type 0 where
  pub step : (b : ℕ) → char_step t b ≡ with_hex (hex_digit b) f

module _ (s : List ℕ) (i : ℕ) {t : CharState} {f : ℕ → CharStep CharState} (w : Wants t f) where
  want_none : 16 ≤ hex_at s i → FaultAt i ≡ rest_at message t s i
  want_none h = go (dec_lt i (length s))
    where
      go : Dec (i < length s) → FaultAt i ≡ rest_at message t s i
      go (yes g) = at-bad message t s i g (w.step (get_or s i 0) ∙ rw (hex_no s i g h) refl)
      go (no g) = at-end message t s i (omega arith)

  want_one : hex_at s i ≤ 15 → next_at message (f (hex_at s i)) s i ≡ rest_at message t s i
  want_one h = at-step message t s i (f (hex_at s i)) (hex-there s i h) (w.step (get_or s i 0) ∙ rw (hex_digit_lem s i h) refl)

-- two digits, after those that make v, lead by way of other states to what g says of their number
pub record Leads (t : CharState) (v : ℕ) (g : ℕ → CharStep CharState) : Type 0 where
  pub through : ℕ → CharState
  pub first : Wants t (λ x. stay (through (v * 16 + x)))
  pub second : (w : ℕ) → Wants (through w) (λ y. g (w * 16 + y))

module _ {s : List ℕ} {i v : ℕ} {t : CharState} {g : ℕ → CharStep CharState} (L : Leads t v g) where
  pub digits-fault : {f : Fault} → TwoDigits s i v (Err f) → Err f ≡ rest_at message t s i
  digits-fault (no_first h) = want_none s i L.first h
  digits-fault (no_second h k) = want_none s (i + 1) (L.second _) k ∙ sym (stay-at message _ s i) ∙ want_one s i L.first h

  digits-code : {w e : ℕ} → TwoDigits s i v (Code w e) → next_at message (g w) s (i + 1) ≡ rest_at message t s i
  digits-code (two_digits h k) = want_one s (i + 1) (L.second _) k ∙ sym (stay-at message _ s i) ∙ want_one s i L.first h

pub record Digits (s : List ℕ) (i v w e : ℕ) : Type 0 where
  pub end : e ≡ i + 2
  pub within : e ≤ length s
  pub from : v * 256 ≤ w
  pub upto : w ≤ v * 256 + 255

pub digits-told : {s : List ℕ} {i v w e : ℕ} → TwoDigits s i v (Code w e) → Digits s i v w e
digits-told {s} {i} (two_digits h k) =
    let n = hex-there s (i + 1) k in record { end = refl; within = omega arith; from = omega arith; upto = omega arith }

-- the three pairs of digits: the first and the last of a `\u`, and the last of a low surrogate
abbrev after_first : ℕ → CharStep CharState
after_first w = cond (within 0xDC 0xDF w) bad (stay (hex2 w))

pub leads-first : Leads hex0 0 after_first
unfolding char_step
leads-first = record { through = λ w. hex1 w; first = record { step = λ b. go (hex_digit b) }; second = λ w. record { step = λ b. refl } }
  where
    go : (y : Option ℕ) → with_hex y (λ x. stay (hex1 x)) ≡ with_hex y (λ x. stay (hex1 (0 * 16 + x)))
    go (some x) = let k : x ≡ 0 * 16 + x = omega arith in ap (λ (n : ℕ). stay (hex1 n)) k
    go none = refl

pub leads-last : (v : ℕ) → Leads (hex2 v) v unit
unfolding char_step
leads-last v = record { through = λ w. hex3 w; first = record { step = λ b. refl }; second = λ w. record { step = λ b. refl } }

pub leads-low : (h v : ℕ) → Leads (low2 h v) v (λ w. char (0x10000 + (h - 0xD800) * 0x400 + (w - 0xDC00)))
unfolding char_step
leads-low h v = record { through = λ w. low3 h w; first = record { step = λ b. refl }; second = λ w. record { step = λ b. refl } }

module _ {s : List ℕ} {i v w e : ℕ} (d : TwoDigits s i v (Code w e)) where
  past : i + 1 + 1 ≡ e
  past = omega (arith, (digits-told d).end)

  char-past : {c : ℕ} → Code c e ≡ next_at message (char c) s (i + 1)
  char-past {c} = ap (λ (n : ℕ). Code c n) (sym past) ∙ sym (char_at_lem message c s (i + 1))

  stay-past : (u : CharState) → rest_at message u s e ≡ next_at message (stay u) s (i + 1)
  stay-past u = ap (λ (n : ℕ). rest_at message u s n) (sym past) ∙ sym (stay-at message u s (i + 1))

-- a step that goes by a test
choice : (y z : CharStep CharState) (s : List ℕ) (i : ℕ) {a b : Bool} → a ≡ b → next_at message (cond b y z) s i ≡ next_at message (cond a y z) s i
choice y z s i e = ap (λ (t : Bool). next_at message (cond t y z) s i) (sym e)

-- the first two digits of `\u`
module _ {s : List ℕ} {i v e : ℕ} (d : TwoDigits s i 0 (Code v e)) where
  pub low-start : 0xDC ≤ v → v ≤ 0xDF → FaultAt (i + 1) ≡ rest_at message hex0 s i
  low-start h g = sym (bad-at message s (i + 1)) ∙ choice bad (stay (hex2 v)) s (i + 1) (within-is 0xDC 0xDF v h g) ∙ digits-code leads-first d

  pub half : Outside 0xDC 0xDF v → rest_at message (hex2 v) s e ≡ rest_at message hex0 s i
  half h = stay-past d (hex2 v) ∙ choice bad (stay (hex2 v)) s (i + 1) (within_out 0xDC 0xDF v h) ∙ digits-code leads-first d

-- the last two
module _ {s : List ℕ} {i v w e : ℕ} (d : TwoDigits s i v (Code w e)) where
  pub high : 0xD800 ≤ w → w ≤ 0xDBFF → rest_at message (low_backslash w) s e ≡ rest_at message (hex2 v) s i
  high h g = stay-past d (low_backslash w) ∙ choice (stay (low_backslash w)) (char w) s (i + 1) (within-is 0xD800 0xDBFF w h g) ∙ digits-code (leads-last v) d

  pub alone : Outside 0xD800 0xDBFF w → Code w e ≡ rest_at message (hex2 v) s i
  alone h = char-past d ∙ choice (stay (low_backslash w)) (char w) s (i + 1) (within_out 0xD800 0xDBFF w h) ∙ digits-code (leads-last v) d

  -- of a low surrogate
  pub paired : (h : ℕ) → Code (0x10000 + (h - 0xD800) * 0x400 + (w - 0xDC00)) e ≡ rest_at message (low2 h v) s i
  paired h = char-past d ∙ digits-code (leads-low h v) d

-- a low surrogate up to its last two digits
wants_low0 : (h : ℕ) → Wants (low0 h) (λ d. cond (eqb d 0xD) (stay (low1 h)) bad)
unfolding char_step
wants_low0 h = record { step = λ b. refl }

wants_low1 : (h : ℕ) → Wants (low1 h) (λ d. cond (leb 0xC d) (stay (low2 h (0xD0 + d))) bad)
unfolding char_step
wants_low1 h = record { step = λ b. refl }

module _ {s : List ℕ} {i : ℕ} (h : ℕ) where
  pub low-missing : {f : Fault} → HexAt s i (Err f) → Err f ≡ rest_at message (low0 h) s i
  low-missing d = let k = no_digit-told d in sym k.here ∙ want_none s i (wants_low0 h) k.none

  module _ {a : ℕ} (d : HexAt s i (Ok a)) where
    pub low-other : (a ≡ 13 → ⊥) → FaultAt i ≡ rest_at message (low0 h) s i
    low-other n =
        let k = digit-told d in
        sym (bad-at message s i) ∙ choice _ _ s i (ne_eqb (hex_at s i) 13 (omega arith)) ∙ want_one s i (wants_low0 h) (omega arith)

    module _ (q : a ≡ 13) where
      low_D : rest_at message (low1 h) s (i + 1) ≡ rest_at message (low0 h) s i
      low_D =
          let k = digit-told d in
          sym (stay-at message (low1 h) s i) ∙ choice _ _ s i (eq-eqb (hex_at s i) 13 (omega arith)) ∙ want_one s i (wants_low0 h) (omega arith)

      pub low_D_missing : {f : Fault} → HexAt s (i + 1) (Err f) → Err f ≡ rest_at message (low0 h) s i
      low_D_missing g = let k = no_digit-told g in sym k.here ∙ want_none s (i + 1) (wants_low1 h) k.none ∙ low_D

      module _ {b : ℕ} (g : HexAt s (i + 1) (Ok b)) where
        pub low_D_below : b < 12 → FaultAt (i + 1) ≡ rest_at message (low0 h) s i
        low_D_below l =
            let k = digit-told g in
            sym (bad-at message s (i + 1)) ∙ choice _ _ s (i + 1) (lt-leb 12 (hex_at s (i + 1)) (omega arith))
            ∙ want_one s (i + 1) (wants_low1 h) (omega arith) ∙ low_D

        pub low-two : 12 ≤ b → rest_at message (low2 h (0xD0 + b)) s (i + 2) ≡ rest_at message (low0 h) s i
        low-two l =
            let j : i + 2 ≡ i + 1 + 1 = omega arith in
            let k = digit-told g in
            rw (j, k.is) (sym (stay-at message _ s (i + 1)) ∙ choice _ _ s (i + 1) (le-leb 12 (hex_at s (i + 1)) (omega arith))
            ∙ want_one s (i + 1) (wants_low1 h) (omega arith) ∙ low_D)

-- the escape before its digits
module _ (s : List ℕ) (i h : ℕ) (g : i < length s) where
  pub backslash-other : (get_or s i 0 ≡ code "\\" → ⊥) → FaultAt i ≡ rest_at message (low_backslash h) s i
  unfolding char_step
  backslash-other n = at-bad message (low_backslash h) s i g (simp (ne_eqb _ _ n))

  module _ (e : get_or s i 0 ≡ code "\\") where
    low-backslash_u : rest_at message (low_u h) s (i + 1) ≡ rest_at message (low_backslash h) s i
    low-backslash_u = at-stay message (low_backslash h) s i (low_u h) g (rw e (step-low-backslash h))

    pub backslash-end : length s ≤ i + 1 → FaultAt (i + 1) ≡ rest_at message (low_backslash h) s i
    backslash-end k = at-end message (low_u h) s (i + 1) k ∙ low-backslash_u

    pub no_letter_u : i + 1 < length s → (get_or s (i + 1) 0 ≡ code "u" → ⊥) → FaultAt (i + 1) ≡ rest_at message (low_backslash h) s i
    unfolding char_step
    no_letter_u k n = at-bad message (low_u h) s (i + 1) k (simp (ne_eqb _ _ n)) ∙ low-backslash_u

    pub letter_u : i + 1 < length s → get_or s (i + 1) 0 ≡ code "u" → rest_at message (low0 h) s (i + 2) ≡ rest_at message (low_backslash h) s i
    letter_u k f =
        let q : i + 2 ≡ i + 1 + 1 = omega arith in
        ap (λ (n : ℕ). rest_at message (low0 h) s n) q ∙ at-stay message (low_u h) s (i + 1) (low0 h) k (rw f (step-low_u h)) ∙ low-backslash_u

-- what follows a backslash
module _ (s : List ℕ) (i : ℕ) (g : i < length s) where
  pub escape_u : get_or s i 0 ≡ code "u" → rest_at message hex0 s (i + 1) ≡ rest_at message CharState.escape s i
  escape_u e = at-stay message CharState.escape s i hex0 g (rw e step_u)

  pub escape-char : {b c : ℕ} → Escape b c → get_or s i 0 ≡ b → Code c (i + 1) ≡ rest_at message CharState.escape s i
  escape-char {b} {c} x e = at-char message CharState.escape s i c g (rw e (step-escape x))

  -- none of the nine bytes
  pub escape-other : {b : ℕ} → b ≡ get_or s i 0 → (b ≡ 117 → ⊥) → (b ≡ 34 → ⊥) → (b ≡ 92 → ⊥) → (b ≡ 47 → ⊥) → (b ≡ 98 → ⊥) → (b ≡ 102 → ⊥) → (b ≡ 110 → ⊥) → (b ≡ 114 → ⊥)
      → (b ≡ 116 → ⊥) → FaultAt i ≡ rest_at message CharState.escape s i
  unfolding char_step escape_of
  escape-other {b} e u q r o h f n c t =
      at-bad message CharState.escape s i g (rw (← e) (simp (
        ne_eqb b 117 u,
        ne_eqb b 34 q,
        ne_eqb b 92 r,
        ne_eqb b 47 o,
        ne_eqb b 98 h,
        ne_eqb b 102 f,
        ne_eqb b 110 n,
        ne_eqb b 114 c,
        ne_eqb b 116 t,
      )))

-- the first byte of a character
start_none : (b : ℕ) → (b ≡ code "\\" → ⊥) → Outside 0x20 0x7F b → Outside 0xC2 0xF4 b → char_start b ≡ bad
unfolding char_start
start_none b n x (below h) =
    simp (
      ne_eqb b (code "\\") n,
      within_out 0x20 0x7F b x,
      within-below 0xC2 0xDF b h,
      ne_eqb b 0xE0 (omega arith),
      ne_eqb b 0xED (omega arith),
      within-below 0xE1 0xEF b (omega arith),
      ne_eqb b 0xF0 (omega arith),
      within-below 0xF1 0xF3 b (omega arith),
      ne_eqb b 0xF4 (omega arith),
    )
start_none b n x (above h) =
    simp (
      ne_eqb b (code "\\") n,
      within_out 0x20 0x7F b x,
      within-above 0xC2 0xDF b (omega arith),
      ne_eqb b 0xE0 (omega arith),
      ne_eqb b 0xED (omega arith),
      within-above 0xE1 0xEF b (omega arith),
      ne_eqb b 0xF0 (omega arith),
      within-above 0xF1 0xF3 b (omega arith),
      ne_eqb b 0xF4 (omega arith),
    )

module _ (s : List ℕ) (i : ℕ) (g : i < length s) where
  pub starts-escape : get_or s i 0 ≡ code "\\" → rest_at message CharState.escape s (i + 1) ≡ char_at message s i
  starts-escape e = sym (stay-at message CharState.escape s i) ∙ starts_at_lem message s i (stay CharState.escape) g (rw e refl) (rw e step-backslash)

  pub starts-control : get_or s i 0 < 0x20 → FaultAt i ≡ char_at message s i
  starts-control h =
      sym (bad-at message s i)
      ∙ starts_at_lem message s i bad g (ne_eqb (get_or s i 0) (code "\"") (omega arith)) (start_none (get_or s i 0) (omega arith) (below h) (below (omega arith)))

  pub starts-plain : {b : ℕ} → b ≡ get_or s i 0 → 0x20 ≤ b → b ≤ 0x7F → (b ≡ code "\"" → ⊥) → (b ≡ code "\\" → ⊥) → Code b (i + 1) ≡ char_at message s i
  starts-plain {b} e h k q n = sym (char_at_lem message b s i) ∙ starts_at_lem message s i (char b) g (rw (← e) (ne_eqb _ _ q)) (rw (← e) (lead-one b h k n))

  pub starts-utf8 : 0x80 ≤ get_or s i 0 → next_at message (char_start (get_or s i 0)) s i ≡ char_at message s i
  starts-utf8 h = starts_at_lem message s i (char_start (get_or s i 0)) g (ne_eqb (get_or s i 0) (code "\"") (omega arith)) refl

-- the lead byte of UTF-8
pub lead-none : (b : ℕ) (s : List ℕ) (i : ℕ) → 0x80 ≤ b → Outside 0xC2 0xF4 b → FaultAt i ≡ next_at message (char_start b) s i
lead-none b s i h x = sym (bad-at message s i) ∙ ap (λ (y : CharStep CharState). next_at message y s i) (sym (start_none b (omega arith) (above h) x))

pub lead-bytes : (n : Want) {v : ℕ} (s : List ℕ) (i : ℕ) {r b : ℕ} → r ≡ b → char_start r ≡ stay (utf8 n v)
    → utf8_at (suc (more n)) (lowest n) (highest n) v s (i + 1) ≡ next_at message (char_start b) s i
lead-bytes n {v} s i e f = utf8_at_lem n v s (i + 1) ∙ sym (stay-at message _ s i) ∙ ap (λ (y : CharStep CharState). next_at message y s i) (sym f ∙ ap char_start e)
