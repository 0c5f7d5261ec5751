-- The machine inside a character of a message string is complete: each character of the grammar is a run of it.
-- A run is put together from single turns; the ranges of a code point give those of each byte that the states ask for.
use Prim.Native.Nat.{ℕ, suc, ◌+◌, ◌*◌, ◌-◌, ◌≤◌}
use Prim.Native.Char.{code}
use native.Mathlib.Omega.{arith}
use mathlib.Core.Logic.{◌≢◌}
use mathlib.Core.Path.{◌≡◌, refl, ap, ◌∙◌}
use mathlib.Core.Bool.{Bool, true, false}
use mathlib.Core.List.{List, ◌∷◌}
use mathlib.Core.Option.{some}
use lib.Dec.{eqb}
use borrow.Author.Tests.{le-leb, eqb-true, eqb-false, ne_eqb}
use Rattle.grammar.specs.Notation.{within}
use Rattle.grammar.specs.MessageText.{join, Utf8, Utf8.one, Utf8.two, Utf8.three, Utf8.four, Escape, hex_digit, Hex4, Hex4.hex4, MessageChar, MessageChar.plain, MessageChar.escape, MessageChar.hex}
use Rattle.grammar.specs.MessageText.{MessageChar.hex_pair}
use Rattle.grammar.specs.Serving.Machine.{CharStep, CharStep.stay, CharStep.char}
use Rattle.grammar.specs.Serving.Machine.Message.{message, Want, Want.two_E0, Want.two_ED, Want.three_F0, Want.three_F4, lowest, highest, wanted, CharState, char_start, char_step}
use Rattle.grammar.specs.Serving.Machine.Message.CharState.{hex0, hex1, hex2, hex3, low_backslash, low_u, low0, low1, low2, low3, utf8}
use Rattle.grammar.proofs.Booleans.{within-true, within-is, within-below, within-above, within-false, Outside, Outside.below, Outside.above}
use Rattle.grammar.proofs.TokenRuns.{CharRun, CharRun.char_whole, CharRun.char_on, CharStarts, CharStarts.char_starts}
use Rattle.grammar.proofs.Strings.{Unescaped, unescaped-true, escape-is, escape_no_u, hex-low}

-- one byte inside a character, and its first byte
turn : {s : CharState} {y : CharStep CharState} {p q b c : ℕ} {l r : List ℕ} → char_step s b ≡ y → CharRun message y (suc p) l q r c → CharRun message (stay s) p (b ∷ l) q r c
turn {s} {y} {p} {q} {b} {c} {l} {r} e w = let z : CharRun message (char_step s b) (suc p) l q r c = rw e w in char_on z

first : {y : CharStep CharState} {p q b c : ℕ} {l r : List ℕ} → eqb b (code "\"") ≡ false → char_start b ≡ y → CharRun message y (suc p) l q r c → CharStarts message p (b ∷ l) q r c
first {y} {p} {q} {b} {c} {l} {r} t e w = let z : CharRun message (char_start b) (suc p) l q r c = rw e w in char_starts t z

-- the steps
module _ (b : ℕ) {x : ℕ} (e : hex_digit b ≡ some x) where
  step-hex0 : char_step hex0 b ≡ stay (hex1 x)
  unfolding char_step
  step-hex0 = simp e

  step_hex1 : (v : ℕ) → within 0xDC 0xDF (v * 16 + x) ≡ false → char_step (hex1 v) b ≡ stay (hex2 (v * 16 + x))
  unfolding char_step
  step_hex1 v t = simp (e, t)

  step_hex2 : (v : ℕ) → char_step (hex2 v) b ≡ stay (hex3 (v * 16 + x))
  unfolding char_step
  step_hex2 v = simp e

  step_hex3_char : (v : ℕ) → within 0xD800 0xDBFF (v * 16 + x) ≡ false → char_step (hex3 v) b ≡ char (v * 16 + x)
  unfolding char_step
  step_hex3_char v t = simp (e, t)

  step_hex3_high : (v : ℕ) → within 0xD800 0xDBFF (v * 16 + x) ≡ true → char_step (hex3 v) b ≡ stay (low_backslash (v * 16 + x))
  unfolding char_step
  step_hex3_high v t = simp (e, t)

  step_low1 : (h : ℕ) → 12 ≤ x → char_step (low1 h) b ≡ stay (low2 h (0xD0 + x))
  unfolding char_step
  step_low1 h g = simp (e, le-leb _ _ g)

  step_low2 : (h v : ℕ) → char_step (low2 h v) b ≡ stay (low3 h (v * 16 + x))
  unfolding char_step
  step_low2 h v = simp e

  step_low3 : (h v : ℕ) → char_step (low3 h v) b ≡ char (0x10000 + (h - 0xD800) * 0x400 + (v * 16 + x - 0xDC00))
  unfolding char_step
  step_low3 h v = simp e

step_low0 : (b : ℕ) → hex_digit b ≡ some 13 → (h : ℕ) → char_step (low0 h) b ≡ stay (low1 h)
unfolding char_step
step_low0 b e h = simp e

pub step-low-backslash : (h : ℕ) → char_step (low_backslash h) (code "\\") ≡ stay (low_u h)
unfolding char_step
step-low-backslash h = refl

pub step-low_u : (h : ℕ) → char_step (low_u h) (code "u") ≡ stay (low0 h)
unfolding char_step
step-low_u h = refl

pub step-backslash : char_start (code "\\") ≡ stay CharState.escape
unfolding char_start
step-backslash = refl

pub step_u : char_step CharState.escape (code "u") ≡ stay hex0
unfolding char_step
step_u = refl

pub step-escape : {b c : ℕ} → Escape b c → char_step CharState.escape b ≡ char c
unfolding char_step
step-escape e = simp (escape_no_u e, escape-is e)

step-utf8 : (n : Want) (v b : ℕ) → lowest n ≤ b → b ≤ highest n → char_step (utf8 n v) b ≡ wanted n (join v b)
unfolding char_step
step-utf8 n v b h g = simp (within-is (lowest n) (highest n) b h g)

-- what four digits say of the first two
not-low-start : (x y z w : ℕ) → x ≤ 15 → y ≤ 15 → z ≤ 15 → w ≤ 15 → within 0xD800 0xDFFF (((x * 16 + y) * 16 + z) * 16 + w) ≡ false → within 0xDC 0xDF (x * 16 + y) ≡ false
not-low-start x y z w a b c d e = go (within-false 0xD800 0xDFFF (((x * 16 + y) * 16 + z) * 16 + w) e)
  where
    go : Outside 0xD800 0xDFFF (((x * 16 + y) * 16 + z) * 16 + w) → within 0xDC 0xDF (x * 16 + y) ≡ false
    go (below h) = within-below 0xDC 0xDF (x * 16 + y) (omega arith)
    go (above h) = within-above 0xDC 0xDF (x * 16 + y) (omega arith)

not-high : (v : ℕ) → within 0xD800 0xDFFF v ≡ false → within 0xD800 0xDBFF v ≡ false
not-high v e = go (within-false 0xD800 0xDFFF v e)
  where
    go : Outside 0xD800 0xDFFF v → within 0xD800 0xDBFF v ≡ false
    go (below h) = within-below 0xD800 0xDBFF v h
    go (above h) = within-above 0xD800 0xDBFF v (omega arith)

high-start : (x y z w : ℕ) → x ≤ 15 → y ≤ 15 → z ≤ 15 → w ≤ 15 → within 0xD800 0xDBFF (((x * 16 + y) * 16 + z) * 16 + w) ≡ true → within 0xDC 0xDF (x * 16 + y) ≡ false
high-start x y z w a b c d e = let h = within-true 0xD800 0xDBFF (((x * 16 + y) * 16 + z) * 16 + w) e in within-below 0xDC 0xDF (x * 16 + y) (omega arith)

low-start : (x y z w : ℕ) → x ≤ 15 → y ≤ 15 → z ≤ 15 → w ≤ 15 → within 0xDC00 0xDFFF (((x * 16 + y) * 16 + z) * 16 + w) ≡ true → (x ≡ 13) × (12 ≤ y)
low-start x y z w a b c d e = let h = within-true 0xDC00 0xDFFF (((x * 16 + y) * 16 + z) * 16 + w) e in (omega arith, omega arith)

-- the runs of `\u`
low_run : {h o q w : ℕ} {m r : List ℕ} → Hex4 (suc (suc o)) m q r w → within 0xDC00 0xDFFF w ≡ true
    → CharRun message (stay (low_backslash h)) o (code "\\" ∷ code "u" ∷ m) q r (0x10000 + (h - 0xD800) * 0x400 + (w - 0xDC00))
low_run {h} (hex4 {a = a} {b = b} {c = c} {d = d} {x = x} {y = y} {z = z} {w = w} ea eb ec ed) t =
    let f = low-start x y z w (hex-low a x ea) (hex-low b y eb) (hex-low c z ec) (hex-low d w ed) t in go x f.0 f.1 ea
  where
    go : {o : ℕ} {r : List ℕ} (x : ℕ) → x ≡ 13 → 12 ≤ y → hex_digit a ≡ some x
        → CharRun message (stay (low_backslash h)) o (code "\\" ∷ code "u" ∷ a ∷ b ∷ c ∷ d ∷ r) (suc (suc (suc (suc (suc (suc o)))))) r
        (0x10000 + (h - 0xD800) * 0x400 + ((((x * 16 + y) * 16 + z) * 16 + w) - 0xDC00))
    go x e g ea =
        rw e (turn (step-low-backslash h) (turn (step-low_u h) (turn (step_low0 a (ea ∙ ap (λ (n : ℕ). some n) e) h)
        (turn (step_low1 b eb h g) (turn (step_low2 c ec h (0xD0 + y)) (turn (step_low3 d ed h ((0xD0 + y) * 16 + z)) char_whole))))))

hex-run : {p q v : ℕ} {l r : List ℕ} → Hex4 (suc (suc p)) l q r v → within 0xD800 0xDFFF v ≡ false → CharRun message (stay CharState.escape) (suc p) (code "u" ∷ l) q r v
hex-run (hex4 {a = a} {b = b} {c = c} {d = d} {x = x} {y = y} {z = z} {w = w} ea eb ec ed) t =
    turn step_u (turn (step-hex0 a ea) (turn (step_hex1 b eb x (not-low-start x y z w (hex-low a x ea) (hex-low b y eb) (hex-low c z ec) (hex-low d w ed) t))
    (turn (step_hex2 c ec (x * 16 + y)) (turn (step_hex3_char d ed ((x * 16 + y) * 16 + z) (not-high (((x * 16 + y) * 16 + z) * 16 + w) t)) char_whole))))

pair-run : {p o q h v : ℕ} {l m r : List ℕ} → Hex4 (suc (suc p)) l o m h → within 0xD800 0xDBFF h ≡ true → CharRun message (stay (low_backslash h)) o m q r v
    → CharRun message (stay CharState.escape) (suc p) (code "u" ∷ l) q r v
pair-run (hex4 {a = a} {b = b} {c = c} {d = d} {x = x} {y = y} {z = z} {w = w} ea eb ec ed) t k =
    turn step_u (turn (step-hex0 a ea) (turn (step_hex1 b eb x (high-start x y z w (hex-low a x ea) (hex-low b y eb) (hex-low c z ec) (hex-low d w ed) t))
    (turn (step_hex2 c ec (x * 16 + y)) (turn (step_hex3_high d ed ((x * 16 + y) * 16 + z) t) k))))

-- the first byte of a code point
pub lead-one : (b : ℕ) → 0x20 ≤ b → b ≤ 0x7F → b ≢ code "\\" → char_start b ≡ char b
unfolding char_start
lead-one b h g n = simp (ne_eqb b (code "\\") n, within-is 0x20 0x7F b h g)

pub lead-two : (a : ℕ) → 0xC2 ≤ a → a ≤ 0xDF → char_start a ≡ stay (utf8 Want.one (a - 0xC0))
unfolding char_start
lead-two a h g = simp (ne_eqb a (code "\\") (omega arith), within-above 0x20 0x7F a (omega arith), within-is 0xC2 0xDF a h g)

pub lead-three : (a : ℕ) → 0xE1 ≤ a → a ≤ 0xEF → a ≢ 0xED → char_start a ≡ stay (utf8 Want.two (a - 0xE0))
unfolding char_start
lead-three a h g n =
    simp (
      ne_eqb a (code "\\") (omega arith),
      within-above 0x20 0x7F a (omega arith),
      within-above 0xC2 0xDF a (omega arith),
      ne_eqb a 0xE0 (omega arith),
      ne_eqb a 0xED n,
      within-is 0xE1 0xEF a h g,
    )

pub lead-four : (a : ℕ) → 0xF1 ≤ a → a ≤ 0xF3 → char_start a ≡ stay (utf8 Want.three (a - 0xF0))
unfolding char_start
lead-four a h g =
    simp (
      ne_eqb a (code "\\") (omega arith),
      within-above 0x20 0x7F a (omega arith),
      within-above 0xC2 0xDF a (omega arith),
      ne_eqb a 0xE0 (omega arith),
      ne_eqb a 0xED (omega arith),
      within-above 0xE1 0xEF a (omega arith),
      ne_eqb a 0xF0 (omega arith),
      within-is 0xF1 0xF3 a h g,
    )

pub lead_E0 : char_start 0xE0 ≡ stay (utf8 two_E0 0)
unfolding char_start
lead_E0 = refl

pub lead_ED : char_start 0xED ≡ stay (utf8 two_ED 13)
unfolding char_start
lead_ED = refl

pub lead_F0 : char_start 0xF0 ≡ stay (utf8 three_F0 0)
unfolding char_start
lead_F0 = refl

pub lead_F4 : char_start 0xF4 ≡ stay (utf8 three_F4 4)
unfolding char_start
lead_F4 = refl

-- a number from low to high
record In (low high b : ℕ) : Type 0 where
  from : low ≤ b
  upto : b ≤ high

in_range_lem : {low high b : ℕ} → within low high b ≡ true → In low high b
in_range_lem {low} {high} {b} t = let h = within-true low high b t in record { from = h.0; upto = h.1 }

two_run : {p : ℕ} {r : List ℕ} (a b : ℕ) → In 0xC0 0xDF a → In 0x80 0xBF b → In 0x80 0x7FF (join (a - 0xC0) b)
    → CharStarts message p (a ∷ b ∷ r) (suc (suc p)) r (join (a - 0xC0) b)
two_run a b ha hb hv =
    first (ne_eqb a (code "\"") (omega (arith, ha.from))) (lead-two a (omega (arith, hv.from, hb.upto)) ha.upto)
    (turn (step-utf8 Want.one (a - 0xC0) b hb.from hb.upto) char_whole)

three-run : {p : ℕ} {r : List ℕ} (a b c : ℕ) → In 0xE0 0xEF a → In 0x80 0xBF b → In 0x80 0xBF c → In 0x800 0xFFFF (join (join (a - 0xE0) b) c)
    → Outside 0xD800 0xDFFF (join (join (a - 0xE0) b) c)
    → CharStarts message p (a ∷ b ∷ c ∷ r) (suc (suc (suc p))) r (join (join (a - 0xE0) b) c)
three-run {p} {r} a b c ha hb hc hv o = go (eqb a 0xE0) refl
  where
    last : (v : ℕ) → CharRun message (stay (utf8 Want.one v)) (suc (suc p)) (c ∷ r) (suc (suc (suc p))) r (join v c)
    last v = turn (step-utf8 Want.one v c hc.from hc.upto) char_whole

    below_A0 : Outside 0xD800 0xDFFF (join (join (a - 0xE0) b) c) → a ≡ 0xED → b ≤ 0x9F
    below_A0 (below h) e = omega (arith, hb.from, hc.from)
    below_A0 (above h) e = absurd (omega (arith, hb.upto, hc.upto))

    go2 : (y : Bool) → eqb a 0xED ≡ y → a ≢ 0xE0 → CharStarts message p (a ∷ b ∷ c ∷ r) (suc (suc (suc p))) r (join (join (a - 0xE0) b) c)
    go2 true e n = let i : b ≤ 0x9F = below_A0 o (eqb-true a 0xED e) in rw (eqb-true a 0xED e) (first refl lead_ED (turn (step-utf8 two_ED 13 b hb.from i) (last (join 13 b))))
    go2 false e n =
        let h = ha.from in
        first (ne_eqb a (code "\"") (omega arith)) (lead-three a (omega arith) ha.upto (eqb-false a 0xED e))
        (turn (step-utf8 Want.two (a - 0xE0) b hb.from hb.upto) (last (join (a - 0xE0) b)))

    go : (y : Bool) → eqb a 0xE0 ≡ y → CharStarts message p (a ∷ b ∷ c ∷ r) (suc (suc (suc p))) r (join (join (a - 0xE0) b) c)
    go true e =
        let d = eqb-true a 0xE0 e in
        let i : 0xA0 ≤ b = omega (arith, hv.from, hb.from, hc.upto) in
        rw d (first refl lead_E0 (turn (step-utf8 two_E0 0 b i hb.upto) (last (join 0 b))))
    go false e = go2 (eqb a 0xED) refl (eqb-false a 0xE0 e)

four-run : {p : ℕ} {r : List ℕ} (a b c d : ℕ) → In 0xF0 0xF7 a → In 0x80 0xBF b → In 0x80 0xBF c → In 0x80 0xBF d → In 0x10000 0x10FFFF (join (join (join (a - 0xF0) b) c) d)
    → CharStarts message p (a ∷ b ∷ c ∷ d ∷ r) (suc (suc (suc (suc p)))) r (join (join (join (a - 0xF0) b) c) d)
four-run {p} {r} a b c d ha hb hc hd hv = go (eqb a 0xF0) refl
  where
    last : (v : ℕ) → CharRun message (stay (utf8 Want.two v)) (suc (suc p)) (c ∷ d ∷ r) (suc (suc (suc (suc p)))) r (join (join v c) d)
    last v = turn (step-utf8 Want.two v c hc.from hc.upto) (turn (step-utf8 Want.one (join v c) d hd.from hd.upto) char_whole)

    go2 : (y : Bool) → eqb a 0xF4 ≡ y → a ≢ 0xF0 → CharStarts message p (a ∷ b ∷ c ∷ d ∷ r) (suc (suc (suc (suc p)))) r (join (join (join (a - 0xF0) b) c) d)
    go2 true e n =
        let m = eqb-true a 0xF4 e in
        let i : b ≤ 0x8F = omega (arith, hv.upto, hb.from, hc.from, hd.from) in
        rw m (first refl lead_F4 (turn (step-utf8 three_F4 4 b hb.from i) (last (join 4 b))))
    go2 false e n =
        let m = eqb-false a 0xF4 e in
        let h = ha.from in
        let i : a ≤ 0xF3 = omega (arith, hv.upto, hb.from, hc.from, hd.from) in
        first (ne_eqb a (code "\"") (omega arith)) (lead-four a (omega arith) i) (turn (step-utf8 Want.three (a - 0xF0) b hb.from hb.upto) (last (join (a - 0xF0) b)))

    go : (y : Bool) → eqb a 0xF0 ≡ y → CharStarts message p (a ∷ b ∷ c ∷ d ∷ r) (suc (suc (suc (suc p)))) r (join (join (join (a - 0xF0) b) c) d)
    go true e =
        let m = eqb-true a 0xF0 e in
        let i : 0x90 ≤ b = omega (arith, hv.from, hb.from, hc.upto, hd.upto) in
        rw m (first refl lead_F0 (turn (step-utf8 three_F0 0 b i hb.upto) (last (join 0 b))))
    go false e = go2 (eqb a 0xF4) refl (eqb-false a 0xF0 e)

plain-run : {p q c : ℕ} {l r : List ℕ} → Utf8 p l q r c → Unescaped c → CharStarts message p l q r c
plain-run (one {a = a} t) u = first (ne_eqb a (code "\"") u.no_quote) (lead-one a u.from (in_range_lem t).upto u.no_backslash) char_whole
plain-run (two {a = a} {b = b} t u e v) n = rw e (two_run a b (in_range_lem t) (in_range_lem u) (in_range_lem (rw e at v)))
plain-run (three {a = a} {b = b} {c = c} t u w e v s) n = rw e (three-run a b c (in_range_lem t) (in_range_lem u) (in_range_lem w) (in_range_lem (rw e at v)) (within-false _ _ _ (rw e at s)))
plain-run (four {a = a} {b = b} {c = c} {d = d} t u w x e v) n = rw e (four-run a b c d (in_range_lem t) (in_range_lem u) (in_range_lem w) (in_range_lem x) (in_range_lem (rw e at v)))

pub char-complete : {p q c : ℕ} {l r : List ℕ} → MessageChar p l q r c → CharStarts message p l q r c
char-complete (plain {c = c} w u) = plain-run w (unescaped-true c u)
char-complete (escape e) = first refl step-backslash (turn (step-escape e) char_whole)
char-complete (hex w t) = first refl step-backslash (hex-run w t)
char-complete (hex_pair w t v u) = first refl step-backslash (pair-run w t (low_run v u))
