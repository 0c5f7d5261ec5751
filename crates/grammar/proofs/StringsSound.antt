-- The machine inside a character of a message string is sound: what it reads is a character of the grammar, with its code point.
-- From the last state back to the first: the digits of `\u`, a pair of them, and the bytes of UTF-8, where the state's ranges give those of the code point.
use Prim.Native.Nat.{ℕ, suc, ◌+◌, ◌*◌, ◌-◌, ◌≤◌}
use Prim.Native.Char.{code}
use native.Mathlib.Omega.{arith}
use mathlib.Core.Logic.{◌≢◌}
use mathlib.Core.Path.{◌≡◌, refl, ap, ◌∙◌}
use mathlib.Core.Bool.{Bool, true, false, cond}
use mathlib.Core.List.{List, ◌∷◌}
use mathlib.Core.Option.{Option, some}
use lib.Dec.{leb, eqb}
use borrow.Author.Tests.{leb-true, leb-false, eqb-true, eqb-false}
use Rattle.grammar.specs.Notation.{within}
use Rattle.grammar.specs.MessageText.{tail, join, Utf8, Utf8.one, Utf8.two, Utf8.three, Utf8.four, hex_digit, Hex4, Hex4.hex4, MessageChar, MessageChar.plain, MessageChar.escape, MessageChar.hex}
use Rattle.grammar.specs.MessageText.{MessageChar.hex_pair}
use Rattle.grammar.specs.Serving.Machine.{CharStep, CharStep.stay, CharStep.char, CharStep.bad}
use Rattle.grammar.specs.Serving.Machine.Message.{message, Want, Want.two_E0, Want.two_ED, Want.three_F0, Want.three_F4, lowest, highest, wanted, CharState, char_start, char_step}
use Rattle.grammar.specs.Serving.Machine.Message.{escape_of, with_hex, escaped, unit}
use Rattle.grammar.specs.Serving.Machine.Message.CharState.{hex0, hex1, hex2, hex3, low_backslash, low_u, low0, low1, low2, low3, utf8}
use Rattle.grammar.proofs.Booleans.{by, within-true, within-is, within-below, within-above, within-false, Outside, Outside.below, Outside.above}
use Rattle.grammar.proofs.TokenRuns.{CharRun, CharRun.char_whole, CharRun.char_on}
use Rattle.grammar.proofs.Strings.{unescaped-is, escape_of_lem, hex-low}

bad-run : {A : Type 0} {p q c : ℕ} {l r : List ℕ} → CharRun message bad p l q r c → A
bad-run = elim [ ]

-- one hexadecimal digit
record HexRun (b : ℕ) (f : ℕ → CharStep CharState) (p : ℕ) (l : List ℕ) (q : ℕ) (r : List ℕ) (c : ℕ) : Type 0 where
  value : ℕ
  hex : hex_digit b ≡ some value
  run : CharRun message (f value) p l q r c

hex-run : {p q c : ℕ} {l r : List ℕ} (b : ℕ) (f : ℕ → CharStep CharState) → CharRun message (with_hex (hex_digit b) f) p l q r c → HexRun b f p l q r c
hex-run {p} {q} {c} {l} {r} b f = go (hex_digit b) refl
  where
    go : (y : Option ℕ) → hex_digit b ≡ y → CharRun message (with_hex y f) p l q r c → HexRun b f p l q r c
    go (some d) e w = record { value = d; hex = e; run = w }
    go Option.none e w = bad-run w

-- the low surrogate after a high one h
data Low (h : ℕ) : ℕ → List ℕ → ℕ → List ℕ → ℕ → Type 0 where
  low : {o q w : ℕ} {m r : List ℕ} → Hex4 (suc (suc o)) m q r w → within 0xDC00 0xDFFF w ≡ true
      → Low h o (code "\\" ∷ code "u" ∷ m) q r (0x10000 + (h - 0xD800) * 0x400 + (w - 0xDC00))

low_range : (y z w : ℕ) → 12 ≤ y → y ≤ 15 → z ≤ 15 → w ≤ 15 → within 0xDC00 0xDFFF (((0xD0 + y) * 16 + z) * 16 + w) ≡ true
low_range y z w a b c d = within-is 0xDC00 0xDFFF (((0xD0 + y) * 16 + z) * 16 + w) (omega arith) (omega arith)

from_low3 : {o q a b e h y z c : ℕ} {l r : List ℕ} → hex_digit a ≡ some 13 → hex_digit b ≡ some y → 12 ≤ y → hex_digit e ≡ some z
    → CharRun message (stay (low3 h ((0xD0 + y) * 16 + z))) (suc (suc (suc (suc (suc o))))) l q r c → Low h o (code "\\" ∷ code "u" ∷ a ∷ b ∷ e ∷ l) q r c
unfolding char_step
from_low3 {a = a} {b = b} {e = e} {h = h} {y = y} {z = z} ea eb g ee (char_on {b = d} w) =
    go (hex-run d (λ d. char (0x10000 + (h - 0xD800) * 0x400 + (((0xD0 + y) * 16 + z) * 16 + d - 0xDC00))) w)
  where
    fin : {o q : ℕ} {l r : List ℕ} (v : ℕ) {c : ℕ} → hex_digit d ≡ some v
        → CharRun message (char (0x10000 + (h - 0xD800) * 0x400 + (((0xD0 + y) * 16 + z) * 16 + v - 0xDC00))) (suc (suc (suc (suc (suc (suc o)))))) l q r c
        → Low h o (code "\\" ∷ code "u" ∷ a ∷ b ∷ e ∷ d ∷ l) q r c
    fin v ed char_whole = low (hex4 ea eb ee ed) (low_range y z v g (hex-low b y eb) (hex-low e z ee) (hex-low d v ed))

    go : {o q c : ℕ} {l r : List ℕ}
        → HexRun d (λ d. char (0x10000 + (h - 0xD800) * 0x400 + (((0xD0 + y) * 16 + z) * 16 + d - 0xDC00))) (suc (suc (suc (suc (suc (suc o)))))) l q r c
        → Low h o (code "\\" ∷ code "u" ∷ a ∷ b ∷ e ∷ d ∷ l) q r c
    go x = fin x.value x.hex x.run

from_low2 : {o q a b h y c : ℕ} {l r : List ℕ} → hex_digit a ≡ some 13 → hex_digit b ≡ some y → 12 ≤ y
    → CharRun message (stay (low2 h (0xD0 + y))) (suc (suc (suc (suc o)))) l q r c → Low h o (code "\\" ∷ code "u" ∷ a ∷ b ∷ l) q r c
unfolding char_step
from_low2 {h = h} {y = y} ea eb g (char_on {b = e} w) = let x = hex-run e (λ d. stay (low3 h ((0xD0 + y) * 16 + d))) w in from_low3 ea eb g x.hex x.run

from_low1 : {o q a h c : ℕ} {l r : List ℕ} → hex_digit a ≡ some 13 → CharRun message (stay (low1 h)) (suc (suc (suc o))) l q r c → Low h o (code "\\" ∷ code "u" ∷ a ∷ l) q r c
unfolding char_step
from_low1 {o} {q} {a} {h} {c} ea (char_on {b = b} {l = l} {r = r} w) =
    let x = hex-run b (λ d. cond (leb 0xC d) (stay (low2 h (0xD0 + d))) bad) w in
    by (λ y. CharRun message y (suc (suc (suc (suc o)))) l q r c → Low h o (code "\\" ∷ code "u" ∷ a ∷ b ∷ l) q r c) (leb 0xC x.value)
    (λ t u. from_low2 ea x.hex (leb-true 0xC x.value t) u) (λ _ u. bad-run u) x.run

from_low0 : {o q h c : ℕ} {l r : List ℕ} → CharRun message (stay (low0 h)) (suc (suc o)) l q r c → Low h o (code "\\" ∷ code "u" ∷ l) q r c
unfolding char_step
from_low0 {o} {q} {h} {c} (char_on {b = a} {l = l} {r = r} w) =
    let x = hex-run a (λ d. cond (eqb d 0xD) (stay (low1 h)) bad) w in
    by (λ y. CharRun message y (suc (suc (suc o))) l q r c → Low h o (code "\\" ∷ code "u" ∷ a ∷ l) q r c) (eqb x.value 0xD)
    (λ t u. from_low1 (x.hex ∙ ap (λ (n : ℕ). some n) (eqb-true x.value 0xD t)) u) (λ _ u. bad-run u) x.run

from-low_u : {o q h c : ℕ} {l r : List ℕ} → CharRun message (stay (low_u h)) (suc o) l q r c → Low h o (code "\\" ∷ l) q r c
unfolding char_step
from-low_u {o} {q} {h} {c} (char_on {b = a} {l = l} {r = r} w) =
    by (λ y. CharRun message y (suc (suc o)) l q r c → Low h o (code "\\" ∷ a ∷ l) q r c) (eqb a (code "u"))
    (λ t u. rw (eqb-true a (code "u") t) (from_low0 u)) (λ _ u. bad-run u) w

from-low-backslash : {o q h c : ℕ} {l r : List ℕ} → CharRun message (stay (low_backslash h)) o l q r c → Low h o l q r c
unfolding char_step
from-low-backslash {o} {q} {h} {c} (char_on {b = a} {l = l} {r = r} w) =
    by (λ y. CharRun message y (suc o) l q r c → Low h o (a ∷ l) q r c) (eqb a (code "\\")) (λ t u. rw (eqb-true a (code "\\") t) (from-low_u u)) (λ _ u. bad-run u) w

-- the digits of `\u`: after the first two it is known that they begin no low surrogate
no_surrogate : (x y z w : ℕ) → x ≤ 15 → y ≤ 15 → z ≤ 15 → w ≤ 15 → within 0xDC 0xDF (x * 16 + y) ≡ false → within 0xD800 0xDBFF (((x * 16 + y) * 16 + z) * 16 + w) ≡ false
    → within 0xD800 0xDFFF (((x * 16 + y) * 16 + z) * 16 + w) ≡ false
no_surrogate x y z w a b c d e f = go (within-false 0xDC 0xDF (x * 16 + y) e) (within-false 0xD800 0xDBFF (((x * 16 + y) * 16 + z) * 16 + w) f)
  where
    go : Outside 0xDC 0xDF (x * 16 + y) → Outside 0xD800 0xDBFF (((x * 16 + y) * 16 + z) * 16 + w) → within 0xD800 0xDFFF (((x * 16 + y) * 16 + z) * 16 + w) ≡ false
    go o (below h) = within-below 0xD800 0xDFFF (((x * 16 + y) * 16 + z) * 16 + w) h
    go (below g) (above h) = absurd (omega arith)
    go (above g) (above h) = within-above 0xD800 0xDFFF (((x * 16 + y) * 16 + z) * 16 + w) (omega arith)

from_hex3 : {p q a b e x y z c : ℕ} {l r : List ℕ} → hex_digit a ≡ some x → hex_digit b ≡ some y → within 0xDC 0xDF (x * 16 + y) ≡ false → hex_digit e ≡ some z
    → CharRun message (stay (hex3 ((x * 16 + y) * 16 + z))) (suc (suc (suc (suc (suc p))))) l q r c → MessageChar p (code "\\" ∷ code "u" ∷ a ∷ b ∷ e ∷ l) q r c
unfolding char_step
from_hex3 {p} {q} {a} {b} {e} {x} {y} {z} {c} ea eb t ee (char_on {b = d} {l = l} {r = r} w) =
    let u = hex-run d (λ d. unit (((x * 16 + y) * 16 + z) * 16 + d)) w in
    by (λ k. CharRun message k (suc (suc (suc (suc (suc (suc p)))))) l q r c → MessageChar p (code "\\" ∷ code "u" ∷ a ∷ b ∷ e ∷ d ∷ l) q r c)
    (within 0xD800 0xDBFF (((x * 16 + y) * 16 + z) * 16 + u.value))
    (λ h k. high u.hex h (from-low-backslash k)) (λ h k. alone u.hex h k) u.run
  where
    high : {v p q c : ℕ} {l r : List ℕ} → hex_digit d ≡ some v → within 0xD800 0xDBFF (((x * 16 + y) * 16 + z) * 16 + v) ≡ true
        → Low (((x * 16 + y) * 16 + z) * 16 + v) (suc (suc (suc (suc (suc (suc p)))))) l q r c → MessageChar p (code "\\" ∷ code "u" ∷ a ∷ b ∷ e ∷ d ∷ l) q r c
    high ed h (low g i) = hex_pair (hex4 ea eb ee ed) h g i

    alone : {v p q c : ℕ} {l r : List ℕ} → hex_digit d ≡ some v → within 0xD800 0xDBFF (((x * 16 + y) * 16 + z) * 16 + v) ≡ false
        → CharRun message (char (((x * 16 + y) * 16 + z) * 16 + v)) (suc (suc (suc (suc (suc (suc p)))))) l q r c → MessageChar p (code "\\" ∷ code "u" ∷ a ∷ b ∷ e ∷ d ∷ l) q r c
    alone {v} ed h char_whole = hex (hex4 ea eb ee ed) (no_surrogate x y z v (hex-low a x ea) (hex-low b y eb) (hex-low e z ee) (hex-low d v ed) t h)

from_hex2 : {p q a b x y c : ℕ} {l r : List ℕ} → hex_digit a ≡ some x → hex_digit b ≡ some y → within 0xDC 0xDF (x * 16 + y) ≡ false
    → CharRun message (stay (hex2 (x * 16 + y))) (suc (suc (suc (suc p)))) l q r c → MessageChar p (code "\\" ∷ code "u" ∷ a ∷ b ∷ l) q r c
unfolding char_step
from_hex2 {x = x} {y = y} ea eb t (char_on {b = e} w) = let u = hex-run e (λ d. stay (hex3 ((x * 16 + y) * 16 + d))) w in from_hex3 ea eb t u.hex u.run

from_hex1 : {p q a x c : ℕ} {l r : List ℕ} → hex_digit a ≡ some x → CharRun message (stay (hex1 x)) (suc (suc (suc p))) l q r c → MessageChar p (code "\\" ∷ code "u" ∷ a ∷ l) q r c
unfolding char_step
from_hex1 {p} {q} {a} {x} {c} ea (char_on {b = b} {l = l} {r = r} w) =
    let u = hex-run b (λ d. cond (within 0xDC 0xDF (x * 16 + d)) bad (stay (hex2 (x * 16 + d)))) w in
    by (λ k. CharRun message k (suc (suc (suc (suc p)))) l q r c → MessageChar p (code "\\" ∷ code "u" ∷ a ∷ b ∷ l) q r c) (within 0xDC 0xDF (x * 16 + u.value))
    (λ _ k. bad-run k) (λ t k. from_hex2 ea u.hex t k) u.run

from-hex0 : {p q c : ℕ} {l r : List ℕ} → CharRun message (stay hex0) (suc (suc p)) l q r c → MessageChar p (code "\\" ∷ code "u" ∷ l) q r c
unfolding char_step
from-hex0 (char_on {b = a} w) = let u = hex-run a (λ d. stay (hex1 d)) w in from_hex1 u.hex u.run

from-escape : {p q c : ℕ} {l r : List ℕ} → CharRun message (stay CharState.escape) (suc p) l q r c → MessageChar p (code "\\" ∷ l) q r c
unfolding char_step
from-escape {p} {q} {c} (char_on {b = b} {l = l} {r = r} w) =
    by (λ k. CharRun message k (suc (suc p)) l q r c → MessageChar p (code "\\" ∷ b ∷ l) q r c) (eqb b (code "u"))
    (λ t k. rw (eqb-true b (code "u") t) (from-hex0 k)) (λ _ k. go (escape_of b) refl k) w
  where
    go : {p q c : ℕ} {l r : List ℕ} (y : Option ℕ) → escape_of b ≡ y → CharRun message (escaped y) (suc (suc p)) l q r c → MessageChar p (code "\\" ∷ b ∷ l) q r c
    go (some v) e char_whole = escape (escape_of_lem b v e)
    go Option.none e k = bad-run k

-- UTF-8: a byte that is wanted, the last byte, the last two
record WantedRun (n : Want) (v b p : ℕ) (l : List ℕ) (q : ℕ) (r : List ℕ) (c : ℕ) : Type 0 where
  from : lowest n ≤ b
  upto : b ≤ highest n
  run : CharRun message (wanted n (join v b)) p l q r c

wanted-run : {p q c b : ℕ} {l r : List ℕ} (n : Want) (v : ℕ) → CharRun message (char_step (utf8 n v) b) p l q r c → WantedRun n v b p l q r c
unfolding char_step
wanted-run {p} {q} {c} {b} {l} {r} n v =
    by (λ k. CharRun message k p l q r c → WantedRun n v b p l q r c) (within (lowest n) (highest n) b)
    (λ t w. let h = within-true (lowest n) (highest n) b t in record { from = h.0; upto = h.1; run = w }) (λ _ w. bad-run w)

data Last (v : ℕ) : ℕ → List ℕ → ℕ → List ℕ → ℕ → Type 0 where
  last : {p b : ℕ} {r : List ℕ} → tail b ≡ true → Last v p (b ∷ r) (suc p) r (join v b)

data LastTwo (v : ℕ) : ℕ → List ℕ → ℕ → List ℕ → ℕ → Type 0 where
  last_two : {p b c : ℕ} {r : List ℕ} → tail b ≡ true → tail c ≡ true → LastTwo v p (b ∷ c ∷ r) (suc (suc p)) r (join (join v b) c)

from_one : {v p q c : ℕ} {l r : List ℕ} → CharRun message (stay (utf8 Want.one v)) p l q r c → Last v p l q r c
from_one {v} (char_on {b = b} w) = go (wanted-run Want.one v w)
  where
    fin : {p q c : ℕ} {l r : List ℕ} → tail b ≡ true → CharRun message (char (join v b)) (suc p) l q r c → Last v p (b ∷ l) q r c
    fin t char_whole = last t

    go : {p q c : ℕ} {l r : List ℕ} → WantedRun Want.one v b (suc p) l q r c → Last v p (b ∷ l) q r c
    go x = fin (within-is 0x80 0xBF b x.from x.upto) x.run

from-two : {v p q c : ℕ} {l r : List ℕ} → CharRun message (stay (utf8 Want.two v)) p l q r c → LastTwo v p l q r c
from-two {v} (char_on {b = b} w) = go (wanted-run Want.two v w)
  where
    fin : {p q c : ℕ} {l r : List ℕ} → tail b ≡ true → Last (join v b) (suc p) l q r c → LastTwo v p (b ∷ l) q r c
    fin t (last u) = last_two t u

    go : {p q c : ℕ} {l r : List ℕ} → WantedRun Want.two v b (suc p) l q r c → LastTwo v p (b ∷ l) q r c
    go x = fin (within-is 0x80 0xBF b x.from x.upto) (from_one x.run)

-- a code point above 0x7F stands for itself
high-char : {p q c : ℕ} {l r : List ℕ} → Utf8 p l q r c → 0x80 ≤ c → c ≤ 0x10FFFF → MessageChar p l q r c
high-char {c = c} u h g = plain u (unescaped-is c (record { from = omega arith; upto = g; no_quote = omega arith; no_backslash = omega arith }))

-- two bytes; three and four, of which the first two make v
two-char : {p q : ℕ} {l r : List ℕ} (a : ℕ) {c : ℕ} → within 0xC2 0xDF a ≡ true → Last (a - 0xC0) (suc p) l q r c → MessageChar p (a ∷ l) q r c
two-char a t (last {b = b} u) =
    let h = within-true 0xC2 0xDF a t in let g = within-true 0x80 0xBF b u in
    high-char (two (within-is 0xC0 0xDF a (omega arith) h.1) u refl (within-is 0x80 0x7FF (join (a - 0xC0) b) (omega arith) (omega arith))) (omega arith) (omega arith)

three-char : {p q : ℕ} {l r : List ℕ} (a b v : ℕ) {c : ℕ} → within 0xE0 0xEF a ≡ true → tail b ≡ true → v ≡ join (a - 0xE0) b → 0x20 ≤ v → v ≤ 0x3FF → Outside 0x360 0x37F v
    → Last v (suc (suc p)) l q r c → MessageChar p (a ∷ b ∷ l) q r c
three-char a b v t u e h g n (last {b = c} w) =
    let i = within-true 0x80 0xBF c w in
    high-char (three t u w (ap (λ (v : ℕ). join v c) e) (within-is 0x800 0xFFFF (join v c) (omega arith) (omega arith)) (free n i.0 i.1)) (omega arith) (omega arith)
  where
    free : Outside 0x360 0x37F v → 0x80 ≤ c → c ≤ 0xBF → within 0xD800 0xDFFF (join v c) ≡ false
    free (below k) i j = within-below 0xD800 0xDFFF (join v c) (omega arith)
    free (above k) i j = within-above 0xD800 0xDFFF (join v c) (omega arith)

four-char : {p q : ℕ} {l r : List ℕ} (a b v : ℕ) {c : ℕ} → within 0xF0 0xF7 a ≡ true → tail b ≡ true → v ≡ join (a - 0xF0) b → 0x10 ≤ v → v ≤ 0x10F → LastTwo v (suc (suc p)) l q r c
    → MessageChar p (a ∷ b ∷ l) q r c
four-char a b v t u e h g (last_two {b = c} {c = d} w x) =
    let i = within-true 0x80 0xBF c w in let j = within-true 0x80 0xBF d x in
    high-char (four t u w x (ap (λ (v : ℕ). join (join v c) d) e) (within-is 0x10000 0x10FFFF (join (join v c) d) (omega arith) (omega arith))) (omega arith) (omega arith)

-- characters of three and four bytes, by the lead byte
lead_E0 : {p q c : ℕ} {l r : List ℕ} → CharRun message (stay (utf8 two_E0 0)) (suc p) l q r c → MessageChar p (0xE0 ∷ l) q r c
lead_E0 (char_on {b = b} w) =
    let x = wanted-run two_E0 0 w in let h = x.from in let g = x.upto in
    three-char 0xE0 b (join 0 b) refl (within-is 0x80 0xBF b (omega arith) g) refl (omega arith) (omega arith) (below (omega arith)) (from_one x.run)

lead_ED : {p q c : ℕ} {l r : List ℕ} → CharRun message (stay (utf8 two_ED 13)) (suc p) l q r c → MessageChar p (0xED ∷ l) q r c
lead_ED (char_on {b = b} w) =
    let x = wanted-run two_ED 13 w in let h = x.from in let g = x.upto in
    three-char 0xED b (join 13 b) refl (within-is 0x80 0xBF b h (omega arith)) refl (omega arith) (omega arith) (below (omega arith)) (from_one x.run)

lead_E : {p q c : ℕ} {l r : List ℕ} (a : ℕ) → 0xE1 ≤ a → a ≤ 0xEF → a ≢ 0xED → CharRun message (stay (utf8 Want.two (a - 0xE0))) (suc p) l q r c → MessageChar p (a ∷ l) q r c
lead_E a h g n (char_on {b = b} w) = go (wanted-run Want.two (a - 0xE0) w)
  where
    side : 0x80 ≤ b → b ≤ 0xBF → (y : Bool) → leb 0xEE a ≡ y → Outside 0x360 0x37F (join (a - 0xE0) b)
    side i j true e = above (omega (arith, leb-true 0xEE a e))
    side i j false e = below (omega (arith, leb-false 0xEE a e))

    go : {p q c : ℕ} {l r : List ℕ} → WantedRun Want.two (a - 0xE0) b (suc (suc p)) l q r c → MessageChar p (a ∷ b ∷ l) q r c
    go x =
        let i = x.from in let j = x.upto in
        three-char a b (join (a - 0xE0) b) (within-is 0xE0 0xEF a (omega arith) g) (within-is 0x80 0xBF b i j) refl (omega arith) (omega arith)
        (side i j (leb 0xEE a) refl) (from_one x.run)

lead_F0 : {p q c : ℕ} {l r : List ℕ} → CharRun message (stay (utf8 three_F0 0)) (suc p) l q r c → MessageChar p (0xF0 ∷ l) q r c
lead_F0 (char_on {b = b} w) =
    let x = wanted-run three_F0 0 w in let h = x.from in let g = x.upto in
    four-char 0xF0 b (join 0 b) refl (within-is 0x80 0xBF b (omega arith) g) refl (omega arith) (omega arith) (from-two x.run)

lead_F4 : {p q c : ℕ} {l r : List ℕ} → CharRun message (stay (utf8 three_F4 4)) (suc p) l q r c → MessageChar p (0xF4 ∷ l) q r c
lead_F4 (char_on {b = b} w) =
    let x = wanted-run three_F4 4 w in let h = x.from in let g = x.upto in
    four-char 0xF4 b (join 4 b) refl (within-is 0x80 0xBF b h (omega arith)) refl (omega arith) (omega arith) (from-two x.run)

lead_F : {p q c : ℕ} {l r : List ℕ} (a : ℕ) → 0xF1 ≤ a → a ≤ 0xF3 → CharRun message (stay (utf8 Want.three (a - 0xF0))) (suc p) l q r c → MessageChar p (a ∷ l) q r c
lead_F a h g (char_on {b = b} w) =
    let x = wanted-run Want.three (a - 0xF0) w in let i = x.from in let j = x.upto in
    four-char a b (join (a - 0xF0) b) (within-is 0xF0 0xF7 a (omega arith) (omega arith)) (within-is 0x80 0xBF b i j) refl (omega arith) (omega arith) (from-two x.run)

pub char-sound : {p q b c : ℕ} {l r : List ℕ} → eqb b (code "\"") ≡ false → CharRun message (char_start b) (suc p) l q r c → MessageChar p (b ∷ l) q r c
unfolding char_start
char-sound {p} {q} {b} {c} {l} {r} nq =
    let P : CharStep CharState → Type 0 = λ k. CharRun message k (suc p) l q r c → MessageChar p (b ∷ l) q r c in
    by P (eqb b (code "\\")) (λ t w. rw (eqb-true b (code "\\") t) (from-escape w))
    (λ nb. by P (within 0x20 0x7F b) (λ t w. ascii (eqb-false b (code "\"") nq) (eqb-false b (code "\\") nb) (within-true 0x20 0x7F b t) w)
    (λ _. by P (within 0xC2 0xDF b) (λ t w. two-char b t (from_one w))
    (λ _. by P (eqb b 0xE0) (λ t w. rw (eqb-true b 0xE0 t) (lead_E0 w))
    (λ _. by P (eqb b 0xED) (λ t w. rw (eqb-true b 0xED t) (lead_ED w))
    (λ n. by P (within 0xE1 0xEF b) (λ t w. let h = within-true 0xE1 0xEF b t in lead_E b h.0 h.1 (eqb-false b 0xED n) w)
    (λ _. by P (eqb b 0xF0) (λ t w. rw (eqb-true b 0xF0 t) (lead_F0 w))
    (λ _. by P (within 0xF1 0xF3 b) (λ t w. let h = within-true 0xF1 0xF3 b t in lead_F b h.0 h.1 w)
    (λ _. by P (eqb b 0xF4) (λ t w. rw (eqb-true b 0xF4 t) (lead_F4 w)) (λ _ w. bad-run w)))))))))
  where
    ascii : {p q c : ℕ} {l r : List ℕ} → b ≢ code "\"" → b ≢ code "\\" → (0x20 ≤ b) × (b ≤ 0x7F) → CharRun message (char b) (suc p) l q r c → MessageChar p (b ∷ l) q r c
    ascii f g h char_whole = plain (one (within-is 0 0x7F b (omega arith) h.1)) (unescaped-is b (record { from = h.0; upto = omega arith; no_quote = f; no_backslash = g }))
