-- Bytes as a terminal may have them, one after another, and how long they are.
use Prim.Native.Nat.{ℕ, ◌+◌, ◌-◌, ◌*◌, ◌/◌, ◌%◌, ◌≤◌, ◌<◌}
use Prim.Native.Char.{code}
use native.Mathlib.Numerals.{add-one}
use native.Mathlib.Omega.{arith}
use mathlib.Core.Path.{◌≡◌, refl, sym, ap, ◌∙◌}
use mathlib.Core.Bool.{Bool, true, false, cond, ◌&&◌}
use mathlib.Core.List.{List, [], ◌∷◌, ◌++◌, append_assoc, append-nil}
use lib.Dec.{leb, ltb}
use lib.ListN.{length, take, get_or, length-take, length-append}
use lib.Seq.{take-suc, take_all}
use borrow.Author.Tests.{lt-ltb, le-ltb, lt-leb, le-leb, ltb-true, ltb-false}
use Rattle.grammar.specs.Notation.{text}
use Rattle.grammar.specs.Limits.{name_bytes}
use Rattle.trees.specs.Escapes.{printable, shown_digit, hex_byte, shown_byte, shown_bytes, shown}
use Rattle.trees.specs.Serving.Rooms.{escape_bytes, shown_room}

pub low_digit : (d : ℕ) → d < 10 → shown_digit d ≡ code "0" + d
low_digit d h = rw (lt-ltb d 10 h) refl

pub high_digit : (d : ℕ) → 10 ≤ d → shown_digit d ≡ code "a" + (d - 10)
high_digit d h = rw (le-ltb d 10 h) refl

-- which bytes go out as they are
by_range : (b : ℕ) (t : Bool) → printable b ≡ t → shown_byte b ≡ cond t (b ∷ []) (hex_byte b)
unfolding shown_byte
by_range b t e = ap (λ (x : Bool). cond x (b ∷ []) (hex_byte b)) e

false_right : (t : Bool) → t && false ≡ false
false_right true = refl
false_right false = refl

hex_is : (b : ℕ) → b < 256 → hex_byte b ≡ code "\\" ∷ code "x" ∷ shown_digit (b / 16) ∷ shown_digit (b % 16) ∷ []
hex_is b h = let e : b / 16 % 16 ≡ b / 16 = omega arith in ap (λ (d : ℕ). code "\\" ∷ code "x" ∷ shown_digit d ∷ shown_digit (b % 16) ∷ []) e

pub low_byte : (b : ℕ) → b < 32 → shown_byte b ≡ code "\\" ∷ code "x" ∷ shown_digit (b / 16) ∷ shown_digit (b % 16) ∷ []
low_byte b h = by_range b false (ap (λ (t : Bool). t && leb b 126) (lt-leb 32 b h)) ∙ hex_is b (omega arith)

-- any number above, also one that is no byte
pub above_range : (b : ℕ) → 126 < b → hex_byte b ≡ shown_byte b
above_range b h = sym (by_range b false (ap (λ (t : Bool). leb 32 b && t) (lt-leb b 126 h) ∙ false_right (leb 32 b)))

pub high_byte : (b : ℕ) → 126 < b → b < 256 → shown_byte b ≡ code "\\" ∷ code "x" ∷ shown_digit (b / 16) ∷ shown_digit (b % 16) ∷ []
high_byte b h k = sym (above_range b h) ∙ hex_is b k

pub plain_byte : (b : ℕ) → 32 ≤ b → b ≤ 126 → shown_byte b ≡ b ∷ []
plain_byte b h k = by_range b true (ap (λ (t : Bool). t && leb b 126) (le-leb 32 b h) ∙ le-leb b 126 k)

cond_length : (t : Bool) (b : ℕ) → length (cond t (b ∷ []) (hex_byte b)) ≤ escape_bytes
cond_length true b = omega arith
cond_length false b = omega arith

pub byte_length : (b : ℕ) → length (shown_byte b) ≤ escape_bytes
byte_length b = rw (by_range b (printable b) refl) (cond_length (printable b) b)

-- byte by byte
pub shown-append : (xs ys : List ℕ) → shown_bytes (xs ++ ys) ≡ shown_bytes xs ++ shown_bytes ys
unfolding shown_bytes
shown-append [] ys = refl
shown-append (b ∷ xs) ys = ap (λ (l : List ℕ). shown_byte b ++ l) (shown-append xs ys) ∙ sym (append_assoc (shown_byte b) (shown_bytes xs) (shown_bytes ys))

pub shown_one : (b : ℕ) → shown_bytes (b ∷ []) ≡ shown_byte b
unfolding shown_bytes
shown_one b = append-nil (shown_byte b)

pub shown_none : shown_bytes [] ≡ []
unfolding shown_bytes
shown_none = refl

pub shown_next : (bs : List ℕ) (i : ℕ) → i < length bs → shown_bytes (take (i + 1) bs) ≡ shown_bytes (take i bs) ++ shown_byte (get_or bs i 0)
shown_next bs i h =
    ap shown_bytes (ap (λ (n : ℕ). take n bs) (add-one i) ∙ take-suc bs i 0 h) ∙ shown-append (take i bs) (get_or bs i 0 ∷ []) ∙ ap (λ (l : List ℕ). shown_bytes (take i bs) ++ l) (shown_one (get_or bs i 0))

pub each_length : (bs : List ℕ) → length (shown_bytes bs) ≤ escape_bytes * length bs
unfolding shown_bytes
each_length [] = omega arith
each_length (b ∷ bs) = omega (arith, length-append (shown_byte b) (shown_bytes bs), byte_length b, each_length bs)

-- cut, with dots or without
by_length : (bs : List ℕ) (t : Bool) → ltb name_bytes (length bs) ≡ t → shown bs ≡ shown_bytes (take name_bytes bs) ++ cond t (text "...") []
unfolding shown
by_length bs t e = ap (λ (x : Bool). shown_bytes (take name_bytes bs) ++ cond x (text "...") []) e

pub shown_long : (bs : List ℕ) → name_bytes < length bs → shown bs ≡ shown_bytes (take name_bytes bs) ++ text "..."
shown_long bs h = by_length bs true (lt-ltb name_bytes (length bs) h)

pub shown_short : (bs : List ℕ) → length bs ≤ name_bytes → shown bs ≡ shown_bytes bs
shown_short bs h = by_length bs false (le-ltb name_bytes (length bs) h) ∙ append-nil (shown_bytes (take name_bytes bs)) ∙ ap shown_bytes (take_all name_bytes bs h)

dots_length : (t : Bool) → length (cond t (text "...") []) ≤ 3
dots_length true = omega arith
dots_length false = omega arith

pub shown_length : (bs : List ℕ) → length (shown bs) ≤ shown_room
shown_length bs =
    let t = ltb name_bytes (length bs) in
    let k : length (take name_bytes bs) ≤ name_bytes = simp length-take (omega arith) in
    rw (by_length bs t refl) (omega (arith, length-append (shown_bytes (take name_bytes bs)) (cond t (text "...") []), each_length (take name_bytes bs), dots_length t, k))
