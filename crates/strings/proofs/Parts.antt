-- Parts of texts: a byte of one, its length, and the whole of two.
use Prim.Native.Nat.{ℕ, ◌+◌, ◌≤◌, ◌<◌}
use native.Mathlib.Omega.{arith}
use mathlib.Core.Path.{◌≡◌, ap, ◌∙◌}
use mathlib.Core.List.{List}
use lib.ListN.{length, get_or, take, drop, length-take, length-drop}
use lib.Seq.{get_or-take, get_or-drop, take-length}
use Rattle.grammar.specs.Notation.{same}
use Rattle.strings.specs.Bytes.{same_parts}

pub part-byte : (s : List ℕ) (i n x : ℕ) → x < n → get_or (take n (drop i s)) x 0 ≡ get_or s (i + x) 0
part-byte s i n x h = get_or-take n (drop i s) x 0 h ∙ get_or-drop i s x 0

pub part_length : (s : List ℕ) (i n : ℕ) → i + n ≤ length s → length (take n (drop i s)) ≡ n
part_length s i n h = simp (length-take, length-drop) (omega arith)

-- the whole of two texts
pub parts_whole : (x y : List ℕ) → length x ≡ length y → same_parts x 0 y 0 (length x) ≡ same x y
unfolding same_parts
parts_whole x y e = ap (λ (l : List ℕ). same l (take (length x) y)) (take-length x) ∙ ap (same x) (ap (λ (n : ℕ). take n y) e ∙ take-length y)
