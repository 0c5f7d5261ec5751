-- No byte outside 0x20 to 0x7E goes to the terminal but the LF that ends a line, whatever comes as schema, table, message and records.
-- The idea: all text of a message or a schema goes through `shown`, and the rest is fixed.
use Prim.Native.Nat.{ℕ, zero, suc, ◌+◌, ◌-◌, ◌*◌, ◌/◌, ◌%◌, ◌<◌, min}
use native.Mathlib.Nat.{not-suc-le-zero}
use native.Mathlib.Omega.{arith}
use mathlib.Core.Path.{◌≡◌, refl, subst}
use mathlib.Core.Bool.{Bool, true, false, cond, ◌&&◌, ◌||◌}
use mathlib.Core.List.{List, [], ◌∷◌, ◌++◌}
use lib.Dec.{eqb, ltb}
use lib.ListN.{length, take, get_or, replicate}
use borrow.Author.Tests.{ltb-true, ltb-false}
use Rattle.grammar.specs.Limits.{name_bytes}
use Rattle.grammar.specs.Notation.{text, all}
use Rattle.grammar.proofs.Booleans.{both}
use Rattle.rules.specs.Types.{first_row}
use Rattle.rules.proofs.Lists.{and_of, or_left}
use Rattle.rules.specs.Rows.{is_struct, name_of}
use Rattle.std.specs.Prelude.{Option, Some, None}
use Rattle.walker.specs.declared.records.Record.{Record}
use Rattle.walker.specs.Seeing.{seen_at, place_after, part_of}
use Rattle.trees.specs.Escapes.{printable, shown_digit, hex_byte, shown_byte, shown_bytes, shown}
use Rattle.trees.specs.Backwards.{before}
use Rattle.trees.specs.Nesting.{still_open}
use Rattle.trees.specs.Labelling.{key_before, key_text, of_alternate, label_text}
use Rattle.trees.specs.Typing.{built_in_names, row_text, row_name, type_name, type_text}
use Rattle.trees.specs.TreeText.{deepest, indent_text, value_shown, value_text, left_text, right_text, record_line, line_at, open_then, lines_of, lines_from}

-- what a terminal may have
abbrev pub clean : ℕ → Bool
clean b = printable b || eqb b 10

pub joined : (xs ys : List ℕ) → all clean xs ≡ true → all clean ys ≡ true → all clean (xs ++ ys) ≡ true
joined [] ys p q = q
joined (x ∷ xs) ys p q = and_of (clean x) (all clean (xs ++ ys)) (both (clean x) (all clean xs) p).0 (joined xs ys (both (clean x) (all clean xs) p).1 q)

-- what is so of every number below n, one by one
abbrev Every : (ℕ → Type 0) → ℕ → Type 0
Every P zero = Unit {0}
Every P (suc n) = Every P n × P n

below : (P : ℕ → Type 0) (n t : ℕ) (b : Bool) → ltb t n ≡ b → t < suc n → (t < n → P t) → P n → P t
below P n t true e h f p = f (ltb-true t n e)
below P n t false e h f p = let q : n ≡ t = omega (arith, ltb-false t n e) in subst P q p

every : (P : ℕ → Type 0) (n : ℕ) → Every P n → (t : ℕ) → t < n → P t
every P zero ps t h = absurd (not-suc-le-zero h)
every P (suc n) ps t h = below P n t (ltb t n) refl h (λ k. every P n ps.0 t k) ps.1

-- a byte as it is shown
abbrev Digit : ℕ → Type 0
Digit d = clean (shown_digit d) ≡ true

digit : (d : ℕ) → d < 16 → Digit d
digit d h = every Digit 16 ((((((((((((((((tt, refl), refl), refl), refl), refl), refl), refl), refl), refl), refl), refl), refl), refl), refl), refl), refl) d h

hex-clean : (b : ℕ) → all clean (hex_byte b) ≡ true
hex-clean b = and_of (clean (shown_digit (b / 16 % 16))) (clean (shown_digit (b % 16)) && true) (digit (b / 16 % 16) (omega arith)) (and_of (clean (shown_digit (b % 16))) true (digit (b % 16) (omega arith)) refl)

by-printable : (b : ℕ) (t : Bool) → printable b ≡ t → all clean (cond t (b ∷ []) (hex_byte b)) ≡ true
by-printable b true e = and_of (clean b) true (or_left (printable b) (eqb b 10) e) refl
by-printable b false e = hex-clean b

byte-clean : (b : ℕ) → all clean (shown_byte b) ≡ true
unfolding shown_byte
byte-clean b = by-printable b (printable b) refl

pub bytes-clean : (l : List ℕ) → all clean (shown_bytes l) ≡ true
unfolding shown_bytes
bytes-clean [] = refl
bytes-clean (b ∷ l) = joined (shown_byte b) (shown_bytes l) (byte-clean b) (bytes-clean l)

dots : (t : Bool) → all clean (cond t (text "...") []) ≡ true
dots true = refl
dots false = refl

pub shown-clean : (l : List ℕ) → all clean (shown l) ≡ true
unfolding shown
shown-clean l = joined (shown_bytes (take name_bytes l)) (cond (ltb name_bytes (length l)) (text "...") []) (bytes-clean (take name_bytes l)) (dots (ltb name_bytes (length l)))

-- labels, types and texts
key-clean : (k : Option (List ℕ)) → all clean (key_text k) ≡ true
key-clean None = refl
key-clean (Some k) = shown-clean k

by_alternate : (t : Bool) (k : Option (List ℕ)) → all clean (elim t [ true ↦ text "as" | false ↦ key_text k ]) ≡ true
by_alternate true k = refl
by_alternate false k = key-clean k

label_clean : (T m ws : List ℕ) (n start : ℕ) → all clean (label_text T m ws n start) ≡ true
unfolding label_text
label_clean T m ws zero start = refl
label_clean T m ws (suc n) start = by_alternate (of_alternate T (seen_at ws n)) (key_before (before m start))

row-clean : (t : Bool) (n : List ℕ) → all clean (row_text t n) ≡ true
row-clean true [] = refl
row-clean false [] = refl
row-clean t (b ∷ n) = shown-clean (b ∷ n)

name_in_lem : (ns : List (List ℕ)) (t : ℕ) → all (all clean) ns ≡ true → all clean (get_or ns t []) ≡ true
name_in_lem [] t p = refl
name_in_lem (n ∷ ns) zero p = (both (all clean n) (all (all clean) ns) p).0
name_in_lem (n ∷ ns) (suc t) p = name_in_lem ns t (both (all clean n) (all (all clean) ns) p).1

by_row : (S T : List ℕ) (t r : ℕ) (b : Bool) → all clean (elim b [ true ↦ get_or built_in_names t [] | false ↦ row_name S T r ]) ≡ true
unfolding row_name
by_row S T t r true = name_in_lem built_in_names t refl
by_row S T t r false = row-clean (is_struct T r) (name_of S T r)

name-clean : (S T : List ℕ) (t : ℕ) → all clean (type_name S T t) ≡ true
unfolding type_name
name-clean S T t = by_row S T t (t - first_row) (ltb t first_row)

type-clean : (S T : List ℕ) (t f : ℕ) → all clean (type_text S T t f) ≡ true
unfolding type_text
type-clean S T t zero = name-clean S T t
type-clean S T t (suc f) = joined (text "[") (type_name S T t ++ text "]") refl (joined (type_name S T t) (text "]") (name-clean S T t) refl)

value-clean : (v : List ℕ) → all clean (value_shown v) ≡ true
value-clean [] = refl
value-clean (b ∷ v) = shown-clean (b ∷ v)

pub spaces_clean : (n : ℕ) → all clean (replicate n 32) ≡ true
spaces_clean zero = refl
spaces_clean (suc n) = spaces_clean n

-- lines
module _ (S T m ws : List ℕ) (room : ℕ) where
  left-clean : (n a k : ℕ) → all clean (left_text T m ws n a k) ≡ true
  unfolding left_text indent_text
  left-clean n a k = joined (indent_text k) (label_text T m ws n a) (spaces_clean (2 * (1 + min k deepest))) (label_clean T m ws n a)

  right_clean : (a e t f : ℕ) → all clean (right_text S T m a e t f) ≡ true
  unfolding right_text value_text
  right_clean a e t f =
      let z : List ℕ = value_text m a e ++ (10 ∷ []) in
      let y : List ℕ = text " = " ++ z in
      joined (text ": ") (type_text S T t f ++ y) refl (joined (type_text S T t f) y (type-clean S T t f) (joined (text " = ") z refl (joined (value_text m a e) (10 ∷ []) (value-clean (part_of m a e)) refl)))

  line_clean : (n : ℕ) (es : List ℕ) (s : Option Record) → all clean (record_line S T m ws room n es s) ≡ true
  line_clean n es None = refl
  line_clean n es (Some r) = joined (left_text T m ws n r.start (length (still_open r.start es))) (right_text S T m r.start r.end r.reference r.array) (left-clean n r.start (length (still_open r.start es))) (right_clean r.start r.end r.reference r.array)

  lines-clean : (k n : ℕ) (es : List ℕ) → all clean (lines_of S T m ws room k n es) ≡ true
  unfolding lines_of line_at
  lines-clean zero n es = refl
  lines-clean (suc k) n es = joined (line_at S T m ws room n es) (lines_of S T m ws room k (place_after ws n) (open_then S T m ws room n es)) (line_clean n es (seen_at ws n)) (lines-clean k (place_after ws n) (open_then S T m ws room n es))

  -- every line of a tree
  pub tree-clean : (n : ℕ) (es : List ℕ) → all clean (lines_from S T m ws room n es) ≡ true
  unfolding lines_from
  tree-clean n es = lines-clean (length ws / 4 - n) n es
