-- Numbers as text: digit by digit, word by word, and how long they are.
use Prim.Native.Nat.{ℕ, zero, suc, ◌+◌, ◌*◌, ◌/◌, ◌%◌, ◌^◌, ◌≤◌, ◌<◌}
use native.Mathlib.Nat.{not-suc-le-zero, pow-suc}
use native.Mathlib.Numerals.{add-one}
use native.Mathlib.Omega.{arith}
use mathlib.Core.Path.{◌≡◌, refl, sym, ap, ap₂, ◌∙◌}
use mathlib.Core.Bool.{Bool, true, false}
use mathlib.Core.List.{List, [], ◌∷◌, ◌++◌, append_assoc, append-nil}
use lib.Dec.{ltb}
use lib.ListN.{length, take, drop, get_or, set, length-append}
use lib.Seq.{take-suc, drop-cons, set-append_seam}
use borrow.Author.Tests.{ltb-true, ltb-false, lt-ltb, le-ltb}
use Rattle.std.proofs.lemmas.Grind.{common_steps}
use Rattle.lines.specs.Text.{digits_in, decimal_text, spaced_text, numbers_text, line_text}
use Rattle.lines.specs.Serving.Rooms.{number_digits, word_digits}

-- one digit, or those of a tenth and the last
abbrev by_test : ℕ → ℕ → Bool → List ℕ
by_test f n b = elim b [ true ↦ (48 + n) ∷ [] | false ↦ digits_in f (n / 10) ++ ((48 + n % 10) ∷ []) ]

-- enough steps are as good as more
steps : (f g n : ℕ) (b : Bool) → (b ≡ false → digits_in f (n / 10) ≡ digits_in g (n / 10)) → by_test f n b ≡ by_test g n b
steps f g n true h = refl
steps f g n false h = ap (λ (l : List ℕ). l ++ ((48 + n % 10) ∷ [])) (h refl)

tenth : (n f : ℕ) → 10 ≤ n → n < suc f → n / 10 < f
tenth n f h k = omega arith

steady : (f g n : ℕ) → n < f → n < g → digits_in f n ≡ digits_in g n
steady zero g n p q = absurd (not-suc-le-zero p)
steady (suc f) zero n p q = absurd (not-suc-le-zero q)
steady (suc f) (suc g) n p q = steps f g n (ltb n 10) (λ e. steady f g (n / 10) (tenth n f (ltb-false n 10 e) p) (tenth n g (ltb-false n 10 e) q))

pub decimal_one : (n : ℕ) → n < 10 → decimal_text n ≡ (48 + n) ∷ []
unfolding decimal_text
decimal_one n h = ap (by_test n n) (lt-ltb n 10 h)

pub decimal_more : (n : ℕ) → 10 ≤ n → decimal_text n ≡ decimal_text (n / 10) ++ ((48 + n % 10) ∷ [])
unfolding decimal_text
decimal_more n h = ap (by_test n n) (le-ltb n 10 h) ∙ ap (λ (l : List ℕ). l ++ ((48 + n % 10) ∷ [])) (steady n (suc (n / 10)) (n / 10) (omega arith) (omega arith))

pub one_length : (n : ℕ) → n < 10 → length (decimal_text n) ≡ 1
one_length n h = ap length (decimal_one n h)

pub more_length : (n : ℕ) → 10 ≤ n → length (decimal_text n) ≡ length (decimal_text (n / 10)) + 1
more_length n h = ap length (decimal_more n h) ∙ length-append (decimal_text (n / 10)) ((48 + n % 10) ∷ [])

-- the last digit is written after those of a tenth
pub last_written : (n : ℕ) (old : List ℕ) {mid : List ℕ} {p : ℕ} → 10 ≤ n → length (decimal_text n) ≤ length old
    → mid ≡ decimal_text (n / 10) ++ drop (length (decimal_text (n / 10))) old → p ≡ length (decimal_text (n / 10))
    → set mid p (48 + n % 10) ≡ decimal_text n ++ drop (length (decimal_text n)) old
last_written n old h w f g = ap₂ (λ (l : List ℕ) (k : ℕ). set l k d) f g ∙ (ap (λ (l : List ℕ). set (xs ++ l) (length xs) d) (drop-cons old (length xs) 0 room) ∙ (set-append_seam xs (get_or old (length xs) 0) (drop (suc (length xs)) old) d ∙ sym rest))
  where
    d : ℕ
    d = 48 + n % 10

    xs : List ℕ
    xs = decimal_text (n / 10)

    room : length xs < length old
    room = omega (arith, w, more_length n h)

    rest : decimal_text n ++ drop (length (decimal_text n)) old ≡ xs ++ (d ∷ drop (suc (length xs)) old)
    rest = ap₂ (λ (l : List ℕ) (k : ℕ). l ++ drop k old) (decimal_more n h) (more_length n h ∙ add-one (length xs)) ∙ append_assoc xs (d ∷ []) (drop (suc (length xs)) old)

-- a number below a power of ten has no more digits
longer : (k n : ℕ) (b : Bool) → ltb n 10 ≡ b → (10 ≤ n → length (decimal_text (n / 10)) ≤ k) → length (decimal_text n) ≤ suc k
longer k n true e f = omega (arith, one_length n (ltb-true n 10 e))
longer k n false e f = omega (arith, more_length n (ltb-false n 10 e), f (ltb-false n 10 e))

below_tenth : (n p q : ℕ) → p ≡ q * 10 → n < p → n / 10 < q
below_tenth n p q e h = omega arith

pub decimal-length : (k n : ℕ) → n < 10 ^ suc k → length (decimal_text n) ≤ suc k
decimal-length zero n h = longer 0 n (ltb n 10) refl (λ (l : 10 ≤ n). absurd (omega (arith, h)))
decimal-length (suc k) n h = longer (suc k) n (ltb n 10) refl (λ (l : 10 ≤ n). decimal-length k (n / 10) (below_tenth n (10 ^ suc (suc k)) (10 ^ suc k) (pow-suc 10 (suc k)) h))

-- the digits of a word, and of a machine number
pub word_length : (n : ℕ) → n < 2 ^ 32 → length (decimal_text n) ≤ word_digits
word_length n h = decimal-length 9 n (omega (arith, h))

pub number_length : (n : ℕ) → n < 2 ^ 64 → length (decimal_text n) ≤ number_digits
number_length n h = decimal-length 19 n (omega (arith, h))

pub spaced_none : spaced_text [] ≡ []
unfolding spaced_text
spaced_none = refl

pub spaced_append : (xs ys : List ℕ) → spaced_text (xs ++ ys) ≡ spaced_text xs ++ spaced_text ys
unfolding spaced_text
spaced_append [] ys = refl
spaced_append (n ∷ xs) ys = ap (λ (l : List ℕ). 32 ∷ l) (ap (λ (l : List ℕ). decimal_text n ++ l) (spaced_append xs ys) ∙ sym (append_assoc (decimal_text n) (spaced_text xs) (spaced_text ys)))

pub spaced_one : (n : ℕ) → spaced_text (n ∷ []) ≡ 32 ∷ decimal_text n
unfolding spaced_text
spaced_one n = ap (λ (l : List ℕ). 32 ∷ l) (append-nil (decimal_text n))

-- one word more
pub spaced_next : (ws : List ℕ) (i : ℕ) → i < length ws → spaced_text (take (i + 1) ws) ≡ spaced_text (take i ws) ++ spaced_text (get_or ws i 0 ∷ [])
spaced_next ws i h = ap spaced_text (ap (λ (n : ℕ). take n ws) (add-one i) ∙ take-suc ws i 0 h) ∙ spaced_append (take i ws) (get_or ws i 0 ∷ [])

-- numbers one after another, and a line of them
pub three_are : (a b c : ℕ) → numbers_text a (b ∷ c ∷ []) ≡ decimal_text a ++ (32 ∷ (decimal_text b ++ (32 ∷ decimal_text c)))
unfolding numbers_text spaced_text
three_are a b c = ap (λ (l : List ℕ). decimal_text a ++ (32 ∷ (decimal_text b ++ (32 ∷ l)))) (append-nil (decimal_text c))

pub four_are : (a b c d : ℕ) (ws : List ℕ) → numbers_text a (b ∷ c ∷ d ∷ ws) ≡ numbers_text a (b ∷ c ∷ []) ++ (32 ∷ (decimal_text d ++ spaced_text ws))
unfolding numbers_text spaced_text
four_are a b c d ws = grind (arith, common_steps)

pub line_is : (n : ℕ) (ns : List ℕ) → line_text n ns ≡ numbers_text n ns ++ (10 ∷ [])
unfolding line_text
line_is n ns = refl
