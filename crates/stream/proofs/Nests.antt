-- The open brackets in a word: the lowest bit is the innermost bracket, half of the word is the others, and it is below 2 to the n exactly when fewer than n are open.
-- By induction on the bits looked at. A word with a leading 1 and as many brackets as there are levels is far below 64 bits.
use Prim.Native.Nat.{ℕ, zero, suc, ◌+◌, ◌*◌, ◌/◌, ◌%◌, ◌^◌, ◌≤◌, ◌<◌}
use native.Mathlib.Omega.{arith}
use mathlib.Core.Path.{◌≡◌, refl, sym, ap, ◌∙◌}
use mathlib.Core.Bool.{Bool, true, false}
use mathlib.Core.List.{List, [], ◌∷◌}
use lib.ListN.{length}
use lib.Dec.{leb, ltb, eqb}
use borrow.Author.Tests.{leb-true, leb-false, le-leb, lt-leb, ltb-true, ltb-false, lt-ltb, le-ltb, eq-eqb, ne_eqb}
use Rattle.grammar.specs.Limits.{message_levels}
use mir.Val.{bool_byte}
use Rattle.stream.specs.Serving.Modes.{Turn, close_turn, Mode.at, Point.after}
use Rattle.stream.specs.Serving.States.{bits, brackets_of, Nest}

abbrev pub power : ℕ → ℕ
power zero = 1
power (suc e) = 2 * power e

power_positive : (e : ℕ) → 1 ≤ power e
power_positive zero = omega arith
power_positive (suc e) = let z = power_positive e in omega arith

pub bits-low : (d n : ℕ) → n ≤ 1 → bits d n ≡ []
unfolding bits
bits-low zero n h = refl
bits-low (suc d) n h = rw (le-leb n 1 h)

pub bits_cons : (d n : ℕ) → 2 ≤ n → bits (suc d) n ≡ eqb (n % 2) 1 ∷ bits d (n / 2)
unfolding bits
bits_cons d n h = rw (lt-leb n 1 h)

-- a bit more than there are changes nothing
bits-more : (d n : ℕ) → n < power (suc d) → bits d n ≡ bits (suc d) n
bits-more zero n h = bits-low 0 n (omega arith) ∙ sym (bits-low 1 n (omega arith))
bits-more (suc d) n h = go (leb n 1) refl (bits-more d (n / 2))
  where
    go : (t : Bool) → leb n 1 ≡ t → (n / 2 < power (suc d) → bits d (n / 2) ≡ bits (suc d) (n / 2)) → bits (suc d) n ≡ bits (suc (suc d)) n
    go true t ih = let k = leb-true n 1 t in bits-low (suc d) n k ∙ sym (bits-low (suc (suc d)) n k)
    go false t ih =
        let k = leb-false n 1 t in
        let g : n / 2 < power (suc d) = omega arith in
        bits_cons d n k ∙ ap (λ (fs : List Bool). eqb (n % 2) 1 ∷ fs) (ih g) ∙ sym (bits_cons (suc d) n k)

-- two tests are the same where each is true exactly when the other is
same_test : (a b c d : ℕ) → (a < b → c < d) → (b ≤ a → d ≤ c) → ltb a b ≡ ltb c d
same_test a b c d f g = go (ltb a b) refl
  where
    go : (t : Bool) → ltb a b ≡ t → t ≡ ltb c d
    go true t = sym (lt-ltb c d (f (ltb-true a b t)))
    go false t = sym (le-ltb c d (g (ltb-false a b t)))

bits-length : (e d n : ℕ) → e ≤ d → 1 ≤ n → ltb (length (bits d n)) e ≡ ltb n (power e)
bits-length zero d n h g = le-ltb (length (bits d n)) 0 (omega arith) ∙ sym (le-ltb n 1 g)
bits-length (suc e) zero n h g = absurd (omega arith)
bits-length (suc e) (suc d) n h g = go (leb n 1) refl (bits-length e d (n / 2) (omega arith))
  where
    go : (t : Bool) → leb n 1 ≡ t → (1 ≤ n / 2 → ltb (length (bits d (n / 2))) e ≡ ltb (n / 2) (power e)) → ltb (length (bits (suc d) n)) (suc e) ≡ ltb n (power (suc e))
    go true t ih =
        let k = leb-true n 1 t in
        let z = power_positive e in
        ap (λ (fs : List Bool). ltb (length fs) (suc e)) (bits-low (suc d) n k) ∙ lt-ltb 0 (suc e) (omega arith) ∙ sym (lt-ltb n (power (suc e)) (omega arith))
    go false t ih =
        let k = leb-false n 1 t in
        let i : 1 ≤ n / 2 = omega arith in
        ap (λ (fs : List Bool). ltb (length fs) (suc e)) (bits_cons d n k)
        ∙ same_test (suc (length (bits d (n / 2)))) (suc e) (length (bits d (n / 2))) e (λ h. omega arith) (λ h. omega arith)
        ∙ ih i
        ∙ same_test (n / 2) (power e) n (power (suc e)) (λ (h : n / 2 < power e). omega arith) (λ (h : power e ≤ n / 2). omega arith)

-- as many levels as there are
pub levels-left : (n : ℕ) → 1 ≤ n → ltb (length (brackets_of n)) message_levels ≡ ltb n (2 ^ message_levels)
unfolding brackets_of
levels-left n h = bits-length message_levels 64 n (omega arith) h

none_open : (n : ℕ) → n < 2 → brackets_of n ≡ []
unfolding brackets_of
none_open n h = bits-low 64 n (omega arith)

pub innermost : (n : ℕ) → 2 ≤ n → n < 2 ^ 64 → brackets_of n ≡ eqb (n % 2) 1 ∷ brackets_of (n / 2)
unfolding brackets_of
innermost n h g = bits_cons 63 n h ∙ ap (λ (fs : List Bool). eqb (n % 2) 1 ∷ fs) (bits-more 63 (n / 2) (omega arith))

module _ (n : ℕ) (z : Nest n) where
  -- one is open
  pub one_open : n < 4 → brackets_of n ≡ eqb (n % 2) 1 ∷ []
  one_open h = let a = z.some_open in innermost n a (omega arith) ∙ ap (λ (fs : List Bool). eqb (n % 2) 1 ∷ fs) (none_open (n / 2) (omega arith))

  -- one more opens
  pub one_more : (f : Bool) → n < 2 ^ message_levels → brackets_of (2 * n + bool_byte f) ≡ f ∷ brackets_of n
  one_more false h =
      let a = z.some_open in
      let c : (2 * n + 0) / 2 ≡ n = omega arith in
      let b : (2 * n + 0) % 2 ≡ 1 → ⊥ = omega arith in
      innermost (2 * n + 0) (omega arith) (omega arith) ∙ ap (λ (t : Bool). t ∷ brackets_of ((2 * n + 0) / 2)) (ne_eqb ((2 * n + 0) % 2) 1 b) ∙ ap (λ (k : ℕ). false ∷ brackets_of k) c
  one_more true h =
      let a = z.some_open in
      let c : (2 * n + 1) / 2 ≡ n = omega arith in
      let b : (2 * n + 1) % 2 ≡ 1 = omega arith in
      innermost (2 * n + 1) (omega arith) (omega arith) ∙ ap (λ (t : Bool). t ∷ brackets_of ((2 * n + 1) / 2)) (eq-eqb ((2 * n + 1) % 2) 1 b) ∙ ap (λ (k : ℕ). true ∷ brackets_of k) c

  -- and the innermost is closed
  pub closes-last : n < 4 → close_turn (brackets_of n) ≡ Turn.ended
  closes-last h = rw (one_open h)

  pub closes_inner : 4 ≤ n → close_turn (brackets_of n) ≡ Turn.to (at after) (brackets_of (n / 2))
  closes_inner h = let b = z.levels in rw (innermost n (omega arith) (omega arith), innermost (n / 2) (omega arith) (omega arith))

-- one bracket
pub only_one : (f : Bool) → brackets_of (2 + bool_byte f) ≡ f ∷ []
unfolding brackets_of
only_one false = refl
only_one true = refl
