-- How the readers of a number's parts compose: what each of their answers says of the machine inside the number.
-- A run over one part, and then what is told from its end.
use Prim.Native.Nat.{ℕ, ◌+◌, ◌≤◌, ◌<◌}
use Prim.Native.Char.{code}
use native.Mathlib.Omega.{arith}
use native.Mathlib.Decide.{dec_lt}
use mathlib.Core.Path.{◌≡◌, refl, ◌∙◌}
use mathlib.Core.Bool.{Bool, true, false}
use mathlib.Core.List.{List}
use lib.ListN.{length, get_or}
use Rattle.grammar.specs.Notation.{digit}
use Rattle.grammar.proofs.Numbers.{e_sign}
use Rattle.grammar.specs.MessageText.{letter_e, sign}
use Rattle.grammar.specs.Serving.Machine.Message.{NumberState}
use Rattle.grammar.specs.Serving.Machine.Message.NumberState.{begin, after_minus, after_zero, in_int, after_point, in_frac, after_e, after_sign, in_exp}
use Rattle.std.specs.Prelude.{max, Result, Ok, Err}
use Rattle.strings.specs.Chars.{FaultAt}
use Rattle.strings.specs.declared.chars.Fault.{Fault}
use Rattle.tokens.specs.declared.literals.Number.{Number}
use Rattle.tokens.specs.Numbers.{Passes, NumberRuns, NumberStops, NumberEnds, NumberTold, NoDigit, Loops, DigitsRun, DigitsTold, BeforePower, BeforePoint, BeforeInt}
use Rattle.tokens.specs.Numbers.{IntTold, PowerTold, ReadsDigits, ReadsInt, ReadsPower, ReadsRest, ReadsNumber}
use Rattle.tokens.proofs.NumberSteps.{one_byte, stops-here, ends-here}
use Rattle.tokens.proofs.NumberStates.{begin_minus, point-leads, sign-leads, e_leads, minus_before-int, begin_before-int, zero-before-point, int-before-point}
use Rattle.tokens.proofs.NumberStates.{frac-before-power, exp_stops}

-- a run, and then what is told from its end
module _ {s : List ℕ} {f t : NumberState} {i e : ℕ} (w : NumberRuns s f i t e) where
  then_runs : {u : NumberState} {q : ℕ} → NumberRuns s t e u q → NumberRuns s f i u q
  then_runs n = record { on = omega (arith, w.on, n.on); within = n.within; runs = λ lim a k g. w.runs lim a k g ∙ n.runs lim a k (omega (arith, w.on)) }

  then-ends : {q : ℕ} {j : Bool} → NumberEnds s t e q j → NumberEnds s f i q j
  then-ends n =
      record {
        on = omega (arith, w.on, n.on);
        moves = λ _. omega (arith, w.on, n.on);
        within = λ _. n.within w.within;
        runs = λ lim a k g. w.runs lim a k g ∙ n.runs lim a k (omega (arith, w.on));
      }

  then-stops : {q : ℕ} → NumberStops s t e q → NumberStops s f i q
  then-stops n lim a k g = w.runs lim a k g ∙ n lim a k (omega (arith, w.on))

  then-told : (r : Result Number Fault) → NumberTold s t e r → NumberTold s f i r
  then-told (Ok q) n = then-ends n
  then-told (Err q) n = then-stops n

-- digits from place p to i
pub record DigitsPassed (s : List ℕ) (p i : ℕ) : Type 0 where
  pub on : p ≤ i
  pub within : p ≤ length s → i ≤ length s
  pub runs : (t : NumberState) → Loops t → Passes s t p t i

pub digits-none : (s : List ℕ) (p : ℕ) → DigitsPassed s p p
digits-none s p = record { on = omega arith; within = λ h. h; runs = λ t m lim a k g. refl }

module _ {s : List ℕ} {p i : ℕ} (w : DigitsPassed s p i) where
  pub digits_more : i < length s → digit (get_or s i 0) ≡ true → DigitsPassed s p (i + 1)
  digits_more h d =
      record { on = omega arith; within = λ _. omega arith; runs = λ t m lim a k g. w.runs t m lim a k g ∙ (one_byte s t i h (m _ d)).runs lim a k (omega arith) }

  pub digits-all : NoDigit s i → DigitsRun s p i
  digits-all n = record { on = w.on; within = w.within; ends = n; runs = w.runs }

pub digits-end : {s : List ℕ} {p i : ℕ} → DigitsPassed s p i → length s ≤ i → DigitsRun s p (max p (length s))
digits-end {s} {p} {i} w h = go (dec_lt (length s) p)
  where
    go : Dec (length s < p) → DigitsRun s p (max p (length s))
    go (yes l) = let q : max p (length s) ≡ p = omega arith in rw q (digits-all (digits-none s p) (λ g. absurd (omega arith)))
    go (no l) = let q : max p (length s) ≡ i = omega (arith, w.within) in rw q (digits-all w (λ g. absurd (omega arith)))

exp_ends : {s : List ℕ} {e : ℕ} → NoDigit s e → NumberEnds s in_exp e e false
exp_ends {s} {e} n = ends-here s in_exp e refl (exp_stops s e n)

module _ {s : List ℕ} {i : ℕ} where
  -- one digit or more
  pub no_digits : NoDigit s i → ReadsDigits s i (FaultAt i)
  no_digits n = record { told = λ f t l. stops-here s f i l.unended (l.other n) }

  pub some_digits : {e : ℕ} → i < length s → digit (get_or s i 0) ≡ true → DigitsRun s (i + 1) e → ReadsDigits s i (Ok e)
  some_digits h d w =
      record {
        told = λ f t l. (
          record {
            on = omega (arith, w.on);
            within = w.within (omega arith);
            runs = λ lim a k g. (one_byte s f i h (l.first h d)).runs lim a k g ∙ w.runs t l.more lim a k (omega arith);
          },
          w.ends,
        );
      }

  -- the integer part
  pub zero-int : i < length s → get_or s i 0 ≡ code "0" → ReadsInt s i (Ok (i + 1))
  zero-int h e = record { told = λ f b. (after_zero, one_byte s f i h (rw e b.zero), zero-before-point s (i + 1)) }

  pub digits-int : {r : Result ℕ Fault} → (i < length s → get_or s i 0 ≡ code "0" → ⊥) → ReadsDigits s i r → ReadsInt s i r
  digits-int {r} z w = record { told = λ f b. go f r (w.told f in_int (b.other z)) }
    where
      go : (f : NumberState) (r : Result ℕ Fault) → DigitsTold s f i in_int r → IntTold s f i r
      go f (Ok e) t = (in_int, t.0, int-before-point s e t.1)
      go f (Err e) t = t

  -- the exponent after its e
  pub power-plain : {r : Result ℕ Fault} → (i < length s → sign (get_or s i 0) ≡ false) → ReadsDigits s i r → ReadsPower s i r
  power-plain {r} u w = record { told = go r (w.told after_e in_exp (e_leads s i u)) }
    where
      go : (r : Result ℕ Fault) → DigitsTold s after_e i in_exp r → PowerTold s i r
      go (Ok e) t = then-ends t.0 (exp_ends t.1)
      go (Err e) t = t

  pub power-signed : {r : Result ℕ Fault} → i < length s → sign (get_or s i 0) ≡ true → ReadsDigits s (i + 1) r → ReadsPower s i r
  power-signed {r} h u w = record { told = go r (w.told after_sign in_exp (sign-leads s (i + 1))) }
    where
      past-sign : NumberRuns s after_e i after_sign (i + 1)
      past-sign = one_byte s after_e i h (e_sign _ u)

      go : (r : Result ℕ Fault) → DigitsTold s after_sign (i + 1) in_exp r → PowerTold s i r
      go (Ok e) t = then-ends past-sign (then-ends t.0 (exp_ends t.1))
      go (Err e) t = then-stops past-sign t

  -- an exponent, or none
  module _ {j : Bool} where
    pub exponent-past : {e : ℕ} → i < length s → letter_e (get_or s i 0) ≡ true → ReadsPower s (i + 1) (Ok e)
        → ReadsRest s i (BeforePower s i j) (Ok (record { integer = false; end = e }))
    exponent-past h u w = record { told = λ f b. then-ends (one_byte s f i h (b.power h u)) w.told }

    pub exponent-fault : {x : Fault} → i < length s → letter_e (get_or s i 0) ≡ true → ReadsPower s (i + 1) (Err x) → ReadsRest s i (BeforePower s i j) (Err x)
    exponent-fault h u w = record { told = λ f b. then-stops (one_byte s f i h (b.power h u)) w.told }

    pub number-ends : (i < length s → letter_e (get_or s i 0) ≡ false) → ReadsRest s i (BeforePower s i j) (Ok (record { integer = j; end = i }))
    number-ends n = record { told = λ f b. ends-here s f i b.ends (λ h. b.other h (n h)) }

  -- a fraction, or none
  pub fraction-past : {r : Result Number Fault} {e : ℕ} → i < length s → get_or s i 0 ≡ code "." → ReadsDigits s (i + 1) (Ok e)
      → ReadsRest s e (BeforePower s e false) r → ReadsRest s i (BeforePoint s i) r
  fraction-past {r} {e} h u w n =
      let v = w.told after_point in_frac (point-leads s (i + 1)) in
      record { told = λ f b. then-told (then_runs (one_byte s f i h (rw u b.point)) v.0) r (n.told in_frac (frac-before-power s e v.1)) }

  pub fraction-fault : {x : Fault} → i < length s → get_or s i 0 ≡ code "." → ReadsDigits s (i + 1) (Err x) → ReadsRest s i (BeforePoint s i) (Err x)
  fraction-fault h u w = record { told = λ f b. then-stops (one_byte s f i h (rw u b.point)) (w.told after_point in_frac (point-leads s (i + 1))) }

  pub no_fraction : {r : Result Number Fault} → (i < length s → get_or s i 0 ≡ code "." → ⊥) → ReadsRest s i (BeforePower s i true) r → ReadsRest s i (BeforePoint s i) r
  no_fraction n w = record { told = λ f b. w.told f (b.other n) }

  -- past the sign
  pub int-past : {r : Result Number Fault} {e : ℕ} → ReadsInt s i (Ok e) → ReadsRest s e (BeforePoint s e) r → ReadsRest s i (BeforeInt s i) r
  int-past {r} w n = record { told = λ f b. let v = w.told f b in then-told v.1 r (n.told v.0 v.2) }

  pub int-fault : {x : Fault} → ReadsInt s i (Err x) → ReadsRest s i (BeforeInt s i) (Err x)
  int-fault w = record { told = λ f b. w.told f b }

  -- the sign
  pub minus_number : {r : Result Number Fault} → i < length s → get_or s i 0 ≡ code "-" → ReadsRest s (i + 1) (BeforeInt s (i + 1)) r → ReadsNumber s i r
  minus_number {r} h u w = record { told = then-told (one_byte s begin i h (rw u begin_minus)) r (w.told after_minus (minus_before-int s (i + 1))) }

  pub plain-number : {r : Result Number Fault} → (get_or s i 0 ≡ code "-" → ⊥) → ReadsRest s i (BeforeInt s i) r → ReadsNumber s i r
  plain-number n w = record { told = w.told begin (begin_before-int s i (λ _. n)) }
