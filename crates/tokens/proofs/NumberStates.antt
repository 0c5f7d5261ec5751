-- What the automaton for numbers does at a place, in each state where a reader begins.
-- By the byte's tests in that state.
use Prim.Native.Nat.{ℕ, ◌<◌}
use Prim.Native.Char.{code}
use native.Mathlib.Omega.{arith}
use mathlib.Core.Path.{◌≡◌, refl}
use mathlib.Core.Bool.{Bool, true, false, ◌||◌}
use mathlib.Core.List.{List}
use mathlib.Core.Option.{some, none}
use lib.Dec.{eqb}
use lib.ListN.{length, get_or}
use borrow.Author.Tests.{eqb-true, eqb-false, ne_eqb}
use Rattle.grammar.specs.Notation.{within, digit}
use Rattle.grammar.specs.MessageText.{sign}
use Rattle.grammar.specs.Serving.Machine.Message.{NumberState, number_step}
use Rattle.grammar.specs.Serving.Machine.Message.NumberState.{begin, after_minus, after_zero, in_int, after_point, in_frac, after_e, after_sign, in_exp}
use Rattle.grammar.proofs.Booleans.{clash, either, within-true, within-false, within-is, Outside, Outside.below, Outside.above, within-below, within-above}
use Rattle.tokens.specs.TokenParts.{begins_number}
use Rattle.tokens.specs.Numbers.{NoDigit, Loops, Leads, BeforePower, BeforePoint, BeforeInt}

-- digits from 1 to 9
nonzero : (b : ℕ) → (b ≡ code "0" → ⊥) → digit b ≡ true → within (code "1") (code "9") b ≡ true
nonzero b n t = let h = within-true (code "0") (code "9") b t in within-is (code "1") (code "9") b (omega arith) h.1

no_nonzero : (b : ℕ) → digit b ≡ false → within (code "1") (code "9") b ≡ false
no_nonzero b t = go (within-false (code "0") (code "9") b t)
  where
    go : Outside (code "0") (code "9") b → within (code "1") (code "9") b ≡ false
    go (below h) = within-below (code "1") (code "9") b (omega arith)
    go (above h) = within-above (code "1") (code "9") b h

-- the first byte of a number
pub begins : (b : ℕ) → begins_number b ≡ true → (t : NumberState) × (number_step begin b ≡ some t)
unfolding number_step
begins b = either (eqb b (code "-")) (digit b) (λ t. (after_minus, rw (eqb-true b (code "-") t) refl)) (λ t. go t (eqb b (code "0")) refl)
  where
    go : digit b ≡ true → (x : Bool) → eqb b (code "0") ≡ x → (t : NumberState) × (number_step begin b ≡ some t)
    go t true z = (after_zero, rw (eqb-true b (code "0") z) refl)
    go t false z =
        let h = within-true (code "0") (code "9") b t in
        let n = eqb-false b (code "0") z in
        (in_int, simp (ne_eqb b (code "-") (omega arith), z, within-is (code "1") (code "9") b (omega arith) h.1))

pub begins-none : (b : ℕ) → begins_number b ≡ false → number_step begin b ≡ none
unfolding number_step
begins-none b f = go (eqb b (code "-")) refl f
  where
    go : (x : Bool) → eqb b (code "-") ≡ x → (x || digit b) ≡ false → number_step begin b ≡ none
    go true e f = clash refl f
    go false e f = let z = ne_eqb b (code "0") (λ q. clash (rw q refl) f) in simp (e, z, no_nonzero b f)

-- states in which digits go on
int-loops : Loops in_int
unfolding number_step
int-loops b t = simp t

frac-loops : Loops in_frac
unfolding number_step
frac-loops b t = simp t

exp_loops : Loops in_exp
unfolding number_step
exp_loops b t = simp t

-- a sign
pub begin_minus : number_step begin (code "-") ≡ some after_minus
unfolding number_step
begin_minus = refl

module _ (s : List ℕ) (i : ℕ) where
  -- where digits must come
  pub point-leads : Leads s i after_point in_frac
  unfolding number_step
  point-leads = record { first = λ _ t. simp t; other = λ n h. simp (n h); unended = refl; more = frac-loops }

  pub sign-leads : Leads s i after_sign in_exp
  unfolding number_step
  sign-leads = record { first = λ _ t. simp t; other = λ n h. simp (n h); unended = refl; more = exp_loops }

  pub e_leads : (i < length s → sign (get_or s i 0) ≡ false) → Leads s i after_e in_exp
  unfolding number_step
  e_leads u = record { first = λ h t. simp (u h, t); other = λ n h. simp (u h, n h); unended = refl; more = exp_loops }

  -- where the integer part begins
  pub minus_before-int : BeforeInt s i after_minus
  unfolding number_step
  minus_before-int =
      record {
        zero = refl;
        other = λ z.
            record {
              first = λ h t. simp (ne_eqb _ _ (z h), nonzero _ (z h) t);
              other = λ n h. simp (ne_eqb _ _ (z h), no_nonzero (get_or s i 0) (n h));
              unended = refl;
              more = int-loops;
            };
      }

  pub begin_before-int : (i < length s → get_or s i 0 ≡ code "-" → ⊥) → BeforeInt s i begin
  unfolding number_step
  begin_before-int m =
      record {
        zero = refl;
        other = λ z.
            record {
              first = λ h t. simp (ne_eqb _ _ (m h), ne_eqb _ _ (z h), nonzero _ (z h) t);
              other = λ n h. simp (ne_eqb _ _ (m h), ne_eqb _ _ (z h), no_nonzero (get_or s i 0) (n h));
              unended = refl;
              more = int-loops;
            };
      }

  -- where it may end
  pub zero-before-point : BeforePoint s i after_zero
  unfolding number_step
  zero-before-point =
      record {
        point = refl;
        other = λ m. record { ends = refl; power = λ h t. simp (ne_eqb _ _ (m h), t); other = λ h t. simp (ne_eqb _ _ (m h), t) };
      }

  pub int-before-point : NoDigit s i → BeforePoint s i in_int
  unfolding number_step
  int-before-point n =
      record {
        point = refl;
        other = λ m. record { ends = refl; power = λ h t. simp (n h, ne_eqb _ _ (m h), t); other = λ h t. simp (n h, ne_eqb _ _ (m h), t) };
      }

  pub frac-before-power : NoDigit s i → BeforePower s i false in_frac
  unfolding number_step
  frac-before-power n = record { ends = refl; power = λ h t. simp (n h, t); other = λ h t. simp (n h, t) }

  pub exp_stops : NoDigit s i → i < length s → number_step in_exp (get_or s i 0) ≡ none
  unfolding number_step
  exp_stops n h = simp (n h)
