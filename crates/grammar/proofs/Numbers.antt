-- The automaton for numbers accepts exactly the numbers of RFC 8259, section 6, and says which are integers.
-- Forwards each part of a number is a stretch of the automaton's path. Backwards each state has a grammar of what may still come (`Left`), and a step puts one byte in front.
use Prim.Native.Nat.{ℕ}
use Prim.Native.Char.{code}
use native.Mathlib.Omega.{arith}
use mathlib.Core.Path.{◌≡◌, refl, subst}
use mathlib.Core.Bool.{Bool, true, false, not, ◌||◌}
use mathlib.Core.List.{List, [], ◌∷◌, ◌++◌}
use mathlib.Core.Option.{Option, some}
use lib.Dec.{eqb}
use borrow.Author.Tests.{eqb-true, ne_eqb}
use Rattle.grammar.specs.Notation.{within, all, digit}
use Rattle.grammar.specs.MessageText.{letter_e, sign, Digits, Digits.digits, Int, Int.zero, Int.nonzero, Frac, Frac.frac, Exp, Exp.unsigned, Exp.signed, Optional}
use Rattle.grammar.specs.MessageText.{Optional.absent, Optional.present, Number, Number.parts}
use Rattle.grammar.specs.Serving.Machine.Message.{NumberState, number_step, number_end}
use Rattle.grammar.specs.Serving.Machine.Message.NumberState.{begin, after_minus, after_zero, in_int, after_point, in_frac, after_e, after_sign, in_exp}
use Rattle.grammar.proofs.Booleans.{by, either, both, none-not-some, within-true}

-- from a state, over all the bytes, to one where a number may end
pub data Accepts : NumberState → Bool → List ℕ → Type 0 where
  ends : {s : NumberState} {i : Bool} → number_end s ≡ some i → Accepts s i []
  steps : {s t : NumberState} {i : Bool} {b : ℕ} {bs : List ℕ} → number_step s b ≡ some t → Accepts t i bs → Accepts s i (b ∷ bs)

-- the tests shut one another out
e_no_digit : (b : ℕ) → letter_e b ≡ true → digit b ≡ false
e_no_digit b = either (eqb b (code "e")) (eqb b (code "E")) (λ t. rw (eqb-true b (code "e") t) refl) (λ t. rw (eqb-true b (code "E") t) refl)

e_no_point : (b : ℕ) → letter_e b ≡ true → eqb b (code ".") ≡ false
e_no_point b = either (eqb b (code "e")) (eqb b (code "E")) (λ t. rw (eqb-true b (code "e") t) refl) (λ t. rw (eqb-true b (code "E") t) refl)

digit-no_sign : (b : ℕ) → digit b ≡ true → sign b ≡ false
digit-no_sign b t = let h = within-true (code "0") (code "9") b t in simp (ne_eqb b (code "-") (omega arith), ne_eqb b (code "+") (omega arith))

-- the steps
int-digit : (b : ℕ) → digit b ≡ true → number_step in_int b ≡ some in_int
unfolding number_step
int-digit b t = simp t

point-digit : (b : ℕ) → digit b ≡ true → number_step after_point b ≡ some in_frac
unfolding number_step
point-digit b t = simp t

frac-digit : (b : ℕ) → digit b ≡ true → number_step in_frac b ≡ some in_frac
unfolding number_step
frac-digit b t = simp t

frac_e : (b : ℕ) → letter_e b ≡ true → number_step in_frac b ≡ some after_e
unfolding number_step
frac_e b t = simp (e_no_digit b t, t)

pub e_sign : (b : ℕ) → sign b ≡ true → number_step after_e b ≡ some after_sign
unfolding number_step
e_sign b t = simp t

e_digit : (b : ℕ) → digit b ≡ true → number_step after_e b ≡ some in_exp
unfolding number_step
e_digit b t = simp (digit-no_sign b t, t)

sign-digit : (b : ℕ) → digit b ≡ true → number_step after_sign b ≡ some in_exp
unfolding number_step
sign-digit b t = simp t

exp_digit : (b : ℕ) → digit b ≡ true → number_step in_exp b ≡ some in_exp
unfolding number_step
exp_digit b t = simp t

-- Forwards. *DIGIT in one state, then 1*DIGIT into it, in front of what follows
loop : (s : NumberState) → ((b : ℕ) → digit b ≡ true → number_step s b ≡ some s) → {i : Bool} (ds : List ℕ) {bs : List ℕ} → all digit ds ≡ true → Accepts s i bs
    → Accepts s i (ds ++ bs)
loop s f [] t a = a
loop s f (d ∷ ds) t a = let h = both (digit d) (all digit ds) t in steps (f d h.0) (loop s f ds h.1 a)

exp_loop : (ds : List ℕ) → all digit ds ≡ true → Accepts in_exp false ds
exp_loop [] t = ends refl
exp_loop (d ∷ ds) t = let h = both (digit d) (all digit ds) t in steps (exp_digit d h.0) (exp_loop ds h.1)

exp_accepted : (s : NumberState) → ((b : ℕ) → letter_e b ≡ true → number_step s b ≡ some after_e) → {bs : List ℕ} → Exp bs → Accepts s false bs
exp_accepted s f (unsigned {b = b} t (digits {b = d} {bs = ds} u v)) = steps (f b t) (steps (e_digit d u) (exp_loop ds v))
exp_accepted s f (signed {b = b} {s = c} t w (digits {b = d} {bs = ds} u v)) = steps (f b t) (steps (e_sign c w) (steps (sign-digit d u) (exp_loop ds v)))

frac-accepted : {ds e : List ℕ} {c : Bool} → Digits ds → Optional Exp c e → Accepts after_point false (ds ++ e)
frac-accepted (digits {b = d} {bs = ds} t u) absent = steps (point-digit d t) (loop in_frac frac-digit ds u (ends refl))
frac-accepted (digits {b = d} {bs = ds} t u) (present e) = steps (point-digit d t) (loop in_frac frac-digit ds u (exp_accepted in_frac frac_e e))

-- states where the integer part may end
record IntEnd (s : NumberState) : Type 0 where
  end : number_end s ≡ some true
  point : number_step s (code ".") ≡ some after_point
  power : (b : ℕ) → letter_e b ≡ true → number_step s b ≡ some after_e

zero-end : IntEnd after_zero
unfolding number_step
zero-end = record { end = refl; point = refl; power = λ b t. simp (e_no_point b t, t) }

int_end : IntEnd in_int
unfolding number_step
int_end = record { end = refl; point = refl; power = λ b t. simp (e_no_digit b t, e_no_point b t, t) }

rest-accepted : {s : NumberState} {b c : Bool} {f e : List ℕ} → IntEnd s → Optional Frac b f → Optional Exp c e → Accepts s (not (b || c)) (f ++ e)
rest-accepted h absent absent = ends h.end
rest-accepted {s} h absent (present e) = exp_accepted s h.power e
rest-accepted h (present (frac d)) o = steps h.point (frac-accepted d o)

-- states where the integer part may begin
record IntStart (s : NumberState) : Type 0 where
  zero_first : number_step s (code "0") ≡ some after_zero
  digit_first : (b : ℕ) → within (code "1") (code "9") b ≡ true → number_step s b ≡ some in_int

minus_start : IntStart after_minus
unfolding number_step
minus_start = record { zero_first = refl; digit_first = λ b t. let h = within-true (code "1") (code "9") b t in simp (ne_eqb b (code "0") (omega arith), t) }

begin_start : IntStart begin
unfolding number_step
begin_start =
    record {
      zero_first = refl;
      digit_first = λ b t. let h = within-true (code "1") (code "9") b t in simp (ne_eqb b (code "-") (omega arith), ne_eqb b (code "0") (omega arith), t);
    }

int-accepted : {s : NumberState} {b c : Bool} {n f e : List ℕ} → IntStart s → Int n → Optional Frac b f → Optional Exp c e → Accepts s (not (b || c)) (n ++ (f ++ e))
int-accepted h zero o p = steps h.zero_first (rest-accepted zero-end o p)
int-accepted h (nonzero {b = d} {bs = ds} t u) o p = steps (h.digit_first d t) (loop in_int int-digit ds u (rest-accepted int_end o p))

pub number-accepted : {i : Bool} {bs : List ℕ} → Number i bs → Accepts begin i bs
unfolding number_step
number-accepted (parts absent n f e) = int-accepted begin_start n f e
number-accepted (parts (present h) n f e) = rw h (steps refl (int-accepted minus_start n f e))

-- Backwards. What may still come, as a grammar
data Rest : Bool → List ℕ → Type 0 where
  rest : {b c : Bool} {f e : List ℕ} → Optional Frac b f → Optional Exp c e → Rest (not (b || c)) (f ++ e)

data Unsigned : Bool → List ℕ → Type 0 where
  int : {i : Bool} {n bs : List ℕ} → Int n → Rest i bs → Unsigned i (n ++ bs)

data IntLeft : Bool → List ℕ → Type 0 where
  int_left : {i : Bool} (ds : List ℕ) {bs : List ℕ} → all digit ds ≡ true → Rest i bs → IntLeft i (ds ++ bs)

data FracDigits : Bool → List ℕ → Type 0 where
  frac_digits : {c : Bool} {ds e : List ℕ} → Digits ds → Optional Exp c e → FracDigits false (ds ++ e)

data FracLeft : Bool → List ℕ → Type 0 where
  frac_left : {c : Bool} (ds : List ℕ) {e : List ℕ} → all digit ds ≡ true → Optional Exp c e → FracLeft false (ds ++ e)

data Power : Bool → List ℕ → Type 0 where
  no_sign : {ds : List ℕ} → Digits ds → Power false ds
  a_sign : {s : ℕ} {ds : List ℕ} → sign s ≡ true → Digits ds → Power false (s ∷ ds)

data ExpDigits : Bool → List ℕ → Type 0 where
  exp_all : {ds : List ℕ} → Digits ds → ExpDigits false ds

data ExpLeft : Bool → List ℕ → Type 0 where
  exp_left : {ds : List ℕ} → all digit ds ≡ true → ExpLeft false ds

abbrev Left : NumberState → Bool → List ℕ → Type 0
Left begin i bs = Number i bs
Left after_minus i bs = Unsigned i bs
Left after_zero i bs = Rest i bs
Left in_int i bs = IntLeft i bs
Left after_point i bs = FracDigits i bs
Left in_frac i bs = FracLeft i bs
Left after_e i bs = Power i bs
Left after_sign i bs = ExpDigits i bs
Left in_exp i bs = ExpLeft i bs

at-end : (s : NumberState) (i : Bool) → number_end s ≡ some i → Left s i []
at-end begin i h = none-not-some h
at-end after_minus i h = none-not-some h
at-end after_zero i h = let e : i ≡ true = cc in rw e (rest absent absent)
at-end in_int i h = let e : i ≡ true = cc in rw e (int_left [] refl (rest absent absent))
at-end after_point i h = none-not-some h
at-end in_frac i h = let e : i ≡ false = cc in rw e (frac_left [] refl absent)
at-end after_e i h = none-not-some h
at-end after_sign i h = none-not-some h
at-end in_exp i h = let e : i ≡ false = cc in rw e (exp_left {ds = []} refl)

-- one byte in front
rest-point : {i : Bool} {bs : List ℕ} → FracDigits i bs → Rest i (code "." ∷ bs)
rest-point (frac_digits d o) = rest (present (frac d)) o

exp_of : {i : Bool} {b : ℕ} {bs : List ℕ} → letter_e b ≡ true → Power i bs → (i ≡ false) × Exp (b ∷ bs)
exp_of t (no_sign d) = (refl, unsigned t d)
exp_of t (a_sign u d) = (refl, signed t u d)

rest-power : {i : Bool} {b : ℕ} {bs : List ℕ} → letter_e b ≡ true → Power i bs → Rest i (b ∷ bs)
rest-power t w = let z = exp_of t w in rw z.0 (rest absent (present z.1))

frac-power : {i : Bool} {b : ℕ} {bs : List ℕ} → letter_e b ≡ true → Power i bs → FracLeft i (b ∷ bs)
frac-power t w = let z = exp_of t w in rw z.0 (frac_left [] refl (present z.1))

int-more : {i : Bool} {b : ℕ} {bs : List ℕ} → digit b ≡ true → IntLeft i bs → IntLeft i (b ∷ bs)
int-more {b = b} t (int_left ds u r) = int_left (b ∷ ds) (simp (t, u)) r

int-first : {i : Bool} {b : ℕ} {bs : List ℕ} → within (code "1") (code "9") b ≡ true → IntLeft i bs → Unsigned i (b ∷ bs)
int-first t (int_left ds u r) = int (nonzero {bs = ds} t u) r

frac-more : {i : Bool} {b : ℕ} {bs : List ℕ} → digit b ≡ true → FracLeft i bs → FracLeft i (b ∷ bs)
frac-more {b = b} t (frac_left ds u o) = frac_left (b ∷ ds) (simp (t, u)) o

frac-first : {i : Bool} {b : ℕ} {bs : List ℕ} → digit b ≡ true → FracLeft i bs → FracDigits i (b ∷ bs)
frac-first t (frac_left ds u o) = frac_digits (digits {bs = ds} t u) o

exp_more : {i : Bool} {b : ℕ} {bs : List ℕ} → digit b ≡ true → ExpLeft i bs → ExpLeft i (b ∷ bs)
exp_more {b = b} {bs = bs} t (exp_left u) = let z : all digit (b ∷ bs) ≡ true = simp (t, u) in exp_left z

exp_first : {i : Bool} {b : ℕ} {bs : List ℕ} → digit b ≡ true → ExpLeft i bs → ExpDigits i (b ∷ bs)
exp_first t (exp_left u) = exp_all (digits t u)

power-digits : {i : Bool} {b : ℕ} {bs : List ℕ} → digit b ≡ true → ExpLeft i bs → Power i (b ∷ bs)
power-digits t (exp_left u) = no_sign (digits t u)

power-sign : {i : Bool} {b : ℕ} {bs : List ℕ} → sign b ≡ true → ExpDigits i bs → Power i (b ∷ bs)
power-sign t (exp_all d) = a_sign t d

positive : {i : Bool} {bs : List ℕ} → Unsigned i bs → Number i bs
positive (int n (rest f e)) = parts absent n f e

negative : {i : Bool} {bs : List ℕ} → Unsigned i bs → Number i (code "-" ∷ bs)
negative (int n (rest f e)) = parts (present refl) n f e

module _ (i : Bool) (b : ℕ) (bs : List ℕ) (t : NumberState) where
  came : (s : NumberState) → some s ≡ some t → Left t i bs → Left s i bs
  came s h w = let e : t ≡ s = cc in subst (λ (s : NumberState). Left s i bs) e w

  -- by the tests of a step from s
  abbrev Front : NumberState → Option NumberState → Type 0
  Front s y = y ≡ some t → Left t i bs → Left s i (b ∷ bs)

  front : (s : NumberState) → Front s (number_step s b)
  unfolding number_step
  front begin =
      by (Front begin) (eqb b (code "-")) (λ u h w. rw (eqb-true b (code "-") u) (negative (came after_minus h w)))
      (λ _. by (Front begin) (eqb b (code "0")) (λ u h w. rw (eqb-true b (code "0") u) (positive (int zero (came after_zero h w))))
      (λ _. by (Front begin) (within (code "1") (code "9") b) (λ u h w. positive (int-first u (came in_int h w))) (λ _ h. none-not-some h)))
  front after_minus =
      by (Front after_minus) (eqb b (code "0")) (λ u h w. rw (eqb-true b (code "0") u) (int zero (came after_zero h w)))
      (λ _. by (Front after_minus) (within (code "1") (code "9") b) (λ u h w. int-first u (came in_int h w)) (λ _ h. none-not-some h))
  front after_zero =
      by (Front after_zero) (eqb b (code ".")) (λ u h w. rw (eqb-true b (code ".") u) (rest-point (came after_point h w)))
      (λ _. by (Front after_zero) (letter_e b) (λ u h w. rest-power u (came after_e h w)) (λ _ h. none-not-some h))
  front in_int =
      by (Front in_int) (digit b) (λ u h w. int-more u (came in_int h w))
      (λ _. by (Front in_int) (eqb b (code ".")) (λ u h w. rw (eqb-true b (code ".") u) (int_left [] refl (rest-point (came after_point h w))))
      (λ _. by (Front in_int) (letter_e b) (λ u h w. int_left [] refl (rest-power u (came after_e h w))) (λ _ h. none-not-some h)))
  front after_point = by (Front after_point) (digit b) (λ u h w. frac-first u (came in_frac h w)) (λ _ h. none-not-some h)
  front in_frac =
      by (Front in_frac) (digit b) (λ u h w. frac-more u (came in_frac h w))
      (λ _. by (Front in_frac) (letter_e b) (λ u h w. frac-power u (came after_e h w)) (λ _ h. none-not-some h))
  front after_e =
      by (Front after_e) (sign b) (λ u h w. power-sign u (came after_sign h w))
      (λ _. by (Front after_e) (digit b) (λ u h w. power-digits u (came in_exp h w)) (λ _ h. none-not-some h))
  front after_sign = by (Front after_sign) (digit b) (λ u h w. exp_first u (came in_exp h w)) (λ _ h. none-not-some h)
  front in_exp = by (Front in_exp) (digit b) (λ u h w. exp_more u (came in_exp h w)) (λ _ h. none-not-some h)

left : {s : NumberState} {i : Bool} {bs : List ℕ} → Accepts s i bs → Left s i bs
left {s} {i} (ends h) = at-end s i h
left {s} {i} (steps {t = t} {b = b} {bs = bs} h a) = front i b bs t s h (left a)

pub accepted-number : {i : Bool} {bs : List ℕ} → Accepts begin i bs → Number i bs
accepted-number a = left a
