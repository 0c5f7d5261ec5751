-- The machine inside the words and numbers of message text: sound, complete and completable.
-- Inside a number a run is a path of the automaton over the number's bytes; inside a word the laws of words hold.
use Prim.Native.Nat.{ℕ, suc, ◌≤◌}
use Prim.Native.Char.{code}
use native.Mathlib.Omega.{arith}
use mathlib.Core.Path.{◌≡◌, refl, ◌∙◌}
use mathlib.Core.Bool.{Bool, true, false, ◌||◌}
use mathlib.Core.List.{List, [], ◌∷◌, ◌++◌, reverse, reverse_aux}
use mathlib.Core.Option.{Option, some, none}
use lib.Dec.{eqb}
use borrow.Author.Tests.{eqb-true, ne_eqb, not-true}
use Rattle.grammar.specs.Notation.{text, within, digit}
use Rattle.grammar.specs.Tree.{Scalar, Scalar.null, Scalar.bool, Scalar.num}
use Rattle.grammar.specs.Lexis.{blank, Spells, Spells.spelled, Spells.then_byte}
use Rattle.grammar.specs.MessageText.{letter_e, MessageUnquoted, MessageUnquoted.word_null, MessageUnquoted.word_true, MessageUnquoted.word_false, MessageUnquoted.number}
use Rattle.grammar.specs.Serving.Machine.{TokenStep, TokenStep.on, TokenStep.past, TokenStep.off}
use Rattle.grammar.specs.Serving.Machine.Message.{message, NumberState, number_step, number_end, TokenState, TokenState.word, number_start, token_start, number_on, token_step, numeral}
use Rattle.grammar.specs.Serving.Machine.Message.{stops}
use Rattle.grammar.specs.Serving.Machine.Message.NumberState.{begin, after_minus, after_zero, in_int, after_point, in_frac, after_e, after_sign, in_exp}
use Rattle.grammar.proofs.Booleans.{by, none-not-some, within-true}
use Rattle.grammar.proofs.TokenRuns.{TokenRun, TokenRun.token_finished, TokenRun.token_past, TokenRun.token_on, TokenStarts, TokenStarts.token_starts, First, Stopped}
use Rattle.grammar.proofs.TokenRuns.{TokenEnds}
use Rattle.grammar.proofs.Words.{in_state, spells, Words, Spelled, word_sound, word-complete, word-ends}
use Rattle.grammar.proofs.Numbers.{Accepts, Accepts.ends, Accepts.steps, number-accepted, accepted-number}

pub words : Words message word
unfolding token_step
words = record { steps = λ w ws v b. refl; ends = λ w ws v. refl }

-- a run inside a number, of which acc is read, in reverse
record Numeral (s : NumberState) (acc : List ℕ) (p : ℕ) (l : List ℕ) (q : ℕ) (r : List ℕ) (v : Scalar) : Type 0 where
  bytes : List ℕ
  integer : Bool
  spells : Spells bytes p l q r
  accepts : Accepts s integer bytes
  same : v ≡ num integer (reverse_aux acc bytes)

-- nothing more is read
nothing-more : {s : NumberState} {acc : List ℕ} {p : ℕ} {l : List ℕ} {v : Scalar} (i : Bool) → number_end s ≡ some i → v ≡ num i (reverse acc) → Numeral s acc p l p l v
nothing-more i h e = record { bytes = []; integer = i; spells = spelled; accepts = ends h; same = e }

one_more : {s t : NumberState} {acc : List ℕ} {p q b : ℕ} {l r : List ℕ} {v : Scalar} → number_step s b ≡ some t → Numeral t (b ∷ acc) (suc p) l q r v
    → Numeral s acc p (b ∷ l) q r v
one_more {b = b} h z = record { bytes = b ∷ z.bytes; integer = z.integer; spells = then_byte z.spells; accepts = steps h z.accepts; same = z.same }

number_end_lem : (s : NumberState) (acc : List ℕ) (p : ℕ) (v : Scalar) → numeral (number_end s) acc ≡ some v → Numeral s acc p [] p [] v
number_end_lem s acc p v = go (number_end s) refl
  where
    go : (y : Option Bool) → number_end s ≡ y → numeral y acc ≡ some v → Numeral s acc p [] p [] v
    go (some i) h e = nothing-more i h cc
    go none h e = none-not-some e

not-past : {A : Type 0} {t : TokenState} {v : Scalar} → on t ≡ past v → A
not-past e = let z : ◌≡◌ {A = ℕ} 0 1 = cc in absurd (omega arith)

off-past : {A : Type 0} {v : Scalar} → ◌≡◌ {A = TokenStep TokenState} off (past v) → A
off-past e = let z : ◌≡◌ {A = ℕ} 0 1 = cc in absurd (omega arith)

number_past_lem : (s : NumberState) (acc : List ℕ) (p b : ℕ) (l : List ℕ) (v : Scalar) → number_on (number_step s b) (number_end s) acc b ≡ past v → Numeral s acc p (b ∷ l) p (b ∷ l) v
number_past_lem s acc p b l v = go (number_step s b) (number_end s) refl
  where
    go : (x : Option NumberState) (y : Option Bool) → number_end s ≡ y → number_on x y acc b ≡ past v → Numeral s acc p (b ∷ l) p (b ∷ l) v
    go (some t) y h e = not-past e
    go none (some i) h e = nothing-more i h cc
    go none none h e = off-past e

past-run : {A : Type 0} {u v : Scalar} {p q : ℕ} {l r : List ℕ} → TokenRun message (past u) p l q r v → A
past-run = elim [ ]

off-run : {A : Type 0} {v : Scalar} {p q : ℕ} {l r : List ℕ} → TokenRun message off p l q r v → A
off-run = elim [ ]

number_on_lem : (l : List ℕ)
    → ((s : NumberState) (acc : List ℕ) (p q : ℕ) (r : List ℕ) (v : Scalar) → TokenRun message (on (TokenState.number s acc)) p l q r v → Numeral s acc p l q r v)
    → (s : NumberState) (acc : List ℕ) (p q b : ℕ) (r : List ℕ) (v : Scalar) → TokenRun message (number_on (number_step s b) (number_end s) acc b) (suc p) l q r v
    → Numeral s acc p (b ∷ l) q r v
number_on_lem l ih s acc p q b r v = go (number_step s b) refl (number_end s)
  where
    go : (x : Option NumberState) → number_step s b ≡ x → (y : Option Bool) → TokenRun message (number_on x y acc b) (suc p) l q r v → Numeral s acc p (b ∷ l) q r v
    go (some t) h y w = one_more h (ih t (b ∷ acc) (suc p) q r v w)
    go none h (some i) w = past-run w
    go none h none w = off-run w

number-last : {s : NumberState} {acc : List ℕ} {p q : ℕ} {r : List ℕ} {v : Scalar} → TokenRun message (on (TokenState.number s acc)) p [] q r v → Numeral s acc p [] q r v
number-last {s} {acc} (token_finished e) = number_end_lem s acc _ _ e

number-next : {s : NumberState} {acc : List ℕ} {p q b : ℕ} {l r : List ℕ} {v : Scalar}
    → ((s : NumberState) (acc : List ℕ) (p q : ℕ) (r : List ℕ) (v : Scalar) → TokenRun message (on (TokenState.number s acc)) p l q r v → Numeral s acc p l q r v)
    → TokenRun message (on (TokenState.number s acc)) p (b ∷ l) q r v → Numeral s acc p (b ∷ l) q r v
unfolding token_step
number-next {s} {acc} ih (token_past {p = p} {b = b} {l = l} {v = v} e) = number_past_lem s acc p b l v e
number-next {s} {acc} ih (token_on {p = p} {q = q} {b = b} {l = l} {r = r} {v = v} w) = number_on_lem l ih s acc p q b r v w

number-sound : (l : List ℕ) (s : NumberState) (acc : List ℕ) (p q : ℕ) (r : List ℕ) (v : Scalar) → TokenRun message (on (TokenState.number s acc)) p l q r v
    → Numeral s acc p l q r v
number-sound [] s acc p q r v w = number-last w
number-sound (b ∷ l) s acc p q r v w = number-next (number-sound l) w

pub token-sound : {p q b : ℕ} {l r : List ℕ} {s : TokenState} {v : Scalar} → token_start b ≡ some s → TokenRun message (on s) (suc p) l q r v → MessageUnquoted p (b ∷ l) q r v
unfolding token_start
token-sound {p} {q} {b} {l} {r} {s} {v} = go (number_step begin b) refl
  where
    number_of : {t : NumberState} → number_step begin b ≡ some t → Numeral t (b ∷ []) (suc p) l q r v → MessageUnquoted p (b ∷ l) q r v
    number_of h z = rw z.same (number (accepted-number (steps h z.accepts)) (then_byte z.spells))

    is-null : Spelled message word (text "ull") null (suc p) l q r v → MessageUnquoted p (code "n" ∷ l) q r v
    is-null z = rw z.same (word_null (then_byte z.bytes))

    is_true : Spelled message word (text "rue") (bool true) (suc p) l q r v → MessageUnquoted p (code "t" ∷ l) q r v
    is_true z = rw z.same (word_true (then_byte z.bytes))

    is_false : Spelled message word (text "alse") (bool false) (suc p) l q r v → MessageUnquoted p (code "f" ∷ l) q r v
    is_false z = rw z.same (word_false (then_byte z.bytes))

    P : Option TokenState → Type 0
    P y = y ≡ some s → TokenRun message (on s) (suc p) l q r v → MessageUnquoted p (b ∷ l) q r v

    go : (y : Option NumberState) → number_step begin b ≡ y → P (number_start y b)
    go (some t) h = λ e w. number_of h (number-sound l t (b ∷ []) (suc p) q r v (in_state e w))
    go none h =
        by P (eqb b (code "n")) (λ t e w. rw (eqb-true b (code "n") t) (is-null (word_sound message word words (code "u") (text "ll") (in_state e w))))
        (λ _. by P (eqb b (code "t")) (λ t e w. rw (eqb-true b (code "t") t) (is_true (word_sound message word words (code "r") (text "ue") (in_state e w))))
        (λ _. by P (eqb b (code "f")) (λ t e w. rw (eqb-true b (code "f") t) (is_false (word_sound message word words (code "a") (text "lse") (in_state e w))))
        (λ _ e. none-not-some e)))

-- a number ends before a byte that stops it
record NotInNumber (b : ℕ) : Type 0 where
  no_digit : digit b ≡ false
  no_point : eqb b (code ".") ≡ false
  no_e : letter_e b ≡ false

stopping : (b : ℕ) → stops b ≡ true → NotInNumber b
unfolding stops
stopping b t = go (digit b) refl (eqb b (code ".")) refl (letter_e b) refl (not-true (digit b || eqb b (code ".") || letter_e b) t)
  where
    go : (x : Bool) → digit b ≡ x → (y : Bool) → eqb b (code ".") ≡ y → (z : Bool) → letter_e b ≡ z → (x || y || z) ≡ false → NotInNumber b
    go false f false g z h e = record { no_digit = f; no_point = g; no_e = h ∙ e }
    go false f true g z h e = let n : ◌≡◌ {A = ℕ} 0 1 = cc in absurd (omega arith)
    go true f false g z h e = let n : ◌≡◌ {A = ℕ} 0 1 = cc in absurd (omega arith)
    go true f true g z h e = let n : ◌≡◌ {A = ℕ} 0 1 = cc in absurd (omega arith)

stopped : (s : NumberState) (i : Bool) (b : ℕ) → number_end s ≡ some i → NotInNumber b → number_step s b ≡ none
unfolding number_step
stopped begin i b e n = none-not-some e
stopped after_minus i b e n = none-not-some e
stopped after_zero i b e n = simp (n.no_point, n.no_e)
stopped in_int i b e n = simp (n.no_digit, n.no_point, n.no_e)
stopped after_point i b e n = none-not-some e
stopped in_frac i b e n = simp (n.no_digit, n.no_e)
stopped after_e i b e n = none-not-some e
stopped after_sign i b e n = none-not-some e
stopped in_exp i b e n = simp n.no_digit

number-stops : (s : NumberState) (i : Bool) (acc : List ℕ) (p : ℕ) (r : List ℕ) → number_end s ≡ some i → Stopped message r
    → TokenRun message (on (TokenState.number s acc)) p r p r (num i (reverse acc))
unfolding token_step
number-stops s i acc p [] e g = let h : numeral (number_end s) acc ≡ some (num i (reverse acc)) = rw e refl in token_finished h
number-stops s i acc p (b ∷ r) e g =
    let h : number_on (number_step s b) (number_end s) acc b ≡ past (num i (reverse acc)) = rw (stopped s i b e (stopping b g), e) refl in token_past h

step-on : {s t : NumberState} {acc : List ℕ} {p q b : ℕ} {l r : List ℕ} {v : Scalar}
    → number_step s b ≡ some t → TokenRun message (on (TokenState.number t (b ∷ acc))) (suc p) l q r v → TokenRun message (on (TokenState.number s acc)) p (b ∷ l) q r v
unfolding token_step
step-on {s} {t} {acc} {p} {q} {b} {l} {r} {v} h w = let z : TokenRun message (number_on (number_step s b) (number_end s) acc b) (suc p) l q r v = rw h w in token_on z

number-complete : {s : NumberState} {i : Bool} {bs : List ℕ} → Accepts s i bs → (acc : List ℕ) {p q : ℕ} {l r : List ℕ} → Spells bs p l q r → Stopped message r
    → TokenRun message (on (TokenState.number s acc)) p l q r (num i (reverse_aux acc bs))
number-complete {s} {i} (ends e) acc {p} {r = r} spelled g = number-stops s i acc p r e g
number-complete (steps {b = b} h a) acc (then_byte w) g = step-on h (number-complete a (b ∷ acc) w g)

-- the first byte of a word or number
pub first : (b : ℕ) → blank b ≡ false → eqb b (code "]") ≡ false → eqb b (code "}") ≡ false → First message b
first b e f g = record { solid = record { no_blank = e; no_comment = refl }; no_end_array = f; no_end_object = g }

pub begin_range : (b : ℕ) (t : NumberState) → number_step begin b ≡ some t → (45 ≤ b) × (b ≤ 57)
unfolding number_step
begin_range b t =
    let P : Option NumberState → Type 0 = λ y. y ≡ some t → (45 ≤ b) × (b ≤ 57) in
    by P (eqb b (code "-")) (λ u h. let e = eqb-true b (code "-") u in (omega arith, omega arith))
    (λ _. by P (eqb b (code "0")) (λ u h. let e = eqb-true b (code "0") u in (omega arith, omega arith))
    (λ _. by P (within (code "1") (code "9") b) (λ u h. let e = within-true (code "1") (code "9") b u in (omega arith, omega arith)) (λ _ h. none-not-some h)))

pub number-first : (b : ℕ) → 45 ≤ b → b ≤ 57 → First message b
unfolding blank
number-first b h g =
    first b (simp (ne_eqb b (code " ") (omega arith), ne_eqb b (code "\t") (omega arith), ne_eqb b (code "\n") (omega arith), ne_eqb b (code "\r") (omega arith)))
    (ne_eqb b (code "]") (omega arith)) (ne_eqb b (code "}") (omega arith))

number-starts : {i : Bool} {bs : List ℕ} → Accepts begin i bs → {p q : ℕ} {l r : List ℕ} → Spells bs p l q r → Stopped message r → TokenStarts message p l q r (num i bs)
unfolding token_start
number-starts (ends e) w g = none-not-some e
number-starts (steps {t = t} {b = b} h a) (then_byte w) g =
    let z = begin_range b t h in
    let e : number_start (number_step begin b) b ≡ some (TokenState.number t (b ∷ [])) = rw h refl in
    token_starts (number-first b z.0 z.1) (ne_eqb b (code "\"") (omega arith)) (ne_eqb b (code "[") (omega arith)) (ne_eqb b (code "{") (omega arith)) e
    (number-complete a (b ∷ []) w g)

pub token-complete : {p q : ℕ} {l r : List ℕ} {v : Scalar} → MessageUnquoted p l q r v → Stopped message r → TokenStarts message p l q r v
unfolding token_start blank
token-complete (word_null (then_byte s)) g = token_starts (first (code "n") refl refl refl) refl refl refl refl (word-complete message word words (code "u") (text "ll") s)
token-complete (word_true (then_byte s)) g = token_starts (first (code "t") refl refl refl) refl refl refl refl (word-complete message word words (code "r") (text "ue") s)
token-complete (word_false (then_byte s)) g = token_starts (first (code "f") refl refl refl) refl refl refl refl (word-complete message word words (code "a") (text "lse") s)
token-complete (number n s) g = number-starts (number-accepted n) s g

-- a number is completed by a digit, or by nothing
abbrev number_rest : NumberState → List ℕ
number_rest begin = code "0" ∷ []
number_rest after_minus = code "0" ∷ []
number_rest after_zero = []
number_rest in_int = []
number_rest after_point = code "0" ∷ []
number_rest in_frac = []
number_rest after_e = code "0" ∷ []
number_rest after_sign = code "0" ∷ []
number_rest in_exp = []

rest-accepted : (s : NumberState) → (i : Bool) × Accepts s i (number_rest s)
unfolding number_step
rest-accepted begin = (true, steps refl (ends {s = after_zero} refl))
rest-accepted after_minus = (true, steps refl (ends {s = after_zero} refl))
rest-accepted after_zero = (true, ends refl)
rest-accepted in_int = (true, ends refl)
rest-accepted after_point = (false, steps refl (ends {s = in_frac} refl))
rest-accepted in_frac = (false, ends refl)
rest-accepted after_e = (false, steps refl (ends {s = in_exp} refl))
rest-accepted after_sign = (false, steps refl (ends {s = in_exp} refl))
rest-accepted in_exp = (false, ends refl)

abbrev pub token_rest : TokenState → List ℕ
token_rest (word w ws v) = w ∷ ws
token_rest (TokenState.number s acc) = number_rest s

pub token_ends : (s : TokenState) (p : ℕ) (r : List ℕ) → Stopped message r → TokenEnds message s p (token_rest s ++ r) r
token_ends (word w ws v) p r g = word-ends message word words w ws v p r
token_ends (TokenState.number s acc) p r g =
    let z = rest-accepted s in
    let w = spells (number_rest s) r p in
    record { place = w.0; scalar = num z.0 (reverse_aux acc (number_rest s)); run = number-complete z.1 acc w.1 g }
