-- What a reader says of a character, in any dialect: a code point stands for a character of the grammar, a fault for a stop of the byte machine.
-- By induction on the bytes, along the steps of the machine; a run of the machine inside a character joins the two.
use Prim.Native.Nat.{ℕ, suc, ◌+◌, ◌≤◌, ◌<◌}
use native.Mathlib.Omega.{arith}
use native.Mathlib.Decide.{dec_lt}
use native.Mathlib.Nat.{le_of_suc-le}
use native.Mathlib.Numerals.{add-one}
use mathlib.Core.Path.{◌≡◌, refl, sym, ap, ◌∙◌}
use mathlib.Core.Bool.{true, false}
use mathlib.Core.List.{List, [], ◌∷◌}
use lib.ListN.{length, get_or, drop, drop_of_length-le}
use lib.Seq.{drop-cons}
use Rattle.grammar.specs.Serving.Machine.{Dialect, CharStep, Stack, StringRole, in_char, scan}
use Rattle.grammar.specs.Serving.Machine.CharStep.{stay, char, bad}
use Rattle.grammar.specs.Serving.Machine.Control.{InString, InChar}
use Rattle.grammar.specs.Serving.Machine.Out.{fault}
use Rattle.grammar.proofs.Booleans.{by}
use Rattle.grammar.proofs.TokenRuns.{CharRun, CharRun.char_whole, CharRun.char_on, CharStarts, CharStarts.char_starts, TokensSound, TokensComplete}
use Rattle.grammar.proofs.Steps.{goes_on, scan_cons}
use Rattle.std.specs.Prelude.{Result, Ok, Err, IsErrAnd}
use Rattle.std.proofs.lemmas.Result.{err_from_is_err_and}
use Rattle.strings.specs.declared.chars.Fault.{Fault}
use Rattle.strings.specs.Chars.{CharRead, Code, FaultAt, char_rest, char_next, char_from, rest_at, next_at, char_at}
use Rattle.strings.specs.Strings.{StopsAt}

-- the byte at place i, and what is left there
pub here : (s : List ℕ) (i : ℕ) → i < length s → drop i s ≡ get_or s i 0 ∷ drop (i + 1) s
here s i h = rw (add-one, drop-cons s i 0)

pub record Standing (s : List ℕ) (p b : ℕ) (l : List ℕ) : Type 0 where
  pub there : p < length s
  pub byte : get_or s p 0 ≡ b
  pub after : drop (suc p) s ≡ l

pub standing : (s : List ℕ) (p : ℕ) {b : ℕ} {l : List ℕ} → drop p s ≡ b ∷ l → Standing s p b l
standing s p {b} {l} e = go (dec_lt p (length s))
  where
    go : Dec (p < length s) → Standing s p b l
    go (yes h) = let k = drop-cons s p 0 h in record { there = h; byte = cc; after = cc }
    go (no h) = let k = drop_of_length-le s {i = p} (omega arith) in let z : ◌≡◌ {A = ℕ} 0 1 = cc in absurd (omega arith)

-- a fault that `?` hands on
pub handed_on : {T : Type 0} {f : Fault} (r : Result T Fault) → IsErrAnd r (λ e. e ≡ f) → r ≡ Err f
handed_on r h = let p = err_from_is_err_and r h in p.1 ∙ ap (λ (e : Fault). Err e) p.2

-- what a reader's answer holds
code_in : CharRead → ℕ
code_in (Ok x) = x.code
code_in (Err f) = 0

end_in : CharRead → ℕ
end_in (Ok x) = x.end
end_in (Err f) = 0

fault_in : {A : Type 0} → Result A Fault → ℕ
fault_in (Ok x) = 0
fault_in (Err f) = f.at

pub same-char : {x c p e : ℕ} → Code x p ≡ Code c e → (x ≡ c) × (p ≡ e)
unfolding code_in end_in
same-char h = (ap code_in h, ap end_in h)

pub same-fault : {A : Type 0} {p e : ℕ} → ◌≡◌ {A = Result A Fault} (FaultAt p) (FaultAt e) → p ≡ e
unfolding fault_in
same-fault h = ap fault_in h

pub fault-not-code : {A : Type 0} {p c e : ℕ} → FaultAt p ≡ Code c e → A
fault-not-code h = let z : ◌≡◌ {A = ℕ} 0 1 = cc in absurd (omega arith)

pub code-not-fault : {A : Type 0} {p c e : ℕ} → Code c e ≡ FaultAt p → A
code-not-fault h = let z : ◌≡◌ {A = ℕ} 0 1 = cc in absurd (omega arith)

module _ (D : Dialect) where
  pub rest_cons : (t : D.CharState) (p b : ℕ) (l : List ℕ) → char_rest D t p (b ∷ l) ≡ char_next D (D.char_step t b) p l
  unfolding char_rest
  rest_cons t p b l = go (D.char_step t b)
    where
      go : (y : CharStep D.CharState) → elim y as (λ _. CharRead) [ stay t ↦ char_rest D t (suc p) l | char c ↦ Code c (suc p) | bad ↦ FaultAt p ] ≡ char_next D y p l
      go (stay t) = refl
      go (char c) = refl
      go bad = refl

  -- a run gives the answer, and ends at a place of the same text
  pub run-code : {y : CharStep D.CharState} {p q c : ℕ} {l r : List ℕ} → CharRun D y (suc p) l q r c → char_next D y p l ≡ Code c q
  run-code char_whole = refl
  run-code (char_on {b = b} {l = l} {s = t} w) = rest_cons t _ b l ∙ run-code w

  pub record Within (s : List ℕ) (p q : ℕ) (r : List ℕ) : Type 0 where
    pub on : p ≤ q
    pub within : p ≤ length s → q ≤ length s
    pub left : drop q s ≡ r

  pub run-within : (s : List ℕ) {y : CharStep D.CharState} {p q c : ℕ} {l r : List ℕ} → CharRun D y p l q r c → drop p s ≡ l → Within s p q r
  run-within s char_whole e = record { on = omega arith; within = λ h. h; left = e }
  run-within s (char_on {p = p} w) e =
      let h = standing s p e in
      let i = run-within s w h.after in
      record { on = le_of_suc-le i.on; within = λ _. i.within h.there; left = i.left }

  -- the answer gives a run
  whole : (s : List ℕ) {x c p e : ℕ} {l : List ℕ} → Code x p ≡ Code c e → drop p s ≡ l → CharRun D (char x) p l e (drop e s) c
  whole s {x} {c} {p} {e} h g = let f : x ≡ c = (same-char h).0 in let k : p ≡ e = (same-char h).1 in rw (← f, ← k, g) char_whole

  next-run : (s : List ℕ) {l : List ℕ} {p c e : ℕ} → drop (suc p) s ≡ l
      → ((t : D.CharState) → char_rest D t (suc p) l ≡ Code c e → CharRun D (stay t) (suc p) l e (drop e s) c)
      → (y : CharStep D.CharState) → char_next D y p l ≡ Code c e → CharRun D y (suc p) l e (drop e s) c
  next-run s d ih (stay t) h = ih t h
  next-run s d ih (char x) h = whole s h d
  next-run s d ih bad h = fault-not-code h

  pub rest-run : (s l : List ℕ) (t : D.CharState) (p c e : ℕ) → drop p s ≡ l → char_rest D t p l ≡ Code c e → CharRun D (stay t) p l e (drop e s) c
  unfolding char_rest
  rest-run s [] t p c e d h = fault-not-code h
  rest-run s (b ∷ l) t p c e d h =
      let k = standing s p d in char_on (next-run s k.after (λ u. rest-run s l u (suc p) c e k.after) (D.char_step t b) (sym (rest_cons t p b l) ∙ h))

  -- a fault is a stop of the machine
  next-fault : (lim : ℕ) (d : StringRole) (acc : List ℕ) (k : Stack) (p e : ℕ) (l : List ℕ)
      → ((t : D.CharState) → char_rest D t (suc p) l ≡ FaultAt e → scan D lim (InChar d acc t) k (suc p) l ≡ fault e)
      → (y : CharStep D.CharState) → char_next D y p l ≡ FaultAt e → goes_on D lim (in_char D y d acc k) p l ≡ fault e
  next-fault lim d acc k p e l ih (stay t) h = ih t h
  next-fault lim d acc k p e l ih (char x) h = code-not-fault h
  next-fault lim d acc k p e l ih bad h = ap (λ (n : ℕ). fault n) (same-fault h)

  rest-fault : (lim : ℕ) (d : StringRole) (acc : List ℕ) (k : Stack) (l : List ℕ) (t : D.CharState) (p e : ℕ)
      → char_rest D t p l ≡ FaultAt e → scan D lim (InChar d acc t) k p l ≡ fault e
  unfolding char_rest scan
  rest-fault lim d acc k [] t p e h = ap (λ (n : ℕ). fault n) (same-fault h)
  rest-fault lim d acc k (b ∷ l) t p e h =
      scan_cons D lim (InChar d acc t) k p b l
      ∙ next-fault lim d acc k p e l (λ u. rest-fault lim d acc k l u (suc p) e) (D.char_step t b) (sym (rest_cons t p b l) ∙ h)

  -- a character at a place of a text
  pub record CharThere (s : List ℕ) (i c e : ℕ) : Type 0 where
    pub on : i < e
    pub within : e ≤ length s
    pub char : D.lexis.Char i (drop i s) e (drop e s) c

  pub char-there : TokensSound D → (s : List ℕ) (i c e : ℕ) → char_at D s i ≡ Code c e → CharThere s i c e
  unfolding char_at char_from
  char-there S s i c e = go (drop i s) refl
    where
      got : {b : ℕ} {l : List ℕ} → drop i s ≡ b ∷ l → D.lexis.quote b ≡ false → char_next D (D.char_start b) i l ≡ Code c e → CharThere s i c e
      got {b} {l} d t h =
          let k = standing s i d in
          let w = next-run s k.after (λ u. rest-run s l u (suc i) c e k.after) (D.char_start b) h in
          let r = run-within s w k.after in
          record { on = r.on; within = r.within k.there; char = rw d (S.chars t w) }

      go : (l : List ℕ) → drop i s ≡ l → char_from D i l ≡ Code c e → CharThere s i c e
      go [] d h = fault-not-code h
      go (b ∷ l) d h = by (λ y. y ≡ Code c e → CharThere s i c e) (D.lexis.quote b) (λ _ h. fault-not-code h) (λ t h. got d t h) h

  -- a character of the grammar has one code point and one end: those of the answer
  pub char-code : TokensComplete D → {p q c : ℕ} {l r : List ℕ} → D.lexis.Char p l q r c → char_from D p l ≡ Code c q
  unfolding char_from
  char-code L w = go (L.chars w)
    where
      go : {p q c : ℕ} {l r : List ℕ} → CharStarts D p l q r c → char_from D p l ≡ Code c q
      go (char_starts t w) = rw t (run-code w)

  pub char_unique : TokensComplete D → {p q o c d : ℕ} {l r m : List ℕ} → D.lexis.Char p l q r c → D.lexis.Char p l o m d → (c ≡ d) × (q ≡ o)
  char_unique L u v = same-char (sym (char-code L u) ∙ char-code L v)

  pub record Coded (s : List ℕ) (i c e : ℕ) (r : List ℕ) : Type 0 where
    pub code : char_at D s i ≡ Code c e
    pub left : drop e s ≡ r

  pub char-coded : TokensComplete D → (s : List ℕ) {i e c : ℕ} {l r : List ℕ} → D.lexis.Char i l e r c → drop i s ≡ l → Coded s i c e r
  unfolding char_at
  char-coded L s w d = record { code = rw d (char-code L w); left = go (L.chars w) d }
    where
      go : {i e c : ℕ} {l r : List ℕ} → CharStarts D i l e r c → drop i s ≡ l → drop e s ≡ r
      go (char_starts {p = i} t w) d = (run-within s w (standing s i d).after).left

  pub no_char : (s : List ℕ) (i e : ℕ) → char_at D s i ≡ FaultAt e → (i < length s → D.lexis.quote (get_or s i 0) ≡ false)
      → (d : StringRole) (acc : List ℕ) → StopsAt D s (InString d acc) i e
  unfolding char_at char_from scan
  no_char s i e h n d acc lim k = go (drop i s) refl h
    where
      stops : (b : ℕ) (l : List ℕ) → D.lexis.quote b ≡ false → char_next D (D.char_start b) i l ≡ FaultAt e → scan D lim (InString d acc) k i (b ∷ l) ≡ fault e
      stops b l t h =
          scan_cons D lim (InString d acc) k i b l ∙ rw t (next-fault lim d acc k i e l (λ u. rest-fault lim d acc k l u (suc i) e) (D.char_start b) h)

      go : (l : List ℕ) → drop i s ≡ l → char_from D i l ≡ FaultAt e → scan D lim (InString d acc) k i l ≡ fault e
      go [] m h = ap (λ (n : ℕ). fault n) (same-fault h)
      go (b ∷ l) m h =
          let f = standing s i m in
          let t : D.lexis.quote b ≡ false = rw f.byte at (n f.there) in
          stops b l t (rw t at h)

  -- what stands after a step at place i of a text
  pub stay-at : (u : D.CharState) (s : List ℕ) (i : ℕ) → next_at D (stay u) s i ≡ rest_at D u s (i + 1)
  unfolding next_at rest_at
  stay-at u s i = rw add-one refl

  pub char_at_lem : (c : ℕ) (s : List ℕ) (i : ℕ) → next_at D (char c) s i ≡ Code c (i + 1)
  unfolding next_at
  char_at_lem c s i = rw add-one refl

  pub bad-at : (s : List ℕ) (i : ℕ) → next_at D bad s i ≡ FaultAt i
  unfolding next_at
  bad-at s i = refl

  -- a reader's step at place i of a text
  module _ (t : D.CharState) (s : List ℕ) (i : ℕ) where
    pub at-end : length s ≤ i → FaultAt i ≡ rest_at D t s i
    unfolding rest_at char_rest
    at-end h = rw (drop_of_length-le s h) refl

    pub at-step : (y : CharStep D.CharState) → i < length s → D.char_step t (get_or s i 0) ≡ y → next_at D y s i ≡ rest_at D t s i
    unfolding rest_at next_at
    at-step y h e = rw (drop-cons s i 0 h, ← e) (sym (rest_cons t i _ _))

    pub at-bad : i < length s → D.char_step t (get_or s i 0) ≡ bad → FaultAt i ≡ rest_at D t s i
    at-bad h e = sym (bad-at s i) ∙ at-step bad h e

    pub at-char : (c : ℕ) → i < length s → D.char_step t (get_or s i 0) ≡ char c → Code c (i + 1) ≡ rest_at D t s i
    at-char c h e = sym (char_at_lem c s i) ∙ at-step (char c) h e

    pub at-stay : (u : D.CharState) → i < length s → D.char_step t (get_or s i 0) ≡ stay u → rest_at D u s (i + 1) ≡ rest_at D t s i
    at-stay u h e = sym (stay-at u s i) ∙ at-step (stay u) h e

  -- a character's first byte at place i
  module _ (s : List ℕ) (i : ℕ) where
    pub none-at-end : length s ≤ i → FaultAt i ≡ char_at D s i
    unfolding char_at char_from
    none-at-end h = rw (drop_of_length-le s h) refl

    pub none-at-quote : i < length s → D.lexis.quote (get_or s i 0) ≡ true → FaultAt i ≡ char_at D s i
    unfolding char_at char_from
    none-at-quote h e = rw (drop-cons s i 0 h, e) refl

    pub starts_at_lem : (y : CharStep D.CharState) → i < length s → D.lexis.quote (get_or s i 0) ≡ false → D.char_start (get_or s i 0) ≡ y → next_at D y s i ≡ char_at D s i
    unfolding char_at char_from next_at
    starts_at_lem y h e f = rw (drop-cons s i 0 h, e, ← f) refl
