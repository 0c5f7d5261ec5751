-- 24 in the words of its rule: that one level more would allow the next byte, and that it is an opening bracket where a value may stand, say the same of a message.
-- The idea: over the longest viable start the machine comes to one control. Levels run out only where a value may begin; and where both `0` and `true` go on, a bracket is no fault.
use Prim.Native.Nat.{ℕ, suc, ◌≤◌, ◌<◌}
use Prim.Native.Char.{code}
use native.Mathlib.Omega.{arith}
use mathlib.Core.Logic.{◌↔◌, inl, inr}
use mathlib.Core.Path.{◌≡◌, refl, sym, ap, ◌∙◌, subst}
use mathlib.Core.Bool.{Bool, true, false, cond}
use mathlib.Core.List.{List, [], ◌∷◌, ◌++◌, append_assoc, append-nil}
use lib.ListN.{length, take, drop, get_or, length-append}
use lib.Seq.{length-take-le, take-length, split_at}
use lib.Dec.{ltb, eqb}
use borrow.Author.Tests.{eqb-true}
use Rattle.grammar.specs.Limits.{message_levels}
use Rattle.grammar.specs.Notation.{text, within}
use Rattle.grammar.specs.Tree.{Json, Json.leaf, Items, Items.no_items, Items.item, Scalar.bool, Scalar.num}
use Rattle.grammar.specs.Lexis.{blank, Spells.spelled, Spells.then_byte}
use Rattle.grammar.specs.Grammar.{Value, Value.unquoted, Text}
use Rattle.grammar.specs.MessageText.{join, hex_digit, Optional.absent, Int.zero, Number.parts, MessageUnquoted.word_true, MessageUnquoted.number, message_lexis}
use Rattle.grammar.specs.Starts.{Opening, Viable, Longest, TooDeep, ValueMayFollow, OpensTooDeep}
use Rattle.grammar.specs.Serving.Machine.{CharStep.bad, TokenStep.off}
use Rattle.grammar.specs.Serving.Machine.{Out, Out.whole, Out.fault, Out.deep, Stack, Stack.bottom, Stack.in_array, Stack.in_object, StringRole, Next, Next.to, Next.stuck, Next.over, Control}
use Rattle.grammar.specs.Serving.Machine.{depth, opens, spell, follow, in_char, in_token, step, finish, scan, read}
use Rattle.grammar.specs.Serving.Machine.Control.{AtObject, AtValue, AtElement, After, AtFirstKey, AtKey, AtColon, InString, InChar, InToken, InComment}
use Rattle.grammar.specs.Serving.Machine.Message.{message, read_message, CharState, Want, NumberState, TokenState, char_start, char_step, escape_of, token_step, number_step, lowest, highest, wanted}
use Rattle.grammar.specs.Serving.Machine.Message.CharState.{escape, hex0, hex1, hex2, hex3, low_backslash, low_u, low0, low1, low2, low3, utf8}
use Rattle.grammar.specs.Serving.Machine.Message.Want.{one, two, two_E0, two_ED, three, three_F0, three_F4}
use Rattle.grammar.specs.Serving.Machine.Message.NumberState.{begin, after_minus, after_zero, in_int, after_point, in_frac, after_e, after_sign, in_exp}
use Rattle.grammar.specs.Serving.Machine.Message.TokenState.{word, number as in_number}
use Rattle.grammar.proofs.Booleans.{clash}
use Rattle.grammar.proofs.Rest.{level}
use Rattle.grammar.proofs.Steps.{Stops, goes_on, scan_cons, range}
use Rattle.grammar.proofs.Spans.{value-span, message_spans}
use Rattle.grammar.proofs.Sound.{sound}
use Rattle.grammar.proofs.Complete.{complete, value-run, element-run}
use Rattle.grammar.proofs.Viable.{longest}
use Rattle.grammar.proofs.Starts.{longest_unique, whole-viable}
use Rattle.grammar.proofs.Levels.{Wants, Wants.an_object, Wants.a_value, Wants.an_element, Wants.another, Raised, Raised.same, Raised.none, Raised.more, raised, Reached, reach}
use Rattle.grammar.proofs.MessageDialect.{message-tokens-sound, message-tokens-complete, message-tokens_completable}
use Rattle.grammar.proofs.Texts.{message-read, message-item, message_bracket, message-deep, message-fault, message-too_deep}

abbrev lim : ℕ
lim = message_levels

-- ---- where levels run out any value without brackets is read
-- a control at which the text may end has read one value
abbrev OneValue : Control message → Stack → ℕ → Type 0
OneValue c k p = (js : Items) → finish message c k p ≡ whole js → (j : Json) × (js ≡ item j no_items)

no_value : {A : Type 0} → (j : Json) × (no_items ≡ item j no_items) → A
no_value z = let e = z.1 in let y : ◌≡◌ {A = ℕ} 0 1 = cc in absurd (omega arith)

wants-value : {c : Control message} {k : Stack} {p q : ℕ} {v : List ℕ} {j : Json} → Wants message lim c k → level message c k ≤ lim → OneValue c k p → Value message_lexis 0 p v q [] j
    → (k' : Stack) × (scan message lim c k p v ≡ scan message lim (After j) k' q [])
wants-value (an_object {k = bottom js} h) l f w = absurd (omega arith)
wants-value (an_object {k = in_array a js k} h) l f w = no_value (f no_items refl)
wants-value (an_object {k = in_object a fs s e cs k} h) l f w = no_value (f no_items refl)
wants-value (a_value {k} h) l f w = (k, (value-run message message-tokens-complete lim w k (omega arith) tt).path)
wants-value (an_element {a} {k} h) l f w = (in_array a no_items k, (element-run message message-tokens-complete lim w a k (omega arith) tt).path)
wants-value (another t) l f w = clash t refl

-- ---- where both `0` and `true` may go on, a bracket is no fault
abbrev Live : Next message → Type 0
Live (to c k) = Unit {0}
Live stuck = ⊥
Live over = ⊥

abbrev NoFault : Next message → Type 0
NoFault (to c k) = Unit {0}
NoFault stuck = ⊥
NoFault over = Unit {0}

opens-goes : (c : Control message) (k : Stack) → NoFault (opens message lim c k)
opens-goes c k = go (ltb (depth k) lim)
  where
    go : (t : Bool) → NoFault (cond t (to c k) over)
    go true = tt
    go false = tt

module _ (k : Stack) (p : ℕ) where
  at_value : (b : ℕ) → Opening b → NoFault (step message lim AtValue k p b)
  unfolding blank
  at_value b (inl e) = subst (λ (x : ℕ). NoFault (step message lim AtValue k p x)) (sym e) (opens-goes (AtElement p) k)
  at_value b (inr e) = subst (λ (x : ℕ). NoFault (step message lim AtValue k p x)) (sym e) (opens-goes (AtFirstKey p) k)

  at_element : (a b : ℕ) → Opening b → NoFault (step message lim (AtElement a) k p b)
  unfolding blank
  at_element a b (inl e) = subst (λ (x : ℕ). NoFault (step message lim (AtElement a) k p x)) (sym e) (opens-goes (AtElement p) (in_array a no_items k))
  at_element a b (inr e) = subst (λ (x : ℕ). NoFault (step message lim (AtElement a) k p x)) (sym e) (opens-goes (AtFirstKey p) (in_array a no_items k))

  in_string : (d : StringRole) (acc : List ℕ) (b : ℕ) → Opening b → NoFault (step message lim (InString d acc) k p b)
  unfolding char_start
  in_string d acc b (inl e) = subst (λ (x : ℕ). NoFault (step message lim (InString d acc) k p x)) (sym e) tt
  in_string d acc b (inr e) = subst (λ (x : ℕ). NoFault (step message lim (InString d acc) k p x)) (sym e) tt

  in_comment : (c : Control message) (t : Bool) → NoFault (cond t (to c k) (to (InComment c) k))
  in_comment c true = tt
  in_comment c false = tt

-- a byte that neither separates nor closes does not follow a value
no_follow : (b : ℕ) → eqb b (code ",") ≡ false → eqb b (code "]") ≡ false → eqb b (code "}") ≡ false → (v : Json) (k : Stack) (p : ℕ) → Live (follow message lim v k p b) → ⊥
no_follow b e f g v (bottom js) p h = h
no_follow b e f g v (in_array a js k) p h = rw (e, f) at h
no_follow b e f g v (in_object a fs s i cs k) p h = rw (e, g) at h

-- inside a character, a word or a number one of the two does not go on
no_tail : (n : Want) → within (lowest n) (highest n) (code "0") ≡ false
no_tail one = refl
no_tail two = refl
no_tail two_E0 = refl
no_tail two_ED = refl
no_tail three = refl
no_tail three_F0 = refl
no_tail three_F4 = refl

module _ (d : StringRole) (acc : List ℕ) (k : Stack) where
  no_char : (s : CharState) → Live (in_char message (char_step s (code "0")) d acc k) → Live (in_char message (char_step s (code "t")) d acc k) → ⊥
  unfolding char_step hex_digit escape_of
  no_char escape z t = z
  no_char hex0 z t = t
  no_char (hex1 v) z t = t
  no_char (hex2 v) z t = t
  no_char (hex3 v) z t = t
  no_char (low_backslash h) z t = z
  no_char (low_u h) z t = z
  no_char (low0 h) z t = t
  no_char (low1 h) z t = t
  no_char (low2 h v) z t = t
  no_char (low3 h v) z t = t
  no_char (utf8 n v) z t = subst (λ (x : Bool). Live (in_char message (cond x (wanted n (join v (code "0"))) bad) d acc k)) (no_tail n) z

module _ (a : ℕ) (k : Stack) (p : ℕ) where
  no_number : (s : NumberState) (acc : List ℕ) → Live (in_token message (token_step (in_number s acc) (code "t")) lim a k p (code "t")) → ⊥
  unfolding blank token_step number_step
  no_number begin acc t = t
  no_number after_minus acc t = t
  no_number after_zero acc t = no_follow (code "t") refl refl refl _ k p t
  no_number in_int acc t = no_follow (code "t") refl refl refl _ k p t
  no_number after_point acc t = t
  no_number in_frac acc t = no_follow (code "t") refl refl refl _ k p t
  no_number after_e acc t = t
  no_number after_sign acc t = t
  no_number in_exp acc t = no_follow (code "t") refl refl refl _ k p t

  no_token : (s : TokenState) → Live (in_token message (token_step s (code "0")) lim a k p (code "0")) → Live (in_token message (token_step s (code "t")) lim a k p (code "t")) → ⊥
  unfolding token_step
  no_token (in_number s acc) z t = no_number s acc t
  no_token (word w ws v) z t = go (eqb (code "0") w) refl (eqb (code "t") w) refl z t
    where
      go : (x : Bool) → eqb (code "0") w ≡ x → (y : Bool) → eqb (code "t") w ≡ y → Live (in_token message (cond x (spell word ws v) off) lim a k p (code "0"))
          → Live (in_token message (cond y (spell word ws v) off) lim a k p (code "t")) → ⊥
      go true e true f z t = omega (arith, eqb-true (code "0") w e, eqb-true (code "t") w f)
      go true e false f z t = t
      go false e y f z t = z

goes_on_too : (c : Control message) (k : Stack) (p b : ℕ) → Opening b → Live (step message lim c k p (code "0")) → Live (step message lim c k p (code "t")) → NoFault (step message lim c k p b)
unfolding blank
goes_on_too AtObject k p b o z t = absurd z
goes_on_too AtValue k p b o z t = at_value k p b o
goes_on_too (AtElement a) k p b o z t = at_element k p a b o
goes_on_too (After v) k p b o z t = absurd (no_follow (code "0") refl refl refl v k p z)
goes_on_too (AtFirstKey a) k p b o z t = absurd z
goes_on_too (AtKey a fs) k p b o z t = absurd z
goes_on_too (AtColon a fs s e cs) k p b o z t = absurd z
goes_on_too (InString d acc) k p b o z t = in_string k p d acc b o
goes_on_too (InChar d acc s) k p b o z t = absurd (no_char d acc k s z t)
goes_on_too (InToken a s) k p b o z t = absurd (no_token a k p s z t)
goes_on_too (InComment c) k p b o z t = in_comment k p c (eqb b (code "\n"))

-- ---- the two forms
-- the two values
zero-value : (p : ℕ) → Value message_lexis 0 p (text "0") (suc p) [] (leaf p (suc p) (num true (text "0")))
zero-value p = unquoted (number (parts absent zero absent absent) (then_byte spelled))

true-value : (p : ℕ) → Value message_lexis 0 p (text "true") (suc (suc (suc (suc p)))) [] (leaf p (suc (suc (suc (suc p)))) (bool true))
true-value p = unquoted (word_true (then_byte (then_byte (then_byte (then_byte spelled)))))

-- a text at whose end the machine stops, if it does, is viable
viable-end : (l : List ℕ) (o : Out) → read message lim l ≡ o → ((e : ℕ) → Stops o e → e ≡ length l) → Viable message_lexis lim l
viable-end l o h f = go o h f
  where
    stopped : (e : ℕ) → Stops (read message lim l) e → e ≡ length l → Viable message_lexis lim l
    stopped e s i =
        subst (Viable message_lexis lim) (ap (λ (n : ℕ). take n l) i ∙ take-length l)
        (longest message message-tokens-complete message-tokens_completable lim message-tokens-sound l e s).viable

    go : (o : Out) → read message lim l ≡ o → ((e : ℕ) → Stops o e → e ≡ length l) → Viable message_lexis lim l
    go (whole js) h f = ([], (js, subst (λ (m : List ℕ). Text message_lexis lim m js) (sym (append-nil l)) (sound message message-tokens-sound lim js l h)))
    go (fault e) h f = stopped e (subst (λ (x : Out). Stops x e) (sym h) refl) (f e refl)
    go (deep e) h f = stopped e (subst (λ (x : Out). Stops x e) (sym h) refl) (f e refl)

-- where the machine comes to over the longest viable start
module _ {l : List ℕ} {e : ℕ} (z : Longest message_lexis lim l e) where
  long : length (take e l) ≡ e
  long = length-take-le e l z.inside

  come : Reached message lim (λ y. read message lim (take e l ++ y)) (λ y. read message (suc lim) (take e l ++ y)) e
  unfolding read
  come =
      reach message lim (take e l) z.viable.0 AtValue (bottom no_items) 0 e (omega arith) (omega (arith, long))
      (λ f s. absurd (subst (λ (o : Out). Stops o f) (complete message message-tokens-complete lim z.viable.1.1) s))

module _ {low high : List ℕ → Out} {e : ℕ} (r : Reached message lim low high e) where
  at_byte : (b : ℕ) (x : List ℕ) → low (b ∷ x) ≡ goes_on message lim (step message lim r.control r.stack e b) e x
  at_byte b x = r.path (b ∷ x) ∙ scan_cons message lim r.control r.stack e b x

  -- where levels run out a bracket wants one
  out_of_levels : (b : ℕ) (x : List ℕ) → low (b ∷ x) ≡ deep e → Wants message lim r.control r.stack
  out_of_levels b x h = go (raised message lim r.control r.stack e r.within) (sym (at_byte b x) ∙ h)
    where
      go : {P : Type 0} {n m : Next message} → Raised message lim b P n m → goes_on message lim n e x ≡ deep e → P
      go (same {c} {k} l) h = absurd (omega (arith, range message lim x c k (suc e) e (subst (λ (o : Out). Stops o e) (sym h) refl)))
      go none h = let y : ◌≡◌ {A = ℕ} 0 1 = cc in absurd (omega arith)
      go (more o w) h = w

  -- a byte of a valid text goes on
  goes_live : (b : ℕ) (x : List ℕ) {js : Items} → low (b ∷ x) ≡ whole js → Live (step message lim r.control r.stack e b)
  goes_live b x {js} h = go (step message lim r.control r.stack e b) (sym (at_byte b x) ∙ h)
    where
      go : (n : Next message) → goes_on message lim n e x ≡ whole js → Live n
      go (to c k) h = tt
      go stuck h = let y : ◌≡◌ {A = ℕ} 0 1 = cc in absurd (omega arith)
      go over h = let y : ◌≡◌ {A = ℕ} 0 1 = cc in absurd (omega arith)

  -- and where the step is no fault the answer is none there
  no_fault : (b : ℕ) (x : List ℕ) → NoFault (step message lim r.control r.stack e b) → low (b ∷ x) ≡ fault e → ⊥
  no_fault b x g h = go (step message lim r.control r.stack e b) g (sym (at_byte b x) ∙ h)
    where
      go : (n : Next message) → NoFault n → goes_on message lim n e x ≡ fault e → ⊥
      go (to c k) g h = omega (arith, range message lim x c k (suc e) e (subst (λ (o : Out). Stops o e) (sym h) refl))
      go stuck g h = g
      go over g h = let y : ◌≡◌ {A = ℕ} 0 1 = cc in omega arith

module _ (l : List ℕ) (e : ℕ) where
  read-split : e < length l → read_message l ≡ read message lim (take e l ++ (get_or l e 0 ∷ drop (suc e) l))
  read-split i = message-read l ∙ ap (λ (m : List ℕ). read message lim m) (split_at l e 0 i)

  one_value : (z : Longest message_lexis lim l e) → OneValue (come z).control (come z).stack e
  unfolding scan
  one_value z js h = let i = message-item (message-read (take e l ++ []) ∙ (come z).path [] ∙ h) in (i.0, i.1)

  too_deep-opens : TooDeep message_lexis lim l e → OpensTooDeep message_lexis lim l e
  too_deep-opens t = record { longest = t.longest; next = t.next; opening = message_bracket t; value_place = follows }
    where
      follows : ValueMayFollow message_lexis lim (take e l)
      follows v q j w =
          let r = come t.longest in
          let g = out_of_levels r (get_or l e 0) (drop (suc e) l) (sym (read-split t.next) ∙ message-too_deep t) in
          let s = wants-value g r.within (one_value t.longest) (subst (λ (p : ℕ). Value message_lexis 0 p v q [] j) (long t.longest) w) in
          let a = value-span message_lexis message_spans w in
          viable-end (take e l ++ v) (scan message lim (After j) s.0 q []) (r.path v ∙ s.1)
          (λ f u. omega (arith, range message lim [] (After j) s.0 q f u, length-append (take e l) v))

  opens-too_deep : OpensTooDeep message_lexis lim l e → TooDeep message_lexis lim l e
  opens-too_deep o = go (read_message l) refl
    where
      z : Longest message_lexis lim l e
      z = o.longest

      live : (b : ℕ) (v : List ℕ) → Viable message_lexis lim (take e l ++ (b ∷ v)) → Live (step message lim (come z).control (come z).stack e b)
      live b v y =
          goes_live (come z) b (v ++ y.0)
          (ap (λ (m : List ℕ). read message lim m) (sym (append_assoc (take e l) (b ∷ v) y.0)) ∙ complete message message-tokens-complete lim y.1.1)

      go : (x : Out) → read_message l ≡ x → TooDeep message_lexis lim l e
      go (whole js) h = absurd (z.longest (length l) o.next (omega arith) (whole-viable message_lexis (js, sound message message-tokens-sound lim js l (sym (message-read l) ∙ h))))
      go (fault f) h =
          let i = longest_unique message_lexis (message-fault h).longest z in
          let g = goes_on_too (come z).control (come z).stack e (get_or l e 0) o.opening (live (code "0") [] (o.value_place _ _ _ (zero-value _))) (live (code "t") (text "rue") (o.value_place _ _ _ (true-value _))) in
          absurd (no_fault (come z) (get_or l e 0) (drop (suc e) l) g (sym (read-split o.next) ∙ h ∙ ap (λ (n : ℕ). fault n) i))
      go (deep f) h = subst (TooDeep message_lexis lim l) (longest_unique message_lexis (message-deep h).longest z) (message-deep h)

-- Message answers 24: the definition that the answers cite, and the rule word by word
pub message-opens : (l : List ℕ) (e : ℕ) → TooDeep message_lexis message_levels l e ↔ OpensTooDeep message_lexis message_levels l e
message-opens l e = (too_deep-opens l e, opens-too_deep l e)
