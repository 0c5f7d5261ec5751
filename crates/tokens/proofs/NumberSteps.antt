-- The machine inside a number of message text, a step at a time: on, to the number's end, or to a stop.
-- The bytes gathered are those from the number's start, so a step adds the byte at its place.
use Prim.Native.Nat.{ℕ, suc, ◌+◌, ◌-◌, ◌≤◌, ◌<◌}
use native.Mathlib.Nat.{sub_self}
use native.Mathlib.Omega.{arith}
use mathlib.Core.Path.{◌≡◌, refl, sym, ap, ◌∙◌}
use mathlib.Core.Bool.{Bool}
use mathlib.Core.List.{List, [], ◌∷◌, reverse, reverse-append, reverse-reverse}
use mathlib.Core.Option.{some, none}
use lib.ListN.{length, get_or, take, drop, length-drop}
use lib.Seq.{take-suc, get_or-drop}
use Rattle.grammar.specs.Tree.Scalar.{num}
use Rattle.grammar.specs.Tree.Json.{leaf}
use Rattle.grammar.specs.Serving.Machine.Control.{After}
use Rattle.grammar.specs.Serving.Machine.Message.{message, NumberState, number_step, number_end, token_step}
use Rattle.grammar.proofs.Booleans.{none-not-some}
use Rattle.tokens.specs.Numbers.{gathered, InNumber, NumberRuns, NumberStops, NumberEnds}
use Rattle.tokens.proofs.Scanning.{scan-to, scan_stuck, scan-end, scan_alike, by_order}

-- the bytes gathered
pub gathered_none : (s : List ℕ) (a : ℕ) → gathered s a a ≡ []
unfolding gathered
gathered_none s a = rw (sub_self a)

module _ (s : List ℕ) (a p : ℕ) where
  gathered-more : a ≤ p → p < length s → gathered s a (p + 1) ≡ get_or s p 0 ∷ gathered s a p
  unfolding gathered
  gathered-more h g =
      let n : p + 1 - a ≡ suc (p - a) = omega arith in
      let i : a + (p - a) ≡ p = omega arith in
      let l : p - a < length (drop a s) = rw (length-drop a s) (omega arith) in
      let b : get_or (drop a s) (p - a) 0 ≡ get_or s p 0 = get_or-drop a s (p - a) 0 ∙ ap (λ (j : ℕ). get_or s j 0) i in
      ap (λ (j : ℕ). reverse (take j (drop a s))) n ∙ ap (λ (m : List ℕ). reverse m) (take-suc (drop a s) (p - a) 0 l)
      ∙ reverse-append (take (p - a) (drop a s)) (get_or (drop a s) (p - a) 0 ∷ []) ∙ ap (λ (x : ℕ). x ∷ reverse (take (p - a) (drop a s))) b

  gathered-token : reverse (gathered s a p) ≡ take (p - a) (drop a s)
  unfolding gathered
  gathered-token = reverse-reverse (take (p - a) (drop a s))

module _ (s : List ℕ) (f : NumberState) (i : ℕ) where
  pub one_byte : {t : NumberState} → i < length s → number_step f (get_or s i 0) ≡ some t → NumberRuns s f i t (i + 1)
  unfolding token_step
  one_byte h e =
      record {
        on = omega arith;
        within = omega arith;
        runs = λ lim a k g. rw (gathered-more s a i g h) (scan-to message s lim (InNumber s a f i) k i h (rw e refl));
      }

  pub stops-here : number_end f ≡ none → (i < length s → number_step f (get_or s i 0) ≡ none) → NumberStops s f i i
  unfolding token_step
  stops-here e n lim a k g =
      by_order i (length s) (λ h. scan_stuck message s lim (InNumber s a f i) k i h (rw (n h, e) refl)) (λ h. scan-end message s lim (InNumber s a f i) k i h ∙ rw e refl)

  pub ends-here : {j : Bool} → number_end f ≡ some j → (i < length s → number_step f (get_or s i 0) ≡ none) → NumberEnds s f i i j
  unfolding token_step
  ends-here {j} e n =
      record {
        on = omega arith;
        moves = λ n. none-not-some (sym n ∙ e);
        within = λ h. h;
        runs = λ lim a k g.
            rw (← gathered-token s a i)
            (by_order i (length s) (λ h. scan_alike message s lim (InNumber s a f i) k i (After (leaf a i (num j (reverse (gathered s a i))))) h (rw (n h, e) refl))
            (λ h. scan-end message s lim (InNumber s a f i) k i h ∙ (rw e refl ∙ sym (scan-end message s lim (After (leaf a i (num j (reverse (gathered s a i))))) k i h))));
      }
