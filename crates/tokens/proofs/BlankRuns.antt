-- Blanks and comments: what the machine does over those passed so far, for every control that passes over them.
-- One byte more is one step more; a comment is a run of its own inside.
use Prim.Native.Nat.{ℕ, ◌+◌, ◌≤◌, ◌<◌}
use Prim.Native.Char.{code}
use native.Mathlib.Omega.{arith}
use native.Mathlib.Decide.{dec_lt}
use Rattle.std.specs.Prelude.{max}
use mathlib.Core.Path.{◌≡◌, refl, sym, ◌∙◌}
use mathlib.Core.Bool.{true, false}
use mathlib.Core.List.{List}
use lib.ListN.{length, get_or, drop}
use borrow.Author.Tests.{eq-eqb, ne_eqb}
use Rattle.grammar.specs.Serving.Machine.{Dialect, Stack, Control, Next.to, step, scan}
use Rattle.grammar.specs.Serving.Machine.Control.{InComment}
use Rattle.tokens.specs.Tokens.{Skips, Solid, Skipped}
use Rattle.tokens.specs.Tokens.Skips.{at_object, at_value, at_element, after_value, at_first_key, at_key, at_colon}
use Rattle.tokens.specs.TokenParts.{CommentRuns}
use Rattle.tokens.proofs.Scanning.{scan-to, scan-end}

module _ {D : Dialect} {s : List ℕ} where
  step-blank : {c : Control D} → Skips D s c → (lim : ℕ) (k : Stack) (p b : ℕ) → D.lexis.blank b ≡ true → step D lim c k p b ≡ to c k
  step-blank at_object lim k p b e = simp e
  step-blank at_value lim k p b e = simp e
  step-blank at_element lim k p b e = simp e
  step-blank after_value lim k p b e = simp e
  step-blank at_first_key lim k p b e = simp e
  step-blank at_key lim k p b e = simp e
  step-blank at_colon lim k p b e = simp e

  step-comment : {c : Control D} → Skips D s c → (lim : ℕ) (k : Stack) (p b : ℕ) → D.lexis.blank b ≡ false → D.lexis.comment b ≡ true
      → step D lim c k p b ≡ to (InComment c) k
  step-comment at_object lim k p b e f = simp (e, f)
  step-comment at_value lim k p b e f = simp (e, f)
  step-comment at_element lim k p b e f = simp (e, f)
  step-comment after_value lim k p b e f = simp (e, f)
  step-comment at_first_key lim k p b e f = simp (e, f)
  step-comment at_key lim k p b e f = simp (e, f)
  step-comment at_colon lim k p b e f = simp (e, f)

-- inside a comment, from place p to i
pub record Commented (D : Dialect) (s : List ℕ) (p i : ℕ) : Type 0 where
  pub on : p ≤ i
  pub within : p ≤ length s → i ≤ length s
  pub runs : (lim : ℕ) (c : Control D) (k : Stack) → scan D lim (InComment c) k p (drop p s) ≡ scan D lim (InComment c) k i (drop i s)

pub commented_none : (D : Dialect) (s : List ℕ) (p : ℕ) → Commented D s p p
commented_none D s p = record { on = omega arith; within = λ h. h; runs = λ lim c k. refl }

module _ {D : Dialect} {s : List ℕ} {p i : ℕ} (w : Commented D s p i) where
  pub commented_more : i < length s → (get_or s i 0 ≡ code "\n" → ⊥) → Commented D s p (i + 1)
  commented_more h n =
      record { on = omega arith; within = λ _. omega arith; runs = λ lim c k. w.runs lim c k ∙ scan-to D s lim (InComment c) k i h (simp (ne_eqb _ _ n)) }

  pub comment_line : i < length s → get_or s i 0 ≡ code "\n" → CommentRuns D s p (i + 1)
  comment_line h e =
      record { on = omega arith; within = λ _. omega arith; runs = λ lim c k. w.runs lim c k ∙ scan-to D s lim (InComment c) k i h (simp (eq-eqb _ _ e)) }

  comment_ends : length s ≤ i → CommentRuns D s p i
  comment_ends h = record { on = w.on; within = w.within; runs = λ lim c k. w.runs lim c k ∙ (scan-end D s lim (InComment c) k i h ∙ sym (scan-end D s lim c k i h)) }

-- past the end too
pub comment-text : {D : Dialect} {s : List ℕ} {p i : ℕ} → Commented D s p i → length s ≤ i → CommentRuns D s p (max p (length s))
comment-text {D} {s} {p} {i} w h = go (dec_lt (length s) p)
  where
    go : Dec (length s < p) → CommentRuns D s p (max p (length s))
    go (yes l) = let q : max p (length s) ≡ p = omega arith in rw q (comment_ends (commented_none D s p) (omega arith))
    go (no l) = let q : max p (length s) ≡ i = omega (arith, w.within) in rw q (comment_ends w h)

-- blanks and comments from place p to i
pub record Passed (D : Dialect) (s : List ℕ) (p i : ℕ) : Type 0 where
  pub on : p ≤ i
  pub within : p ≤ length s → i ≤ length s
  pub runs : (lim : ℕ) (c : Control D) (k : Stack) → Skips D s c → scan D lim c k p (drop p s) ≡ scan D lim c k i (drop i s)

pub passed_none : (D : Dialect) (s : List ℕ) (p : ℕ) → Passed D s p p
passed_none D s p = record { on = omega arith; within = λ h. h; runs = λ lim c k _. refl }

module _ {D : Dialect} {s : List ℕ} {p i : ℕ} (w : Passed D s p i) where
  pub passed-blank : i < length s → D.lexis.blank (get_or s i 0) ≡ true → Passed D s p (i + 1)
  passed-blank h t =
      record { on = omega arith; within = λ _. omega arith; runs = λ lim c k a. w.runs lim c k a ∙ scan-to D s lim c k i h (step-blank a lim k i _ t) }

  pub passed-comment : {e : ℕ} → i < length s → D.lexis.blank (get_or s i 0) ≡ false → D.lexis.comment (get_or s i 0) ≡ true → CommentRuns D s (i + 1) e → Passed D s p e
  passed-comment h f t m =
      record {
        on = omega (arith, m.on);
        within = λ _. m.within (omega arith);
        runs = λ lim c k a. w.runs lim c k a ∙ (scan-to D s lim c k i h (step-comment a lim k i _ f t) ∙ m.runs lim c k);
      }

  pub passed-all : Solid D s i → Skipped D s p i
  passed-all b = record { on = w.on; within = w.within; solid = b; runs = w.runs }

  pub passed-end : length s ≤ i → Skipped D s p i
  passed-end h = passed-all (λ g. absurd (omega arith))
