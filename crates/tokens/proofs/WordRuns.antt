-- Words: the bytes that a reader compared stand there or do not, and what the machine inside the word makes of that.
-- What is found from a byte of the word on is found from its first; the machine goes letter by letter.
use Prim.Native.Nat.{ℕ, ◌+◌, ◌≤◌, ◌<◌}
use native.Mathlib.Nat.{add-zero, add-suc}
use native.Mathlib.Numerals.{add-one}
use native.Mathlib.Omega.{arith}
use mathlib.Core.Path.{◌≡◌, refl, ap, ◌∙◌}
use mathlib.Core.Bool.{cond}
use mathlib.Core.List.{List, [], ◌∷◌}
use mathlib.Core.Option.{Option}
use lib.Dec.{eqb}
use lib.ListN.{length, get_or, drop, drop_of_length-le}
use lib.Seq.{drop-cons}
use borrow.Author.Tests.{eq-eqb, ne_eqb}
use Rattle.grammar.specs.Tree.{Scalar, Json.leaf}
use Rattle.grammar.specs.Lexis.{Spells, Spells.spelled, Spells.then_byte}
use Rattle.grammar.specs.Serving.Machine.{TokenStep, TokenStep.off, spell, Dialect, Stack, Out.fault, in_token, end_token, scan}
use Rattle.grammar.specs.Serving.Machine.Control.{After, InToken}
use Rattle.grammar.proofs.Steps.{goes_on, scan_cons}
use Rattle.grammar.proofs.TokenRuns.{TokensComplete}
use Rattle.grammar.proofs.Words.{Words, word-complete}
use Rattle.grammar.proofs.Complete.{in_token-run}
use Rattle.tokens.specs.TokenParts.{Misspells, Misspells.ended, Misspells.differs, Misspells.later, ReadsWord}
use Rattle.std.specs.Prelude.{Ok}
use Rattle.strings.specs.Chars.{FaultAt}

-- i bytes of the word w stand at place p
pub record WordPassed (s : List ℕ) (p : ℕ) (w : List ℕ) (i : ℕ) : Type 0 where
  pub within : p + i ≤ length s
  pub letters : i ≤ length w
  pub spells : (e : ℕ) → Spells (drop i w) (p + i) (drop (p + i) s) e (drop e s) → Spells w p (drop p s) e (drop e s)
  pub misspells : (e : ℕ) → Misspells (drop i w) (p + i) (drop (p + i) s) e → Misspells w p (drop p s) e

pub word_none : (s : List ℕ) (p : ℕ) (w : List ℕ) → p ≤ length s → WordPassed s p w 0
word_none s p w h = record { within = omega arith; letters = omega arith; spells = λ e x. rw (add-zero p) at x; misspells = λ e x. rw (add-zero p) at x }

module _ {s : List ℕ} {p : ℕ} {w : List ℕ} {i : ℕ} (v : WordPassed s p w i) (h : i < length w) where
  module _ (g : p + i < length s) where
    pub word_more : get_or s (p + i) 0 ≡ get_or w i 0 → WordPassed s p w (i + 1)
    word_more e =
        record {
          within = omega arith;
          letters = omega arith;
          spells = λ q x. v.spells q (rw (drop-cons w i 0, drop-cons s (p + i) 0, e) (then_byte (rw (add-one i, add-suc p i) at x)));
          misspells = λ q x. v.misspells q (rw (drop-cons w i 0, drop-cons s (p + i) 0, e) (later (rw (add-one i, add-suc p i) at x)));
        }

    pub word-differs : (get_or s (p + i) 0 ≡ get_or w i 0 → ⊥) → ReadsWord s p w (FaultAt (p + i))
    word-differs n = record { told = v.misspells (p + i) (rw (drop-cons w i 0, drop-cons s (p + i) 0) (differs (ne_eqb _ _ n))) }

  pub word_cut : length s ≤ p + i → ReadsWord s p w (FaultAt (p + i))
  word_cut g = record { told = v.misspells (p + i) (rw (drop-cons w i 0, drop_of_length-le s g) ended) }

pub word-whole : {s : List ℕ} {p : ℕ} {w : List ℕ} {i : ℕ} → WordPassed s p w i → length w ≤ i → ReadsWord s p w (Ok (p + length w))
word-whole {s} {p} {w} {i} v h =
    let q : length w ≡ i = omega (arith, v.letters) in
    record { told = (refl, rw q v.within, rw q (v.spells (p + i) (rw (drop_of_length-le w h) spelled))) }

module _ (D : Dialect) (word : ℕ → List ℕ → Scalar → D.TokenState) (W : Words D word) (v : Scalar) (lim a : ℕ) (k : Stack) where
  pub word-run : TokensComplete D → {w p q : ℕ} {ws l r : List ℕ} → Spells (w ∷ ws) p l q r → scan D lim (InToken a (word w ws v)) k p l ≡ scan D lim (After (leaf a q v)) k q r
  word-run L {w} {ws = ws} x = (in_token-run D L lim (word-complete D word W w ws x) a k).path

  letter-step : (w : ℕ) (ws : List ℕ) (p b : ℕ) (l : List ℕ)
      → scan D lim (InToken a (word w ws v)) k p (b ∷ l) ≡ goes_on D lim (in_token D (cond (eqb b w) (spell word ws v) off) lim a k p b) p l
  letter-step w ws p b l =
      scan_cons D lim (InToken a (word w ws v)) k p b l
      ∙ ap (λ (y : TokenStep D.TokenState). goes_on D lim (in_token D y lim a k p b) p l) (W.steps w ws v b)

  no_misspelling : {A : Type 0} {p e : ℕ} {l : List ℕ} → Misspells [] p l e → A
  no_misspelling = elim [ ]

  pub word-stops : (w : ℕ) (ws : List ℕ) {p e : ℕ} {l : List ℕ} → Misspells (w ∷ ws) p l e → scan D lim (InToken a (word w ws v)) k p l ≡ fault e
  unfolding scan
  word-stops w ws (ended {p = p}) = ap (λ (y : Option Scalar). end_token D y a k p) (W.ends w ws v)
  word-stops w ws (differs {p = p} {c = c} {l = l} f) = letter-step w ws p c l ∙ simp f
  word-stops w [] (later m) = no_misspelling m
  word-stops w (x ∷ xs) (later {p = p} {l = l} m) = letter-step w (x ∷ xs) p w l ∙ simp (eq-eqb w w refl) (word-stops x xs m)
