-- Words in any dialect: the machine inside a word reads exactly its bytes, and can always be completed.
-- By induction on the bytes that are left of the word.
use Prim.Native.Nat.{ℕ, suc}
use native.Mathlib.Omega.{arith}
use mathlib.Core.Path.{◌≡◌, refl, sym, ◌∙◌}
use mathlib.Core.Bool.{cond}
use mathlib.Core.List.{List, [], ◌∷◌, ◌++◌}
use mathlib.Core.Option.{some, none}
use lib.Dec.{eqb}
use borrow.Author.Tests.{eqb-true, eq-eqb}
use Rattle.grammar.specs.Tree.{Scalar}
use Rattle.grammar.specs.Lexis.{Spells, Spells.spelled, Spells.then_byte}
use Rattle.grammar.specs.Serving.Machine.{TokenStep, TokenStep.on, TokenStep.last, TokenStep.past, TokenStep.off, spell, Dialect}
use Rattle.grammar.proofs.Booleans.{by, none-not-some}
use Rattle.grammar.proofs.TokenRuns.{TokenRun, TokenRun.token_last, TokenRun.token_finished, TokenRun.token_past, TokenRun.token_on, TokenEnds}

-- a run from the state that a first byte leads to
pub in_state : {D : Dialect} {s t : D.TokenState} {p q : ℕ} {l r : List ℕ} {v : Scalar} → some t ≡ some s → TokenRun D (on s) p l q r v → TokenRun D (on t) p l q r v
in_state {s = s} {t = t} e w = let f : t ≡ s = cc in rw f w

-- bytes spell themselves
pub spells : (ws r : List ℕ) (p : ℕ) → (q : ℕ) × Spells ws p (ws ++ r) q r
spells [] r p = (p, spelled)
spells (w ∷ ws) r p = let z = spells ws r (suc p) in (z.0, then_byte z.1)

module _ (D : Dialect) (word : ℕ → List ℕ → Scalar → D.TokenState) where
  -- what the machine does inside a word
  pub record Words : Type 0 where
    pub steps : (w : ℕ) (ws : List ℕ) (v : Scalar) (b : ℕ) → D.token_step (word w ws v) b ≡ cond (eqb b w) (spell word ws v) off
    pub ends : (w : ℕ) (ws : List ℕ) (v : Scalar) → D.token_end (word w ws v) ≡ none

  pub record Spelled (ws : List ℕ) (v : Scalar) (p : ℕ) (l : List ℕ) (q : ℕ) (r : List ℕ) (u : Scalar) : Type 0 where
    pub bytes : Spells ws p l q r
    pub same : u ≡ v

  off-run : {A : Type 0} {p q : ℕ} {l r : List ℕ} {u : Scalar} → TokenRun D off p l q r u → A
  off-run = elim [ ]

  never-past : {A : Type 0} (w b : ℕ) (ws : List ℕ) (v u : Scalar) → cond (eqb b w) (spell word ws v) off ≡ past u → A
  never-past {A} w b ws v u = by (λ y. y ≡ past u → A) (eqb b w) (λ _. go ws) (λ _ e. not-off e)
    where
      not-off : ◌≡◌ {A = TokenStep D.TokenState} off (past u) → A
      not-off e = let z : ◌≡◌ {A = ℕ} 0 1 = cc in absurd (omega arith)

      go : (ws : List ℕ) → spell word ws v ≡ past u → A
      go [] e = let z : ◌≡◌ {A = ℕ} 0 1 = cc in absurd (omega arith)
      go (x ∷ xs) e = let z : ◌≡◌ {A = ℕ} 0 1 = cc in absurd (omega arith)

  module _ (W : Words) where
    one-letter : {v : Scalar} (w : ℕ) (ws : List ℕ) → ((p q : ℕ) (l r : List ℕ) (u : Scalar) → TokenRun D (spell word ws v) p l q r u → Spelled ws v p l q r u)
        → {p q : ℕ} {l r : List ℕ} {u : Scalar} → TokenRun D (on (word w ws v)) p l q r u → Spelled (w ∷ ws) v p l q r u
    one-letter {v} w ws f (token_finished e) = none-not-some (sym (W.ends w ws v) ∙ e)
    one-letter {v} w ws f (token_past {b = b} {v = u} e) = never-past w b ws v u (sym (W.steps w ws v b) ∙ e)
    one-letter {v} w ws f (token_on {p = p} {q = q} {b = b} {l = l} {r = r} {v = u} k) =
        by (λ y. TokenRun D y (suc p) l q r u → Spelled (w ∷ ws) v p (b ∷ l) q r u) (eqb b w)
        (λ t k. rw (eqb-true b w t) (let z = f (suc p) q l r u k in record { bytes = then_byte z.bytes; same = z.same })) (λ _ k. off-run k) (rw (W.steps w ws v b) at k)

    pub word_sound : {v : Scalar} (w : ℕ) (ws : List ℕ) {p q : ℕ} {l r : List ℕ} {u : Scalar} → TokenRun D (on (word w ws v)) p l q r u → Spelled (w ∷ ws) v p l q r u
    word_sound {v} w [] k = one-letter w [] (λ p q l r u m. fin m) k
      where
        fin : {p q : ℕ} {l r : List ℕ} {u : Scalar} → TokenRun D (last v) p l q r u → Spelled [] v p l q r u
        fin token_last = record { bytes = spelled; same = refl }
    word_sound w (x ∷ xs) k = one-letter w (x ∷ xs) (λ p q l r u m. word_sound x xs m) k

    next-letter : {v u : Scalar} {p q : ℕ} {l r : List ℕ} (w : ℕ) (ws : List ℕ) → TokenRun D (spell word ws v) (suc p) l q r u → TokenRun D (on (word w ws v)) p (w ∷ l) q r u
    next-letter {v} {u} {p} {q} {l} {r} w ws k = let z : TokenRun D (D.token_step (word w ws v) w) (suc p) l q r u = rw (W.steps w ws v w, eq-eqb w w refl) k in token_on z

    pub word-complete : {v : Scalar} (w : ℕ) (ws : List ℕ) {p q : ℕ} {l r : List ℕ} → Spells (w ∷ ws) p l q r → TokenRun D (on (word w ws v)) p l q r v
    word-complete w [] (then_byte spelled) = next-letter w [] token_last
    word-complete w (x ∷ xs) (then_byte s) = next-letter w (x ∷ xs) (word-complete x xs s)

    pub word-ends : (w : ℕ) (ws : List ℕ) (v : Scalar) (p : ℕ) (r : List ℕ) → TokenEnds D (word w ws v) p (w ∷ (ws ++ r)) r
    word-ends w ws v p r = let z = spells (w ∷ ws) r p in record { place = z.0; scalar = v; run = word-complete w ws z.1 }
