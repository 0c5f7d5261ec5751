-- The steps of the machine inside a character of a schema string, in the terms of its reader.
-- By the tests of the two steps: the first byte, and the byte after a backslash.
use Prim.Native.Nat.{ℕ, ◌+◌, ◌≤◌, ◌<◌}
use Prim.Native.Char.{code}
use native.Mathlib.Omega.{arith}
use mathlib.Core.Path.{◌≡◌, refl, sym, ap, ◌∙◌}
use mathlib.Core.List.{List}
use lib.ListN.{length, get_or}
use borrow.Author.Tests.{eq-eqb, ne_eqb}
use Rattle.grammar.specs.Serving.Machine.CharStep.{stay, char, bad}
use Rattle.grammar.specs.Serving.Machine.Schema.{schema, char_start, char_step, CharState.escape}
use Rattle.grammar.proofs.Booleans.{within-is, within-below, within-above, Outside, Outside.below, Outside.above}
use Rattle.strings.specs.Chars.{Code, FaultAt, rest_at, char_at}
use Rattle.strings.proofs.CharRuns.{stay-at, char_at_lem, bad-at, at-end, at-bad, at-char, none-at-quote, starts_at_lem}

start_none : (b : ℕ) → (b ≡ code "\\" → ⊥) → Outside 0x20 0x7E b → char_start b ≡ bad
unfolding char_start
start_none b n (below h) = simp (ne_eqb b (code "\\") n, within-below 0x20 0x7E b h)
start_none b n (above h) = simp (ne_eqb b (code "\\") n, within-above 0x20 0x7E b h)

start_plain : (b : ℕ) → (b ≡ code "\\" → ⊥) → 0x20 ≤ b → b ≤ 0x7E → char_start b ≡ char b
unfolding char_start
start_plain b n h g = simp (ne_eqb b (code "\\") n, within-is 0x20 0x7E b h g)

module _ (s : List ℕ) (i : ℕ) (g : i < length s) where
  pub none-at_apostrophe : get_or s i 0 ≡ code "'" → FaultAt i ≡ char_at schema s i
  none-at_apostrophe e = none-at-quote schema s i g (eq-eqb _ _ e)

  pub starts_none : (get_or s i 0 ≡ code "'" → ⊥) → Outside 0x20 0x7E (get_or s i 0) → (get_or s i 0 ≡ code "\\" → ⊥) → FaultAt i ≡ char_at schema s i
  starts_none q x n = sym (bad-at schema s i) ∙ starts_at_lem schema s i bad g (ne_eqb _ _ q) (start_none _ n x)

  pub starts-plain : {b : ℕ} → b ≡ get_or s i 0 → (b ≡ code "'" → ⊥) → (b ≡ code "\\" → ⊥) → 0x20 ≤ b → b ≤ 0x7E → Code b (i + 1) ≡ char_at schema s i
  starts-plain {b} e q n h k = sym (char_at_lem schema b s i) ∙ starts_at_lem schema s i (char b) g (rw (← e) (ne_eqb _ _ q)) (rw (← e) (start_plain b n h k))

  starts-escape : get_or s i 0 ≡ code "\\" → rest_at schema escape s (i + 1) ≡ char_at schema s i
  unfolding char_start
  starts-escape e = sym (stay-at schema escape s i) ∙ starts_at_lem schema s i (stay escape) g (rw e refl) (rw e refl)

  pub escape-ends : get_or s i 0 ≡ code "\\" → length s ≤ i + 1 → FaultAt (i + 1) ≡ char_at schema s i
  escape-ends e h = at-end schema escape s (i + 1) h ∙ starts-escape e

  pub escape-other : get_or s i 0 ≡ code "\\" → i + 1 < length s → (get_or s (i + 1) 0 ≡ code "\\" → ⊥) → FaultAt (i + 1) ≡ char_at schema s i
  unfolding char_step
  escape-other e h n = at-bad schema escape s (i + 1) h (simp (ne_eqb _ _ n)) ∙ starts-escape e

  pub escape-both : get_or s i 0 ≡ code "\\" → i + 1 < length s → get_or s (i + 1) 0 ≡ code "\\" → Code (code "\\") (i + 2) ≡ char_at schema s i
  unfolding char_step
  escape-both e h f =
      let k : i + 2 ≡ i + 1 + 1 = omega arith in
      ap (λ (n : ℕ). Code (code "\\") n) k ∙ at-char schema escape s (i + 1) (code "\\") h (rw f refl) ∙ starts-escape e
