-- The byte machine at a place of a text: runs from place to place, what it does at the byte there, and at the end.
-- Each law opens the bytes from the place on once; the steps below are those at the structural characters.
use Prim.Native.Nat.{ℕ, suc, ◌+◌, ◌≤◌, ◌<◌}
use Prim.Native.Char.{code}
use native.Mathlib.Numerals.{add-one}
use native.Mathlib.Omega.{arith}
use native.Mathlib.Decide.{dec_lt}
use mathlib.Core.Path.{◌≡◌, refl, sym, ap, ◌∙◌}
use mathlib.Core.List.{List, ◌∷◌}
use lib.ListN.{length, get_or, drop, drop_of_length-le}
use lib.Seq.{drop-cons}
use borrow.Author.Tests.{le-ltb, ne_eqb}
use Rattle.grammar.specs.Tree.{Json}
use Rattle.grammar.specs.Serving.Machine.{Dialect, Stack, Control, Next, Next.to, Next.stuck, Next.over, Out, Out.fault, Out.deep, depth, step, finish, scan}
use Rattle.grammar.specs.Serving.Machine.Control.{AtValue, After}
use Rattle.grammar.proofs.Steps.{goes_on, scan_cons}
use Rattle.grammar.proofs.TokenRuns.{TokensComplete}
use Rattle.grammar.proofs.TokenRuns.Structural.{begin_array, begin_object, end_array, end_object, value_separator}
use Rattle.grammar.proofs.Complete.{skip-solid, opens-array, opens-object}
use Rattle.tokens.specs.Tokens.{Skips, Skips.at_element, Skips.at_first_key, Solid, Skipped}
use Rattle.text.specs.Containers.{opening, closing, Entries, KeyOf, no_entries, entry, reverse_entries, container, at_first, at_entry, around_entry, around_value}
use Rattle.text.specs.declared.containers.Container.{Container}
use Rattle.text.specs.declared.containers.Container.TheVariants.{Array, Object}

module _ (D : Dialect) (s : List ℕ) (lim : ℕ) where
  -- from control c and stack K at place p the machine comes to d and M at place q
  pub record Runs (c : Control D) (K : Stack) (p : ℕ) (d : Control D) (M : Stack) (q : ℕ) : Type 0 where
    pub path : scan D lim c K p (drop p s) ≡ scan D lim d M q (drop q s)

  -- it ends with the answer o
  pub record Ends (c : Control D) (K : Stack) (p : ℕ) (o : Out) : Type 0 where
    pub path : scan D lim c K p (drop p s) ≡ o

  scan-here : (c : Control D) (K : Stack) (p b : ℕ) → p < length s → get_or s p 0 ≡ b → scan D lim c K p (drop p s) ≡ goes_on D lim (step D lim c K p b) p (drop (suc p) s)
  scan-here c K p b h e = ap (λ (l : List ℕ). scan D lim c K p l) (drop-cons s p 0 h ∙ ap (λ (x : ℕ). x ∷ drop (suc p) s) e) ∙ scan_cons D lim c K p b (drop (suc p) s)

  -- a byte whose step is known
  scan_step : (c : Control D) (K : Stack) (p b : ℕ) (n : Next D) → p < length s → get_or s p 0 ≡ b → step D lim c K p b ≡ n
      → scan D lim c K p (drop p s) ≡ goes_on D lim n p (drop (suc p) s)
  scan_step c K p b n h e f = scan-here c K p b h e ∙ ap (λ (n : Next D). goes_on D lim n p (drop (suc p) s)) f

module _ {D : Dialect} {s : List ℕ} {lim : ℕ} where
  pub then : {c d e : Control D} {K M N : Stack} {p q r : ℕ} → Runs D s lim c K p d M q → Runs D s lim d M q e N r → Runs D s lim c K p e N r
  then x y = record { path = x.path ∙ y.path }

  pub then-ends : {c d : Control D} {K M : Stack} {p q : ℕ} {o : Out} → Runs D s lim c K p d M q → Ends D s lim d M q o → Ends D s lim c K p o
  then-ends x y = record { path = x.path ∙ y.path }

  pub blanks : {c : Control D} {K : Stack} {p q : ℕ} → Skips D s c → Skipped D s p q → Runs D s lim c K p c K q
  blanks {c} {K} x y = record { path = y.runs lim c K x }

  pub byte-to : {c d : Control D} {K M : Stack} {p b : ℕ} → p < length s → get_or s p 0 ≡ b → step D lim c K p b ≡ to d M → Runs D s lim c K p d M (p + 1)
  byte-to {c} {d} {K} {M} {p} {b} h e f = record { path = rw (add-one p) (scan_step D s lim c K p b (to d M) h e f) }

  pub byte-over : {c : Control D} {K : Stack} {p b : ℕ} → p < length s → get_or s p 0 ≡ b → step D lim c K p b ≡ over → Ends D s lim c K p (deep p)
  byte-over {c} {K} {p} {b} h e f = record { path = scan_step D s lim c K p b over h e f }

  pub byte_stuck : {c : Control D} {K : Stack} {p : ℕ} → p < length s → step D lim c K p (get_or s p 0) ≡ stuck → Ends D s lim c K p (fault p)
  byte_stuck {c} {K} {p} h f = record { path = scan_step D s lim c K p _ stuck h refl f }

  -- two controls that take the byte there alike
  pub byte_alike : {c d : Control D} {K M : Stack} {p b : ℕ} → p < length s → get_or s p 0 ≡ b → step D lim c K p b ≡ step D lim d M p b → Runs D s lim c K p d M p
  byte_alike {c} {d} {K} {M} {p} {b} h e f = record { path = scan_step D s lim c K p b _ h e f ∙ sym (scan-here D s lim d M p b h e) }

  pub at-end : {c : Control D} {K : Stack} {p : ℕ} → length s ≤ p → Ends D s lim c K p (finish D c K p)
  unfolding scan
  at-end h = record { path = rw (drop_of_length-le s h) refl }

  -- at a byte that does not fit, or at the end
  pub stops : {c : Control D} {K : Stack} {p : ℕ} → (p < length s → step D lim c K p (get_or s p 0) ≡ stuck) → finish D c K p ≡ fault p → Ends D s lim c K p (fault p)
  stops {c} {K} {p} f g = go (dec_lt p (length s))
    where
      go : Dec (p < length s) → Ends D s lim c K p (fault p)
      go (yes h) = byte_stuck h (f h)
      go (no h) = record { path = (at-end (omega arith)).path ∙ g }

  -- two controls that take the byte there alike, or the end
  pub alike : {c d : Control D} {K M : Stack} {p : ℕ} → (p < length s → step D lim c K p (get_or s p 0) ≡ step D lim d M p (get_or s p 0)) → finish D c K p ≡ finish D d M p
      → Runs D s lim c K p d M p
  alike {c} {d} {K} {M} {p} f g = go (dec_lt p (length s))
    where
      go : Dec (p < length s) → Runs D s lim c K p d M p
      go (yes h) = byte_alike h refl (f h)
      go (no h) = record { path = (at-end (omega arith)).path ∙ g ∙ sym (at-end (omega arith)).path }

module _ {D : Dialect} (L : TokensComplete D) {s : List ℕ} {lim : ℕ} {K : Stack} {p : ℕ} (h : p < length s) where
  pub container-opens : (c : Container) → depth K < lim → get_or s p 0 ≡ opening c → Runs D s lim AtValue K p (at_first D c p) K (p + 1)
  container-opens Array d e = byte-to h e (opens-array D L lim p K d)
  container-opens Object d e = byte-to h e (opens-object D L lim p K d)

  pub container-deep : (c : Container) → lim ≤ depth K → get_or s p 0 ≡ opening c → Ends D s lim AtValue K p (deep p)
  container-deep Array d e = byte-over h e (skip-solid D L lim (L.solid begin_array) _ _ _ ∙ simp (L.no_quote begin_array, le-ltb _ _ d))
  container-deep Object d e = byte-over h e (skip-solid D L lim (L.solid begin_object) _ _ _ ∙ simp (L.no_quote begin_object, le-ltb _ _ d))

  pub no_entry : (c : Container) (a : ℕ) → get_or s p 0 ≡ closing c → Runs D s lim (at_first D c a) K p (After (container c a (p + 1) (no_entries c))) K (p + 1)
  no_entry Array a e = byte-to h e (rw (add-one p) (skip-solid D L lim (L.solid end_array) _ _ _))
  no_entry Object a e = byte-to h e (rw (add-one p) (skip-solid D L lim (L.solid end_object) _ _ _))

-- where neither a blank nor a comment stands
pub first_entry : {D : Dialect} {s : List ℕ} {lim p : ℕ} → Solid D s p → (c : Container) (a : ℕ) (K : Stack) → (p < length s → get_or s p 0 ≡ closing c → ⊥)
    → Runs D s lim (at_first D c a) K p (at_entry D c a (no_entries c)) (around_entry c a (no_entries c) K) p
first_entry x Array a K f = alike (λ h. simp ((x h).0, (x h).1, ne_eqb _ _ (f h))) refl
first_entry x Object a K f = alike (λ h. simp ((x h).0, (x h).1, ne_eqb _ _ (f h))) refl

-- after the value of an entry
module _ {D : Dialect} {s : List ℕ} {lim p : ℕ} {v : Json} (a : ℕ) (K : Stack) where
  pub entry_comma : TokensComplete D → p < length s → (c : Container) (es : Entries c) (key : KeyOf c) → get_or s p 0 ≡ code ","
      → Runs D s lim (After v) (around_value c a es key K) p (at_entry D c a (entry c key v es)) (around_entry c a (entry c key v es) K) (p + 1)
  entry_comma L h Array es key e = byte-to h e (skip-solid D L lim (L.solid value_separator) _ _ _)
  entry_comma L h Object es key e = byte-to h e (skip-solid D L lim (L.solid value_separator) _ _ _)

  pub entry-close : TokensComplete D → p < length s → (c : Container) (es : Entries c) (key : KeyOf c) → get_or s p 0 ≡ closing c
      → Runs D s lim (After v) (around_value c a es key K) p (After (container c a (p + 1) (reverse_entries c (entry c key v es) (no_entries c)))) K (p + 1)
  entry-close L h Array es key e = byte-to h e (rw (add-one p) (skip-solid D L lim (L.solid end_array) _ _ _))
  entry-close L h Object es key e = byte-to h e (rw (add-one p) (skip-solid D L lim (L.solid end_object) _ _ _))

  pub entry_neither : Solid D s p → (c : Container) (es : Entries c) (key : KeyOf c) → (p < length s → (get_or s p 0 ≡ code "," → ⊥) × (get_or s p 0 ≡ closing c → ⊥))
      → Ends D s lim (After v) (around_value c a es key K) p (fault p)
  entry_neither x Array es key f = stops (λ h. simp ((x h).0, (x h).1, ne_eqb _ _ (f h).0, ne_eqb _ _ (f h).1)) refl
  entry_neither x Object es key f = stops (λ h. simp ((x h).0, (x h).1, ne_eqb _ _ (f h).0, ne_eqb _ _ (f h).1)) refl

pub at_first_lem : (D : Dialect) (s : List ℕ) (c : Container) (a : ℕ) → Skips D s (at_first D c a)
at_first_lem D s Array a = at_element
at_first_lem D s Object a = at_first_key
