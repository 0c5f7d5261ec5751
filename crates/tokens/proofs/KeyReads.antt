-- Keys and colons: what their readers answer is what the machine does inside an object.
-- Blanks, the key's quote, its characters, blanks, the colon: a run for each.
use Prim.Native.Nat.{ℕ, ◌+◌, ◌≤◌, ◌<◌}
use Prim.Native.Char.{code}
use native.Mathlib.Omega.{arith}
use mathlib.Core.Path.{◌≡◌, refl, ◌∙◌}
use mathlib.Core.Bool.{true, false}
use mathlib.Core.List.{List}
use lib.ListN.{length, get_or}
use borrow.Author.Tests.{ne_eqb}
use Rattle.grammar.specs.Serving.Machine.{Dialect, StringRole.as_key}
use Rattle.grammar.specs.Serving.Machine.Control.{AtKey, AtColon}
use Rattle.grammar.proofs.TokenRuns.{TokensComplete, Structural.name_separator}
use Rattle.grammar.proofs.Complete.{skip-solid}
use Rattle.strings.specs.Strings.{Means, is_plain, ReadsString}
use Rattle.tokens.specs.Tokens.{Skips.at_key, Skips.at_colon, Skipped, KeyRuns, ReadsKey, key_kind}
use Rattle.tokens.specs.TokenParts.{ColonRuns, ReadsColon}
use Rattle.std.specs.Prelude.{Ok, Err}
use Rattle.strings.specs.Chars.{FaultAt}
use Rattle.strings.specs.declared.chars.Fault.{Fault}
use Rattle.strings.specs.declared.strings.StringEnd.{StringEnd}
use Rattle.tokens.proofs.Scanning.{scan-to, scan_stuck, scan-end}
use Rattle.tokens.proofs.StringTokens.{key-quote, string-run}

-- the colon after a key that ends at e
module _ {D : Dialect} {s : List ℕ} {e c : ℕ} (w : Skipped D s e c) where
  pub colon-end : length s ≤ c → ReadsColon D s e (FaultAt c)
  colon-end h = record { told = λ a o fs cs lim k. w.runs lim (AtColon o fs a e cs) k at_colon ∙ scan-end D s lim (AtColon o fs a e cs) k c h }

  pub no_colon : c < length s → (get_or s c 0 ≡ code ":" → ⊥) → ReadsColon D s e (FaultAt c)
  no_colon h n =
      let b = w.solid h in
      record {
        told = λ a o fs cs lim k.
            w.runs lim (AtColon o fs a e cs) k at_colon ∙ scan_stuck D s lim (AtColon o fs a e cs) k c h (simp (b.0, b.1, ne_eqb (get_or s c 0) (code ":") n));
      }

  pub a-colon : TokensComplete D → c < length s → get_or s c 0 ≡ code ":" → ReadsColon D s e (Ok (c + 1))
  a-colon L h q =
      record {
        told = λ a.
            record {
              past = omega (arith, w.on);
              within = omega arith;
              runs = λ lim o fs cs k.
                  w.runs lim (AtColon o fs a e cs) k at_colon ∙ scan-to D s lim (AtColon o fs a e cs) k c h (rw q (skip-solid D L lim (L.solid name_separator) _ _ _));
            };
      }

-- the key at a, after blanks from i on
module _ {D : Dialect} {s : List ℕ} {i a : ℕ} (w : Skipped D s i a) where
  pub key-end : length s ≤ a → ReadsKey D s i (FaultAt a)
  key-end h = record { told = λ o fs lim k. w.runs lim (AtKey o fs) k at_key ∙ scan-end D s lim (AtKey o fs) k a h }

  module _ (h : a < length s) where
    pub no_key : D.lexis.quote (get_or s a 0) ≡ false → ReadsKey D s i (FaultAt a)
    no_key f =
        let b = w.solid h in
        record { told = λ o fs lim k. w.runs lim (AtKey o fs) k at_key ∙ scan_stuck D s lim (AtKey o fs) k a h (simp (b.0, b.1, f)) }

    module _ (L : TokensComplete D) (t : D.lexis.quote (get_or s a 0) ≡ true) where
      pub key-fault : {f : Fault} → ReadsString D s a (Err f) → ReadsKey D s i (Err f)
      key-fault x = record { told = λ o fs lim k. w.runs lim (AtKey o fs) k at_key ∙ (key-quote L lim k s a h t o fs ∙ x.told (as_key o fs a) lim k) }

      key-runs : {e n : ℕ} {cs : List ℕ} → Means D s a e cs → ColonRuns D s a e n → KeyRuns D s i a e n cs
      key-runs {cs = cs} m z =
          record {
            on = w.on;
            means = m;
            past = z.past;
            within = z.within;
            runs = λ lim o fs k.
                w.runs lim (AtKey o fs) k at_key
                ∙ (key-quote L lim k s a h t o fs ∙ (string-run L lim k m (as_key o fs a) ∙ z.runs lim o fs cs k));
          }

      module _ {r : StringEnd} (x : ReadsString D s a (Ok r)) where
        pub colon-fault : {f : Fault} → ReadsColon D s r.end (Err f) → ReadsKey D s i (Err f)
        colon-fault y =
            let z = x.told in
            record {
              told = λ o fs lim k.
                  w.runs lim (AtKey o fs) k at_key ∙ (key-quote L lim k s a h t o fs ∙ (string-run L lim k z.1 (as_key o fs a) ∙ y.told a o fs z.0 lim k));
            }

        pub a-key : {n : ℕ} → ReadsColon D s r.end (Ok n) → ReadsKey D s i (Ok (record { start = a; end = r.end; kind = key_kind (is_plain r.spelling); past = n }))
        a-key y = let z = x.told in record { told = (z.0, key-runs z.1 (y.told a), rw z.2 refl) }
