-- Hashes of strings, reckoned byte by byte or character by character: what is left of the string, from the hash so far, has the hash of the whole.
-- A plain string means its bytes.
use Prim.Native.Nat.{ℕ, ◌+◌, ◌≤◌}
use native.Mathlib.Omega.{arith}
use mathlib.Core.Path.{◌≡◌, refl, sym, ap, ◌∙◌}
use mathlib.Core.Bool.{Bool, true}
use mathlib.Core.List.{List}
use lib.ListN.{length}
use Rattle.grammar.specs.Serving.Machine.{Dialect}
use Rattle.strings.specs.declared.dialects.Dialect as Dialects
use Rattle.std.specs.Prelude.{Err}
use Rattle.strings.specs.declared.chars.Fault.{Fault}
use Rattle.strings.specs.Chars.{CharRead, Code, char_at}
use Rattle.strings.specs.Strings.{grammar_of}
use Rattle.strings.specs.Meanings.{inside}
use Rattle.strings.specs.Hashes.{hash_more, hash_from, hash_of, CodesHash, MeansHash}
use Rattle.strings.proofs.StringReads.{agrees}
use Rattle.strings.proofs.Codes.{Left, no_more, one_more, none-past}
use Rattle.strings.proofs.Comparisons.{plain-means}

-- the characters from place i on are left
pub record HashedCodes (D : Dialect) (s : List ℕ) (a m i : ℕ) : Type 0 where
  pub left : (q : ℕ) (cs : List ℕ) → Left D s (a + 1) q cs → (ds : List ℕ) × Left D s i q ds × (hash_of cs ≡ hash_from m ds)

pub codes-start : (D : Dialect) (s : List ℕ) (a : ℕ) → HashedCodes D s a 0 (a + 1)
unfolding hash_of
codes-start D s a = record { left = λ q cs w. (cs, w, refl) }

pub codes_outside : (D : Dialect) (s : List ℕ) (a : ℕ) {r : ℕ} → length s ≤ a → CodesHash D s a r
codes_outside D s a h = record { told = λ e cs m. absurd (omega (arith, m.wide, m.within)) }

module _ (d : Dialects.Dialect) {s : List ℕ} {a m i : ℕ} (w : HashedCodes (grammar_of d) s a m i) where
  module _ {r : CharRead} (f : r ≡ char_at (grammar_of d) s i) where
    pub codes-end : {x : Fault} → r ≡ Err x → CodesHash (grammar_of d) s a m
    codes-end g = record { told = λ e cs n. let k = w.left e cs n.chars in sym (k.2 ∙ ap (hash_from m) (no_more (grammar_of d) (agrees d) s f e g k.1)) }

    pub codes-more : {c e x : ℕ} → r ≡ Code c e → x ≡ hash_more m c → HashedCodes (grammar_of d) s a x e
    codes-more {c} {e} {x} g p =
        record {
          left = λ q cs v.
              let k = w.left q cs v in
              let n = one_more (grammar_of d) (agrees d) s f q g k.1 in
              (n.rest, n.chars, k.2 ∙ ap (hash_from m) n.codes ∙ sym (ap (λ (y : ℕ). hash_from y n.rest) p));
        }

  pub codes-past : length s ≤ i → CodesHash (grammar_of d) s a m
  codes-past h = record { told = λ e cs n. let k = w.left e cs n.chars in none-past (grammar_of d) (agrees d) s i e k.0 h k.1 }

module _ {s : List ℕ} {a e r : ℕ} {plain : Bool} where
  pub hash-plain : (b : Dialects.Dialect) → plain ≡ true → r ≡ hash_of (inside s a e) → MeansHash (grammar_of b) s a e plain r
  hash-plain b t w = record { told = λ cs m p. w ∙ ap hash_of (sym (plain-means b m (p t))) }

  pub hash-coded : (D : Dialect) → CodesHash D s a r → MeansHash D s a e plain r
  hash-coded D w = record { told = λ cs m p. w.told e cs m }
