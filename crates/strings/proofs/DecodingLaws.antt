-- Decoding a string: the bytes so far and what is left are the whole.
use Prim.Native.Nat.{ℕ, ◌+◌, ◌≤◌, ◌<◌}
use native.Mathlib.Omega.{arith}
use native.Mathlib.Numerals.{add-one}
use mathlib.Core.Path.{◌≡◌, refl, sym, ap, ◌∙◌}
use mathlib.Core.List.{List, [], ◌∷◌, ◌++◌, append-nil, append_assoc}
use lib.ListN.{length, get_or, set, take, length-append, length-set, length-take}
use lib.Seq.{take-suc-set, get_or_at}
use Rattle.grammar.specs.Serving.Machine.{Dialect}
use Rattle.strings.specs.declared.dialects.Dialect as Dialects
use Rattle.std.specs.Prelude.{Some, None, Err}
use Rattle.strings.specs.declared.chars.Fault.{Fault}
use Rattle.strings.specs.Chars.{CharRead, Code, char_at}
use Rattle.strings.specs.Strings.{grammar_of}
use Rattle.strings.specs.Bytes.{Bytes}
use Rattle.strings.specs.Decoding.{Decodes}
use Rattle.strings.proofs.Codes.{Left, no_more, one_more, none-past}
use Rattle.strings.proofs.StringReads.{agrees}

-- n bytes are decoded, and the characters from place i on are left
pub record DecodedSoFar (D : Dialect) (s : List ℕ) (a : ℕ) (bytes : List ℕ) (n i : ℕ) : Type 0 where
  pub within : n ≤ length bytes
  pub left : (q : ℕ) (cs : List ℕ) → Left D s (a + 1) q cs → (ds : List ℕ) × Left D s i q ds × (cs ≡ take n bytes ++ ds)

pub decoding_starts : (D : Dialect) (s : List ℕ) (a : ℕ) (bytes : List ℕ) → DecodedSoFar D s a bytes 0 (a + 1)
decoding_starts D s a bytes = record { within = omega arith; left = λ q cs w. (cs, w, refl) }

-- a string that does not lie within the text means nothing
pub decoding_outside : (D : Dialect) (s : List ℕ) (a : ℕ) (bytes : List ℕ) → length s ≤ a → Decodes D s a bytes None
decoding_outside D s a bytes h = record { fits = omega arith; told = λ e cs m. absurd (omega (arith, m.wide, m.within)) }

module _ (d : Dialects.Dialect) {s : List ℕ} {a : ℕ} {bytes : List ℕ} {n i : ℕ} (w : DecodedSoFar (grammar_of d) s a bytes n i) where
  module _ {r : CharRead} (f : r ≡ char_at (grammar_of d) s i) where
    pub decoding_ends : {x : Fault} → r ≡ Err x → Decodes (grammar_of d) s a bytes (Some n)
    decoding_ends g =
        record {
          fits = w.within;
          told = λ e cs m.
              let k = w.left e cs m.chars in
              k.2 ∙ ap (λ (l : List ℕ). take n bytes ++ l) (no_more (grammar_of d) (agrees d) s f e g k.1) ∙ append-nil (take n bytes);
        }

    module _ {c e : ℕ} (g : r ≡ Code c e) where
      -- what the whole is, with one more
      whole : (q : ℕ) (cs : List ℕ) → Left (grammar_of d) s (a + 1) q cs → (ds : List ℕ) × Left (grammar_of d) s e q ds × (cs ≡ take n bytes ++ c ∷ ds)
      whole q cs v =
          let k = w.left q cs v in
          let m = one_more (grammar_of d) (agrees d) s f q g k.1 in
          (m.rest, m.chars, k.2 ∙ ap (λ (l : List ℕ). take n bytes ++ l) m.codes)

      taken : length (take n bytes) ≡ n
      taken = simp length-take (omega (arith, w.within))

      other : ((ds x : List ℕ) → Bytes x → length x ≤ length bytes → x ≡ take n bytes ++ c ∷ ds → ⊥) → Decodes (grammar_of d) s a bytes None
      other n =
          record {
            fits = omega arith;
            told = λ q cs m. let k = whole q cs m.chars in record { other = λ x b l y. n k.0 x b l (y ∙ k.2) };
          }

      pub too_many : length bytes ≤ n → Decodes (grammar_of d) s a bytes None
      too_many h = other (λ ds x b l y. omega (arith, taken, simp length-append at (ap length y)))

      pub no_byte : 255 < c → Decodes (grammar_of d) s a bytes None
      no_byte h = other (λ ds x b l y. omega (arith, b n, ap (λ (z : List ℕ). get_or z n 0) y, get_or_at (take n bytes) c ds 0 n taken))

      pub decoding_more : n < length bytes → DecodedSoFar (grammar_of d) s a (set bytes n c) (n + 1) e
      decoding_more h =
          record {
            within = simp length-set (omega arith);
            left = λ q cs v. let k = whole q cs v in (k.0, k.1, k.2 ∙ sym (rw (add-one n, take-suc-set bytes n c h) (append_assoc (take n bytes) (c ∷ []) k.0)));
          }

  pub decoding_past : length s ≤ i → Decodes (grammar_of d) s a bytes None
  decoding_past h = record { fits = omega arith; told = λ e cs n. let k = w.left e cs n.chars in none-past (grammar_of d) (agrees d) s i e k.0 h k.1 }
