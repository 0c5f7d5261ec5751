-- What strings mean, compared: a plain string means its bytes, any other its characters one by one.
-- The meaning of a plain string goes by its code points, each of which is one plain byte.
use Prim.Native.Nat.{ℕ, suc, ◌+◌, ◌-◌, ◌≤◌, ◌<◌}
use native.Mathlib.Omega.{arith}
use native.Mathlib.Numerals.{add-one}
use mathlib.Core.Path.{◌≡◌, refl, sym, ap, ap₂, ◌∙◌}
use mathlib.Core.Bool.{Bool, true}
use mathlib.Core.List.{List, [], ◌∷◌}
use lib.ListN.{length, get_or, take, drop}
use lib.Seq.{drop-cons}
use Rattle.grammar.specs.Notation.{same}
use Rattle.grammar.specs.Serving.Machine.{Dialect}
use Rattle.strings.specs.declared.dialects.Dialect as Dialects
use Rattle.strings.specs.Chars.{Code, char_at}
use Rattle.strings.specs.Strings.{grammar_of, plain_byte, plain_string, Means}
use Rattle.strings.specs.Meanings.{inside, CodesMean, CodesSame, MeansName, MeansSame}
use Rattle.strings.proofs.StringRuns.{plain_at}
use Rattle.strings.proofs.StringReads.{agrees, moves}
use Rattle.strings.proofs.PlainBytes.{Alone, plain-alone}
use Rattle.strings.proofs.Codes.{Left, Next, Next.ends, Next.goes, next}

-- up to place q every byte inside the string is plain
abbrev Plain : List ℕ → ℕ → ℕ → Type 0
Plain s q i = (k : ℕ) → i ≤ k → k + 1 < q → plain_byte (get_or s k 0) ≡ true

pub record Bytes (s : List ℕ) (q i : ℕ) (cs : List ℕ) : Type 0 where
  pub on : i < q
  pub codes : cs ≡ take (q - i - 1) (drop i s)

module _ (b : Dialects.Dialect) (s : List ℕ) (q : ℕ) (h : q ≤ length s) where
  byte_more : {i c e : ℕ} {cs : List ℕ} → char_at (grammar_of b) s i ≡ Code c e → Plain s q i → i < e → Bytes s q e cs → Bytes s q i (c ∷ cs)
  byte_more {i} {c} {e} {cs} f p o w = record { on = omega (arith, w.on); codes = all }
    where
      one : Alone s i c e
      one = plain-alone b s i c e (omega (arith, w.on)) (p i (omega arith) (omega (arith, w.on))) f

      all : c ∷ cs ≡ take (q - i - 1) (drop i s)
      all =
          let n : suc (q - e - 1) ≡ q - i - 1 = omega (arith, w.on, one.end) in
          let m : e ≡ suc i = one.end ∙ add-one i in
          let l : i < length s = omega (arith, w.on) in
          rw (← n, drop-cons s i 0 l) (ap₂ (λ (x : ℕ) (l : List ℕ). x ∷ l) one.byte (w.codes ∙ ap (λ (k : ℕ). take (q - e - 1) (drop k s)) m))

  bytes : (cs : List ℕ) (i : ℕ) → Left (grammar_of b) s i q cs → Plain s q i → Bytes s q i cs
  bytes [] i w p = go (next (grammar_of b) (agrees b) s w)
    where
      go : Next (grammar_of b) (agrees b) s i q [] → Bytes s q i []
      go (ends k e x) = let n : q - i - 1 ≡ 0 = omega arith in record { on = omega arith; codes = rw n refl }
  bytes (c ∷ cs) i w p = go (λ e. bytes cs e) (next (grammar_of b) (agrees b) s w)
    where
      go : ((e : ℕ) → Left (grammar_of b) s e q cs → Plain s q e → Bytes s q e cs) → Next (grammar_of b) (agrees b) s i q (c ∷ cs) → Bytes s q i (c ∷ cs)
      go ih (goes {e = e} f v) = let o = (moves b s i refl f).0 in byte_more f p o (ih e v (λ k x y. p k (omega arith) y))

module _ (b : Dialects.Dialect) {s : List ℕ} {a e : ℕ} where
  pub plain-means : {cs : List ℕ} → Means (grammar_of b) s a e cs → plain_string s a e ≡ true → cs ≡ inside s a e
  plain-means {cs} m t =
      let w = bytes b s e m.within cs (a + 1) m.chars (λ k x y. plain_at s a e m.within t k (omega arith) y) in
      let n : e - (a + 1) - 1 ≡ e - a - 2 = omega arith in
      w.codes ∙ ap (λ (k : ℕ). take k (drop (a + 1) s)) n

-- a string against a name
module _ {s : List ℕ} {a e : ℕ} {plain : Bool} {name : List ℕ} {r : Bool} where
  pub name-plain : (b : Dialects.Dialect) → plain ≡ true → r ≡ same (inside s a e) name → MeansName (grammar_of b) s a e plain name r
  name-plain b t w = record { told = λ cs m p. w ∙ ap (λ (l : List ℕ). same l name) (sym (plain-means b m (p t))) }

  pub name-coded : (D : Dialect) → CodesMean D s a name r → MeansName D s a e plain name r
  name-coded D w = record { told = λ cs m p. w.told e cs m }

-- two strings
module _ {s : List ℕ} {a e b f : ℕ} {plain_a plain_b r : Bool} where
  pub strings_plain : (d : Dialects.Dialect) → plain_a ≡ true → plain_b ≡ true → r ≡ same (inside s a e) (inside s b f) → MeansSame (grammar_of d) s a e plain_a b f plain_b r
  strings_plain d t u w =
      record { told = λ cs ds m n p q. w ∙ ap₂ (λ (x y : List ℕ). same x y) (sym (plain-means d m (p t))) (sym (plain-means d n (q u))) }

  pub strings_coded : (D : Dialect) → CodesSame D s a b r → MeansSame D s a e plain_a b f plain_b r
  strings_coded D w = record { told = λ cs ds m n p q. w.told e f cs ds m n }
