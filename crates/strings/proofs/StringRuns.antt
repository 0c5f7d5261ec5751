-- A string read up to a place: what is read from there on is read from its start, and a stop from there on is a stop from its start.
-- A character more is a character of the grammar and a run of the machine. At the closing quote the string has its meaning.
use Prim.Native.Nat.{ℕ, ◌+◌, ◌-◌, ◌≤◌, ◌<◌}
use native.Mathlib.Omega.{arith}
use native.Mathlib.Numerals.{add-one}
use mathlib.Core.Path.{◌≡◌, refl, sym, ap, ◌∙◌}
use mathlib.Core.Bool.{Bool, true, false}
use mathlib.Core.List.{List, [], ◌∷◌}
use lib.ListN.{length, get_or, drop, length-take}
use lib.Seq.{drop-cons}
use Rattle.grammar.specs.Grammar.{Chars}
use Rattle.grammar.specs.Serving.Machine.{Dialect, StringRole}
use Rattle.grammar.specs.Serving.Machine.Control.{InString}
use Rattle.grammar.proofs.Booleans.{clash}
use Rattle.grammar.proofs.Lists.{all-at, all_of_at}
use Rattle.grammar.proofs.TokenRuns.{TokensSound, TokensComplete}
use Rattle.grammar.proofs.Complete.{char-run}
use Rattle.std.specs.Prelude.{Ok, Err}
use Rattle.strings.specs.declared.chars.Fault.{Fault}
use Rattle.strings.specs.declared.strings.Spelling.TheVariants.{Plain, Coded}
use Rattle.strings.specs.Chars.{Code, FaultAt, char_at}
use Rattle.strings.specs.Strings.{plain_byte, plain_string, StopsAt, Means, ReadsString}
use Rattle.strings.specs.Meanings.{inside}
use Rattle.strings.proofs.Parts.{part-byte, part_length}
use Rattle.strings.proofs.CharRuns.{char-there, none-at-end, no_char}

-- the bytes of a string without its quotes: all of them are plain, or one is not
module _ (s : List ℕ) (a e : ℕ) (h : e ≤ length s) where
  pub all_plain : ((k : ℕ) → a < k → k + 1 < e → plain_byte (get_or s k 0) ≡ true) → plain_string s a e ≡ true
  unfolding plain_string
  all_plain f = all_of_at plain_byte 0 (inside s a e) (λ x g. each x (omega (arith, length-take (e - a - 2) (drop (a + 1) s))))
    where
      each : (x : ℕ) → x < e - a - 2 → plain_byte (get_or (inside s a e) x 0) ≡ true
      each x g = rw (part-byte s (a + 1) (e - a - 2) x g) (f (a + 1 + x) (omega arith) (omega arith))

  pub plain_at : plain_string s a e ≡ true → (k : ℕ) → a < k → k + 1 < e → plain_byte (get_or s k 0) ≡ true
  unfolding plain_string
  plain_at f k x y =
      let q : k ≡ a + 1 + (k - a - 1) = omega arith in
      let g : k - a - 1 < e - a - 2 = omega arith in
      let w = all-at plain_byte 0 (inside s a e) f (k - a - 1) (omega (arith, part_length s (a + 1) (e - a - 2) (omega arith))) in
      ap (λ (n : ℕ). plain_byte (get_or s n 0)) q ∙ ap plain_byte (sym (part-byte s (a + 1) (e - a - 2) (k - a - 1) g)) ∙ w

  pub some-coded : (k : ℕ) → a < k → k + 1 < e → plain_byte (get_or s k 0) ≡ false → plain_string s a e ≡ false
  some-coded k x y f = go (plain_string s a e) refl
    where
      go : (t : Bool) → plain_string s a e ≡ t → t ≡ false
      go true q = clash (plain_at q k x y) f
      go false q = refl

-- a dialect whose characters are those of its machine
pub record Agrees (D : Dialect) : Type 0 where
  pub sound : TokensSound D
  pub complete : TokensComplete D

module _ (D : Dialect) where
  -- from place i on the machine stops at e, whatever string it is in
  abbrev Halts : List ℕ → ℕ → ℕ → Type 0
  Halts s i e = (d : StringRole) (acc : List ℕ) → StopsAt D s (InString d acc) i e

  -- the string whose opening quote stands at place a is read up to place i
  pub record Reach (s : List ℕ) (a i : ℕ) : Type 0 where
    pub on : a < i
    pub within : i ≤ length s
    pub means : (q : ℕ) (cs : List ℕ) → Chars D.lexis i (drop i s) q (drop q s) cs → (ds : List ℕ) × Chars D.lexis (a + 1) (drop (a + 1) s) q (drop q s) ds
    pub stops : (e : ℕ) → Halts s i e → Halts s (a + 1) e

  pub reach-none : {s : List ℕ} {a : ℕ} → a < length s → Reach s a (a + 1)
  reach-none h = record { on = omega arith; within = omega arith; means = λ q cs w. (cs, w); stops = λ e f. f }

  module _ (A : Agrees D) {s : List ℕ} {a i : ℕ} (r : Reach s a i) where
    pub reach-char : {c e : ℕ} → char_at D s i ≡ Code c e → Reach s a e
    reach-char {c} {e} h =
        let t = char-there D A.sound s i c e h in
        record {
          on = omega (arith, r.on, t.on);
          within = t.within;
          means = λ q cs w. r.means q (c ∷ cs) (Chars.char t.char w);
          stops = λ q f. r.stops q (λ d acc lim k. (char-run D A.complete lim (A.complete.chars t.char) d acc k).path ∙ f d (c ∷ acc) lim k);
        }

    -- no character follows
    pub read-fault : {f : Fault} → (i < length s → D.lexis.quote (get_or s i 0) ≡ false) → char_at D s i ≡ Err f → ReadsString D s a (Err f)
    read-fault {f} n h = record { told = λ d. r.stops f.at (no_char D s i f.at h n) d [] }

    pub read-end : length s ≤ i → ReadsString D s a (FaultAt i)
    read-end h = read-fault (λ g. absurd (omega arith)) (sym (none-at-end D s i h))

    -- the closing quote follows
    module _ (h : i < length s) (t : D.lexis.quote (get_or s i 0) ≡ true) where
      closed : Chars D.lexis i (drop i s) (i + 1) (drop (i + 1) s) []
      closed = rw (add-one i, drop-cons s i 0 h) (Chars.close t)

      meant : (cs : List ℕ) × Means D s a (i + 1) cs
      meant = let w = r.means (i + 1) [] closed in (w.0, record { wide = omega (arith, r.on); within = omega arith; chars = w.1 })

      pub read_plain : ((k : ℕ) → a < k → k < i → plain_byte (get_or s k 0) ≡ true) → ReadsString D s a (Ok (record { spelling = Plain; end = i + 1 }))
      read_plain f = record { told = (meant.0, meant.1, all_plain s a (i + 1) (omega arith) (λ k x y. f k x (omega arith))) }

      pub read-coded : (k : ℕ) → a < k → k < i → plain_byte (get_or s k 0) ≡ false → ReadsString D s a (Ok (record { spelling = Coded; end = i + 1 }))
      read-coded k x y f = record { told = (meant.0, meant.1, some-coded s a (i + 1) (omega arith) k x (omega arith) f) }
