-- The code points of strings, read one by one: where the grammar has a string the reader finds its next character or its end, and no other.
-- Each loop keeps what is left of the strings, and that comparing it is comparing the whole.
use Prim.Native.Nat.{ℕ, ◌+◌, ◌≤◌, ◌<◌}
use native.Mathlib.Omega.{arith}
use native.Mathlib.Decide.{dec_lt}
use native.Mathlib.Numerals.{add-one}
use mathlib.Core.Path.{◌≡◌, refl, sym, ap, ◌∙◌}
use mathlib.Core.Bool.{Bool, true, false}
use mathlib.Core.List.{List, [], ◌∷◌}
use lib.Dec.{eqb}
use lib.ListN.{length, get_or, drop, drop_of_length-le}
use lib.Seq.{drop-cons}
use borrow.Author.Tests.{eq-eqb, ne_eqb}
use Rattle.grammar.specs.Notation.{same}
use Rattle.grammar.specs.Grammar.{Chars, Chars.close, Chars.char}
use Rattle.grammar.specs.Serving.Machine.{Dialect}
use Rattle.strings.specs.declared.dialects.Dialect as Dialects
use Rattle.std.specs.Prelude.{Err}
use Rattle.strings.specs.declared.chars.Fault.{Fault}
use Rattle.strings.specs.Chars.{CharRead, Code, FaultAt, char_at}
use Rattle.strings.specs.Strings.{grammar_of}
use Rattle.strings.specs.Meanings.{CodesMean, CodesSame}
use Rattle.strings.proofs.CharRuns.{here, same-char, standing, fault-not-code, code-not-fault, char-coded, none-at-end, none-at-quote}
use Rattle.strings.proofs.StringRuns.{Agrees}
use Rattle.strings.proofs.StringReads.{agrees}

-- a string from place i to q
abbrev pub Left : Dialect → List ℕ → ℕ → ℕ → List ℕ → Type 0
Left D s i q cs = Chars D.lexis i (drop i s) q (drop q s) cs

-- a character, and what is left after it
pub record More (D : Dialect) (s : List ℕ) (c e q : ℕ) (cs : List ℕ) : Type 0 where
  pub rest : List ℕ
  pub codes : cs ≡ c ∷ rest
  pub chars : Left D s e q rest

module _ (D : Dialect) (A : Agrees D) (s : List ℕ) where
  -- it ends at once, or a character stands there
  pub data Next (i q : ℕ) : List ℕ → Type 0 where
    ends : i < length s → q ≡ i + 1 → FaultAt i ≡ char_at D s i → Next i q []
    goes : {c e : ℕ} {cs : List ℕ} → char_at D s i ≡ Code c e → Left D s e q cs → Next i q (c ∷ cs)

  pub next : {i q : ℕ} {cs : List ℕ} → Left D s i q cs → Next i q cs
  next w = split w refl refl
    where
      split : {i q : ℕ} {l r cs : List ℕ} → Chars D.lexis i l q r cs → drop i s ≡ l → drop q s ≡ r → Next i q cs
      split (close {p = i} t) d f = let k = standing s i d in ends k.there (sym (add-one i)) (none-at-quote D s i k.there (rw k.byte t))
      split (char {cs = cs} c w) d f = let k = char-coded D A.complete s c d in goes {cs = cs} k.code (rw (k.left, f) w)

  -- what a reader's answer says of it
  module _ {i : ℕ} {r : CharRead} (f : r ≡ char_at D s i) where
    pub no_more : (q : ℕ) {e : Fault} {cs : List ℕ} → r ≡ Err e → Left D s i q cs → cs ≡ []
    no_more q g w = go (next w)
      where
        go : {cs : List ℕ} → Next i q cs → cs ≡ []
        go (ends h k x) = refl
        go (goes x w) = code-not-fault (sym x ∙ sym f ∙ g)

    pub one_more : (q : ℕ) {c e : ℕ} {cs : List ℕ} → r ≡ Code c e → Left D s i q cs → More D s c e q cs
    one_more q {c} {e} g w = go (next w)
      where
        go : {cs : List ℕ} → Next i q cs → More D s c e q cs
        go (ends h k x) = fault-not-code (x ∙ sym f ∙ g)
        go (goes {c = d} {e = k} {cs = ds} x w) =
            let y = same-char (sym x ∙ sym f ∙ g) in
            let m : d ≡ c = y.0 in
            let n : k ≡ e = y.1 in
            record { rest = ds; codes = ap (λ (c : ℕ). c ∷ ds) m; chars = rw n at w }

  pub none-past : {A : Type 0} (i q : ℕ) (cs : List ℕ) → length s ≤ i → Left D s i q cs → A
  none-past i q cs h w = go (next w)
    where
      go : {A : Type 0} {cs : List ℕ} → Next i q cs → A
      go (ends g k x) = absurd (omega arith)
      go (goes x w) = fault-not-code (none-at-end D s i h ∙ x)

-- a string against a name: both from here on say what the whole says
pub record Matching (D : Dialect) (s : List ℕ) (a : ℕ) (name : List ℕ) (i j : ℕ) : Type 0 where
  pub within : j ≤ length name
  pub left : (q : ℕ) (cs : List ℕ) → Left D s (a + 1) q cs → (ds : List ℕ) × Left D s i q ds × (same cs name ≡ same ds (drop j name))

pub matching_starts : (D : Dialect) (s : List ℕ) (a : ℕ) (name : List ℕ) → Matching D s a name (a + 1) 0
matching_starts D s a name = record { within = omega arith; left = λ q cs w. (cs, w, refl) }

-- a string that does not lie within the text means nothing
pub outside_name : (D : Dialect) (s : List ℕ) (a : ℕ) (name : List ℕ) {r : Bool} → length s ≤ a → CodesMean D s a name r
outside_name D s a name h = record { told = λ e cs m. absurd (omega (arith, m.wide, m.within)) }

at-end : (name : List ℕ) (j : ℕ) → j ≤ length name → eqb j (length name) ≡ same [] (drop j name)
at-end name j h = go (dec_lt j (length name))
  where
    go : Dec (j < length name) → eqb j (length name) ≡ same [] (drop j name)
    go (yes g) = rw (ne_eqb j (length name) (omega arith), drop-cons name j 0 g) refl
    go (no g) = rw (eq-eqb j (length name) (omega arith), drop_of_length-le name {i = j} (omega arith)) refl

module _ (d : Dialects.Dialect) {s : List ℕ} {a : ℕ} {name : List ℕ} {i j : ℕ} (w : Matching (grammar_of d) s a name i j) where
  answer : {r : Bool} → ((q : ℕ) (ds : List ℕ) → Left (grammar_of d) s i q ds → r ≡ same ds (drop j name)) → CodesMean (grammar_of d) s a name r
  answer f = record { told = λ e cs m. let k = w.left e cs m.chars in f e k.0 k.1 ∙ sym k.2 }

  module _ {r : CharRead} (f : r ≡ char_at (grammar_of d) s i) where
    pub name-ended : {e : Fault} → r ≡ Err e → CodesMean (grammar_of d) s a name (eqb j (length name))
    name-ended g = answer (λ q ds l. rw (no_more (grammar_of d) (agrees d) s f q g l) (at-end name j w.within))

    module _ {c e : ℕ} (g : r ≡ Code c e) where
      pub name-short : length name ≤ j → CodesMean (grammar_of d) s a name false
      name-short h = answer (λ q ds l. let k = one_more (grammar_of d) (agrees d) s f q g l in rw (drop_of_length-le name h, k.codes) refl)

      pub name-differs : j < length name → (c ≡ get_or name j 0 → ⊥) → CodesMean (grammar_of d) s a name false
      name-differs h n = answer (λ q ds l. let k = one_more (grammar_of d) (agrees d) s f q g l in rw (drop-cons name j 0 h, k.codes, ne_eqb c (get_or name j 0) n) refl)

      pub matching_more : j < length name → c ≡ get_or name j 0 → Matching (grammar_of d) s a name e (j + 1)
      matching_more h n =
          record {
            within = omega arith;
            left = λ q cs v.
                let k = w.left q cs v in
                let m = one_more (grammar_of d) (agrees d) s f q g k.1 in
                (m.rest, m.chars, k.2 ∙ on m);
          }
        where
          on : {q : ℕ} {ds : List ℕ} (m : More (grammar_of d) s c e q ds) → same ds (drop j name) ≡ same m.rest (drop (j + 1) name)
          on m = rw (m.codes, here name j h, eq-eqb c (get_or name j 0) n) refl

  pub name-past : length s ≤ i → CodesMean (grammar_of d) s a name false
  name-past h = answer (λ q ds l. none-past (grammar_of d) (agrees d) s i q ds h l)

-- two strings: both from here on say what the whole says
pub record Pairing (D : Dialect) (s : List ℕ) (a b i j : ℕ) : Type 0 where
  pub left : (q p : ℕ) (cs ds : List ℕ) → Left D s (a + 1) q cs → Left D s (b + 1) p ds
      → (xs : List ℕ) × (ys : List ℕ) × Left D s i q xs × Left D s j p ys × (same cs ds ≡ same xs ys)

pub pairing_starts : (D : Dialect) (s : List ℕ) (a b : ℕ) → Pairing D s a b (a + 1) (b + 1)
pairing_starts D s a b = record { left = λ q p cs ds v w. (cs, ds, v, w, refl) }

module _ (D : Dialect) (s : List ℕ) (a b : ℕ) {r : Bool} where
  pub first_outside : length s ≤ a → CodesSame D s a b r
  first_outside h = record { told = λ e f cs ds m n. absurd (omega (arith, m.wide, m.within)) }

  pub second_outside : length s ≤ b → CodesSame D s a b r
  second_outside h = record { told = λ e f cs ds m n. absurd (omega (arith, n.wide, n.within)) }

module _ (d : Dialects.Dialect) {s : List ℕ} {a b i j : ℕ} (w : Pairing (grammar_of d) s a b i j) where
  verdict : {r : Bool} → ((q p : ℕ) (xs ys : List ℕ) → Left (grammar_of d) s i q xs → Left (grammar_of d) s j p ys → r ≡ same xs ys) → CodesSame (grammar_of d) s a b r
  verdict f = record { told = λ q p cs ds m n. let k = w.left q p cs ds m.chars n.chars in f q p k.0 k.1 k.2 k.3 ∙ sym k.4 }

  pub pair-past : length s ≤ i → CodesSame (grammar_of d) s a b false
  pair-past h = verdict (λ q p xs ys v u. none-past (grammar_of d) (agrees d) s i q xs h v)

  module _ {x y : CharRead} (f : x ≡ char_at (grammar_of d) s i) (g : y ≡ char_at (grammar_of d) s j) where
    pub both-ended : {e o : Fault} → x ≡ Err e → y ≡ Err o → CodesSame (grammar_of d) s a b true
    both-ended k l = verdict (λ q p xs ys v u. rw (no_more (grammar_of d) (agrees d) s f q k v, no_more (grammar_of d) (agrees d) s g p l u) refl)

    pub first_ended : {e : Fault} {n o : ℕ} → x ≡ Err e → y ≡ Code n o → CodesSame (grammar_of d) s a b false
    first_ended k l = verdict (λ q p xs ys v u. rw (no_more (grammar_of d) (agrees d) s f q k v, (one_more (grammar_of d) (agrees d) s g p l u).codes) refl)

    pub second_ended : {c e : ℕ} {o : Fault} → x ≡ Code c e → y ≡ Err o → CodesSame (grammar_of d) s a b false
    second_ended k l = verdict (λ q p xs ys v u. rw ((one_more (grammar_of d) (agrees d) s f q k v).codes, no_more (grammar_of d) (agrees d) s g p l u) refl)

    module _ {c e n o : ℕ} (k : x ≡ Code c e) (l : y ≡ Code n o) where
      pub pair-differs : (c ≡ n → ⊥) → CodesSame (grammar_of d) s a b false
      pair-differs h = verdict (λ q p xs ys v u. rw ((one_more (grammar_of d) (agrees d) s f q k v).codes, (one_more (grammar_of d) (agrees d) s g p l u).codes, ne_eqb c n h) refl)

      pub pairing_more : c ≡ n → Pairing (grammar_of d) s a b e o
      pairing_more h =
          record {
            left = λ q p cs ds v u.
                let t = w.left q p cs ds v u in
                let m = one_more (grammar_of d) (agrees d) s f q k t.2 in
                let z = one_more (grammar_of d) (agrees d) s g p l t.3 in
                (m.rest, z.rest, m.chars, z.chars, t.4 ∙ on m z);
          }
        where
          on : {q p : ℕ} {xs ys : List ℕ} (m : More (grammar_of d) s c e q xs) (z : More (grammar_of d) s n o p ys) → same xs ys ≡ same m.rest z.rest
          on m z = rw (m.codes, z.codes, eq-eqb c n h) refl
