-- The loops of the string readers: what holds at their heads, and what each way out says.
-- A message string is coded once a byte is met that is neither plain nor the quote; a schema string keeps a flag.
use Prim.Native.Nat.{ℕ, zero, suc, ◌+◌, ◌-◌, ◌≤◌, ◌<◌}
use Prim.Native.Char.{code}
use native.Mathlib.Omega.{arith}
use native.Mathlib.Decide.{dec_lt}
use native.Mathlib.Nat.{add-zero}
use Rattle.std.specs.Prelude.{max}
use mathlib.Core.Path.{◌≡◌, refl, sym, ◌∙◌}
use mathlib.Core.Bool.{true, false}
use mathlib.Core.List.{List}
use lib.ListN.{length, get_or}
use borrow.Author.Count.{below_more}
use borrow.Author.Tests.{eq-eqb, ne_eqb}
use Rattle.grammar.specs.Serving.Machine.Schema.{schema}
use Rattle.grammar.specs.Serving.Machine.Message.{message}
use Rattle.grammar.proofs.Booleans.{clash}
use Rattle.grammar.proofs.SchemaDialect.{schema-tokens-sound, schema-tokens-complete}
use Rattle.grammar.proofs.MessageDialect.{message-tokens-sound, message-tokens-complete}
use Rattle.strings.specs.declared.dialects.Dialect.{Dialect}
use Rattle.strings.specs.declared.dialects.Dialect.TheVariants.{Schema, Message}
use Rattle.std.specs.Prelude.{Ok, Err}
use Rattle.strings.specs.declared.chars.Fault.{Fault}
use Rattle.strings.specs.declared.strings.Spelling.{Spelling}
use Rattle.strings.specs.declared.strings.Spelling.TheVariants.{Plain, Coded}
use Rattle.strings.specs.Classes.{class_of, plain_class}
use Rattle.strings.specs.Chars.{CharRead, Code, FaultAt, char_at}
use Rattle.strings.specs.Strings.{grammar_of, plain_byte, PlainEnd, ReadsString}
use Rattle.strings.proofs.CharRuns.{char-there}
use Rattle.strings.proofs.StringRuns.{Agrees, Reach, reach-none, reach-char, read-fault, read-end, read_plain, read-coded}
use Rattle.strings.proofs.PlainBytes.{itself-plain, itself-code, class_itself, class_coded, SchemaCode, SchemaCode.literal_byte, SchemaCode.backslashes, schema-code}

pub agrees : (b : Dialect) → Agrees (grammar_of b)
agrees Schema = record { sound = schema-tokens-sound; complete = schema-tokens-complete }
agrees Message = record { sound = message-tokens-sound; complete = message-tokens-complete }

-- a character leads on, within the text
pub moves : (b : Dialect) (s : List ℕ) (i : ℕ) {c e : ℕ} {r : CharRead} → r ≡ char_at (grammar_of b) s i → r ≡ Code c e → (i < e) × (e ≤ length s)
moves b s i {c} {e} f q = let t = char-there (grammar_of b) (agrees b).sound s i c e (sym f ∙ q) in (t.on, t.within)

-- a run of plain bytes, up to place i
pub record PlainTo (s : List ℕ) (from i : ℕ) : Type 0 where
  pub on : from ≤ i
  pub within : from ≤ length s → i ≤ length s
  pub plain : (k : ℕ) → from ≤ k → k < i → plain_class (class_of (get_or s k 0)) ≡ true

pub plain-none : (s : List ℕ) (from : ℕ) → PlainTo s from from
plain-none s from = record { on = omega arith; within = λ h. h; plain = λ k h g. absurd (omega arith) }

module _ {s : List ℕ} {from i : ℕ} (p : PlainTo s from i) where
  pub plain_more : i < length s → plain_class (class_of (get_or s i 0)) ≡ true → PlainTo s from (i + 1)
  plain_more h g =
      record {
        on = omega arith;
        within = λ _. omega arith;
        plain = λ k x y. below_more (λ k. from ≤ k → plain_class (class_of (get_or s k 0)) ≡ true) i (λ k l m. p.plain k m l) (λ _. g) k y x;
      }

  pub plain-stops : plain_class (class_of (get_or s i 0)) ≡ false → PlainEnd s from i
  plain-stops g = record { on = p.on; within = p.within; plain = p.plain; ends = λ _. g }

  pub plain-ends : length s ≤ i → PlainEnd s from (max from (length s))
  plain-ends h = go (dec_lt (length s) from)
    where
      go : Dec (length s < from) → PlainEnd s from (max from (length s))
      go (yes l) =
          let q : max from (length s) ≡ from = omega arith in
          rw q (record { on = omega arith; within = λ g. absurd (omega arith); plain = λ k x y. absurd (omega arith); ends = λ g. absurd (omega arith) })
      go (no l) =
          let q : max from (length s) ≡ i = omega (arith, p.within) in
          rw q (record { on = p.on; within = p.within; plain = p.plain; ends = λ g. absurd (omega arith) })

-- a message string over plain bytes
module _ {s : List ℕ} {a i e : ℕ} (r : Reach message s a i) (p : PlainEnd s i e) where
  pub reach-plain : Reach message s a e
  reach-plain = let q : i + (e - i) ≡ e = omega arith in rw q at (upto (e - i) (omega arith))
    where
      upto : (n : ℕ) → i + n ≤ e → Reach message s a (i + n)
      upto zero h = rw add-zero r
      upto (suc n) h =
          let q : i + suc n ≡ i + n + 1 = omega arith in
          let l : i + n < length s = omega (arith, p.within r.within) in
          rw q (reach-char message (agrees Message) (upto n (omega arith)) (itself-code s (i + n) l (class_itself _ (p.plain (i + n) (omega arith) (omega arith)))))

-- a message string with a byte that is not plain
pub record CodedTo (s : List ℕ) (a i : ℕ) : Type 0 where
  pub reach : Reach message s a i
  pub odd : ℕ
  pub after : a < odd
  pub upto : odd ≤ i
  pub coded : odd < length s → plain_byte (get_or s odd 0) ≡ false

module _ {s : List ℕ} {a i : ℕ} (h : a < length s) (p : PlainEnd s (a + 1) i) where
  pub plain_string_lem : i < length s → get_or s i 0 ≡ code "\"" → ReadsString message s a (Ok (record { spelling = Plain; end = i + 1 }))
  plain_string_lem g q =
      read_plain message (agrees Message) (reach-plain (reach-none message h) p) g (eq-eqb _ _ q) (λ k x y. itself-plain (class_itself _ (p.plain k (omega arith) y)))

  pub coded-starts : (i < length s → get_or s i 0 ≡ code "\"" → ⊥) → CodedTo s a i
  coded-starts n =
      record { reach = reach-plain (reach-none message h) p; odd = i; after = omega (arith, p.on); upto = omega arith; coded = λ g. class_coded _ (p.ends g) (n g) }

module _ {s : List ℕ} {a i : ℕ} (w : CodedTo s a i) where
  pub coded-more : {c e j : ℕ} {r : CharRead} → r ≡ char_at message s i → r ≡ Code c e → PlainEnd s e j → CodedTo s a j
  coded-more {c} {e} {j} f q p =
      let t : Reach message s a e = reach-char message (agrees Message) w.reach (sym f ∙ q) in
      record { reach = reach-plain t p; odd = w.odd; after = w.after; upto = omega (arith, w.upto, p.on, moves Message s i f q); coded = w.coded }

  pub coded-string : i < length s → get_or s i 0 ≡ code "\"" → ReadsString message s a (Ok (record { spelling = Coded; end = i + 1 }))
  coded-string h q = read-coded message (agrees Message) w.reach h (eq-eqb _ _ q) w.odd w.after (before (dec_lt w.odd i)) (w.coded (omega (arith, w.upto)))
    where
      before : Dec (w.odd < i) → w.odd < i
      before (yes l) = l
      before (no l) =
          let k : w.odd ≡ i = omega (arith, w.upto) in
          let z : plain_byte (get_or s i 0) ≡ false = rw k at (w.coded (omega arith)) in
          clash (rw q refl) z

  pub coded-fault : {f : Fault} {r : CharRead} → (get_or s i 0 ≡ code "\"" → ⊥) → r ≡ char_at message s i → r ≡ Err f → ReadsString message s a (Err f)
  coded-fault n f q = read-fault message (agrees Message) w.reach (λ _. ne_eqb _ _ n) (sym f ∙ q)

  pub coded-ends : length s ≤ i → ReadsString message s a (FaultAt i)
  coded-ends h = read-end message (agrees Message) w.reach h

-- a schema string, and whether every byte was plain
pub data Plainness (s : List ℕ) (a i : ℕ) : Spelling → Type 0 where
  plain_bytes : ((k : ℕ) → a < k → k < i → plain_byte (get_or s k 0) ≡ true) → Plainness s a i Plain
  coded_byte : (k : ℕ) → a < k → k < i → plain_byte (get_or s k 0) ≡ false → Plainness s a i Coded

pub record SchemaTo (s : List ℕ) (a i : ℕ) (x : Spelling) : Type 0 where
  pub reach : Reach schema s a i
  pub plainness : Plainness s a i x

pub schema-starts : {s : List ℕ} {a : ℕ} → a < length s → SchemaTo s a (a + 1) Plain
schema-starts h = record { reach = reach-none schema h; plainness = plain_bytes (λ k x y. absurd (omega arith)) }

module _ {s : List ℕ} {a i : ℕ} {x : Spelling} (w : SchemaTo s a i x) where
  module _ {c e : ℕ} {r : CharRead} (f : r ≡ char_at schema s i) (q : r ≡ Code c e) where
    reached : Reach schema s a e
    reached = reach-char schema (agrees Schema) w.reach (sym f ∙ q)

    pub schema-plain : (c ≡ code "\\" → ⊥) → SchemaTo s a e x
    schema-plain n = record { reach = reached; plainness = go (schema-code s (sym f ∙ q)) w.plainness }
      where
        go : {p : Spelling} → SchemaCode s i c e → Plainness s a i p → Plainness s a e p
        go (literal_byte b d p m) (plain_bytes g) = plain_bytes (λ k x y. below_more (λ k. a < k → plain_byte (get_or s k 0) ≡ true) i (λ k l m. g k m l) (λ _. p) k (omega arith) x)
        go (literal_byte b d p m) (coded_byte k x y t) = coded_byte k x (omega arith) t
        go (backslashes b d) o = absurd (n d)

    pub schema-coded : c ≡ code "\\" → SchemaTo s a e Coded
    schema-coded d = record { reach = reached; plainness = go (schema-code s (sym f ∙ q)) }
      where
        go : SchemaCode s i c e → Plainness s a e Coded
        go (literal_byte b k p m) = absurd (m d)
        go (backslashes b k) = coded_byte i w.reach.on (moves Schema s i f q).0 (rw b refl)

  module _ (h : i < length s) (q : get_or s i 0 ≡ code "'") where
    pub schema-string : ReadsString schema s a (Ok (record { spelling = x; end = i + 1 }))
    schema-string = go w.plainness
      where
        go : {y : Spelling} → Plainness s a i y → ReadsString schema s a (Ok (record { spelling = y; end = i + 1 }))
        go (plain_bytes f) = read_plain schema (agrees Schema) w.reach h (eq-eqb _ _ q) f
        go (coded_byte k x y f) = read-coded schema (agrees Schema) w.reach h (eq-eqb _ _ q) k x y f

  pub schema-fault : {f : Fault} {r : CharRead} → (get_or s i 0 ≡ code "'" → ⊥) → r ≡ char_at schema s i → r ≡ Err f → ReadsString schema s a (Err f)
  schema-fault n f q = read-fault schema (agrees Schema) w.reach (λ _. ne_eqb _ _ n) (sym f ∙ q)

  pub schema-ends : length s ≤ i → ReadsString schema s a (FaultAt i)
  schema-ends h = read-end schema (agrees Schema) w.reach h
