-- Plain bytes: what a byte's class says of it, and that a plain byte is its own code point in either dialect.
-- By the tests of the class; in schema text by the grammar's two kinds of characters.
use Prim.Native.Nat.{ℕ, ◌+◌, ◌≤◌, ◌<◌}
use Prim.Native.Char.{code}
use native.Mathlib.Omega.{arith}
use native.Mathlib.Numerals.{add-one}
use mathlib.Core.Path.{◌≡◌, refl, sym, ap, ◌∙◌}
use mathlib.Core.Bool.{Bool, true, false, not, ◌||◌}
use mathlib.Core.List.{List}
use lib.Dec.{eqb, leb}
use lib.ListN.{length, get_or, drop}
use borrow.Author.Tests.{leb-true, leb-false, eqb-true, eqb-false, eq-eqb, ne_eqb}
use Rattle.grammar.specs.Notation.{within}
use Rattle.grammar.specs.Lexis.{blank}
use Rattle.grammar.specs.SchemaText as SchemaText
use Rattle.grammar.specs.Serving.Machine.Schema.{schema}
use Rattle.grammar.specs.Serving.Machine.Message.{message}
use Rattle.grammar.proofs.Booleans.{clash, by, either, both, within-true, within-is, within-below, within-above}
use Rattle.grammar.proofs.SchemaDialect.{schema-tokens-sound}
use Rattle.strings.specs.declared.dialects.Dialect.{Dialect}
use Rattle.strings.specs.declared.dialects.Dialect.TheVariants.{Schema, Message}
use Rattle.strings.specs.declared.class.Class.{Class}
use Rattle.strings.specs.Classes.{named, class_of, plain_class}
use Rattle.strings.specs.Chars.{Code, char_at}
use Rattle.strings.specs.Strings.{grammar_of, plain_byte}
use Rattle.strings.proofs.CharRuns.{standing, same-char, fault-not-code, char-there, none-at-quote}
use Rattle.strings.proofs.MessageChars.{starts-plain}

-- a byte that stands for itself in a message string
pub record Itself (b : ℕ) : Type 0 where
  pub from : 0x20 ≤ b
  pub upto : b ≤ 0x7F
  pub no_quote : b ≡ code "\"" → ⊥
  pub no_backslash : b ≡ code "\\" → ⊥

plain-is : (b : ℕ) → 0x20 ≤ b → b ≤ 0x7F → (b ≡ code "\\" → ⊥) → plain_byte b ≡ true
plain-is b h g n = simp (within-is 0x20 0x7F b h g, ne_eqb b (code "\\") n)

pub itself-plain : {b : ℕ} → Itself b → plain_byte b ≡ true
itself-plain {b} p = plain-is b p.from p.upto p.no_backslash

plain-true : (b : ℕ) → plain_byte b ≡ true → (0x20 ≤ b) × (b ≤ 0x7F) × (b ≡ code "\\" → ⊥)
plain-true b t =
    let h = both (within 0x20 0x7F b) (not (eqb b (code "\\"))) t in
    let g = within-true 0x20 0x7F b h.0 in
    (g.0, g.1, λ e. clash h.1 (ap not (eq-eqb b (code "\\") e)))

-- the classes of plain bytes are those bytes
pub class_itself : (b : ℕ) → plain_class (class_of b) ≡ true → Itself b
unfolding class_of
class_itself b =
    by P (eqb b (code " ")) (λ t _. let e = eqb-true b (code " ") t in record { from = omega arith; upto = omega arith; no_quote = omega arith; no_backslash = omega arith })
    (λ _. by P (blank b) (λ _ h. clash h refl)
    (λ _. by P (leb b 0x1F) (λ _ h. clash h refl)
    (λ f. by P (leb 0x80 b) (λ _ h. clash h refl)
    (λ g. by P (eqb b (code "\"")) (λ _ h. clash h refl)
    (λ q. by P (eqb b (code "\\")) (λ _ h. clash h refl)
    (λ r _. record { from = leb-false b 0x1F f; upto = omega (arith, leb-false 0x80 b g); no_quote = eqb-false b _ q; no_backslash = eqb-false b _ r }))))))
  where
    P : Class → Type 0
    P n = plain_class n ≡ true → Itself b

below_plain : (b : ℕ) → b < 0x20 → plain_byte b ≡ false
below_plain b h = simp (within-below 0x20 0x7F b h)

blank-coded : (b : ℕ) → eqb b (code " ") ≡ false → blank b ≡ true → plain_byte b ≡ false
unfolding blank
blank-coded b f =
    either (eqb b (code " ") || eqb b (code "\t") || eqb b (code "\n")) (eqb b (code "\r"))
    (either (eqb b (code " ") || eqb b (code "\t")) (eqb b (code "\n"))
    (either (eqb b (code " ")) (eqb b (code "\t")) (λ t. clash t f) (λ t. let e = eqb-true b (code "\t") t in below_plain b (omega arith)))
    (λ t. let e = eqb-true b (code "\n") t in below_plain b (omega arith)))
    (λ t. let e = eqb-true b (code "\r") t in below_plain b (omega arith))

-- of the others only the quotation mark is plain
pub class_coded : (b : ℕ) → plain_class (class_of b) ≡ false → (b ≡ code "\"" → ⊥) → plain_byte b ≡ false
unfolding class_of
class_coded b =
    by P (eqb b (code " ")) (λ _ h. clash refl h)
    (λ f. by P (blank b) (λ t _ _. blank-coded b f t)
    (λ _. by P (leb b 0x1F) (λ t _ _. below_plain b (omega (arith, leb-true b 0x1F t)))
    (λ _. by P (leb 0x80 b) (λ t _ _. simp (within-above 0x20 0x7F b (leb-true 0x80 b t)))
    (λ _. by P (eqb b (code "\"")) (λ t _ n. absurd (n (eqb-true b (code "\"") t)))
    (λ _. by P (eqb b (code "\\")) (λ t _ _. rw (eqb-true b (code "\\") t) refl)
    (λ _. by P (within (code "0") (code "9") b) (λ _ h. clash refl h) (λ _. by P (named b) (λ _ h. clash refl h) (λ _ h. clash refl h))))))))
  where
    P : Class → Type 0
    P n = plain_class n ≡ false → (b ≡ code "\"" → ⊥) → plain_byte b ≡ false

-- a plain byte is its own code point
pub record Alone (s : List ℕ) (i c e : ℕ) : Type 0 where
  pub byte : c ≡ get_or s i 0
  pub end : e ≡ i + 1

pub itself-code : (s : List ℕ) (i : ℕ) → i < length s → Itself (get_or s i 0) → char_at message s i ≡ Code (get_or s i 0) (i + 1)
itself-code s i h p = sym (starts-plain s i h refl p.from p.upto p.no_quote p.no_backslash)

message-alone : (s : List ℕ) (i c e : ℕ) → i < length s → plain_byte (get_or s i 0) ≡ true → char_at message s i ≡ Code c e → Alone s i c e
message-alone s i c e h t f = go (eqb (get_or s i 0) (code "\"")) refl
  where
    p : (0x20 ≤ get_or s i 0) × (get_or s i 0 ≤ 0x7F) × (get_or s i 0 ≡ code "\\" → ⊥)
    p = plain-true (get_or s i 0) t

    go : (y : Bool) → eqb (get_or s i 0) (code "\"") ≡ y → Alone s i c e
    go true q = fault-not-code (none-at-quote message s i h q ∙ f)
    go false q =
        let k = starts-plain s i h refl p.0 p.1 (eqb-false (get_or s i 0) (code "\"") q) p.2 ∙ f in
        record { byte = sym (same-char k).0; end = sym (same-char k).1 }

-- a character of a schema string is such a byte, or two backslashes
pub data SchemaCode (s : List ℕ) (i c e : ℕ) : Type 0 where
  literal_byte : c ≡ get_or s i 0 → e ≡ i + 1 → plain_byte (get_or s i 0) ≡ true → (c ≡ code "\\" → ⊥) → SchemaCode s i c e
  backslashes : get_or s i 0 ≡ code "\\" → c ≡ code "\\" → SchemaCode s i c e

schema_shape : (s : List ℕ) {i c e : ℕ} {l r : List ℕ} → SchemaText.SchemaChar i l e r c → drop i s ≡ l → SchemaCode s i c e
schema_shape s (SchemaText.SchemaChar.plain {p = i} {b = b} w q n) d =
    let k = standing s i d in
    let h = within-true 0x20 0x7E b w in
    literal_byte (sym k.byte) (sym (add-one i)) (rw k.byte (plain-is b h.0 (omega arith) n)) n
schema_shape s (SchemaText.SchemaChar.backslash {p = i}) d = backslashes (standing s i d).byte refl

pub schema-code : (s : List ℕ) {i c e : ℕ} → char_at schema s i ≡ Code c e → SchemaCode s i c e
schema-code s {i} {c} {e} h = schema_shape s (char-there schema schema-tokens-sound s i c e h).char refl

schema-alone : (s : List ℕ) (i c e : ℕ) → plain_byte (get_or s i 0) ≡ true → char_at schema s i ≡ Code c e → Alone s i c e
schema-alone s i c e t h = go (schema-code s h)
  where
    go : SchemaCode s i c e → Alone s i c e
    go (literal_byte b k p n) = record { byte = b; end = k }
    go (backslashes b k) = absurd ((plain-true (get_or s i 0) t).2 b)

pub plain-alone : (b : Dialect) (s : List ℕ) (i c e : ℕ) → i < length s → plain_byte (get_or s i 0) ≡ true → char_at (grammar_of b) s i ≡ Code c e → Alone s i c e
plain-alone Schema s i c e h t f = schema-alone s i c e t f
plain-alone Message s i c e h t f = message-alone s i c e h t f
