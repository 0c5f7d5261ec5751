-- Reference, Text of messages: RFC 8259 in UTF-8 (RFC 3629), with escaped surrogates only in pairs.
use Prim.Native.{Nat.ℕ, Nat.suc, Nat.◌+◌, Nat.◌*◌, Nat.◌-◌, Char.code}
use mathlib.Core.{Path.◌≡◌, Bool.Bool, Bool.true, Bool.false, Bool.not, Bool.cond, Bool.◌||◌, List.List, List.[], List.◌∷◌, List.◌++◌, Option.Option, Option.some, Option.none}
use Rattle.std.specs.Prelude.{eqb}
use Rattle.grammar.specs.{Limits.message_levels, Notation.text, Notation.within, Notation.digit, Notation.all, Tree.Scalar, Tree.Scalar.null, Tree.Scalar.bool, Tree.Scalar.num, Tree.Json}
use Rattle.grammar.specs.{Tree.Items.no_items, Tree.Items.item, Lexis.Lexis, Lexis.Spells, Lexis.blank, Grammar.Text}

-- RFC 3629, 3: a byte 10xxxxxx, and a number with the six bits of such a byte put behind it
abbrev pub tail : ℕ → Bool
tail b = within 0x80 0xBF b

abbrev pub join : ℕ → ℕ → ℕ
join v b = v * 64 + (b - 0x80)

-- RFC 3629, 3 and 4: a code point in UTF-8, in its shortest form, at most U+10FFFF and no surrogate (U+D800 to U+DFFF)
pub data Utf8 : ℕ → List ℕ → ℕ → List ℕ → ℕ → Type 0 where
  one : {p a : ℕ} {r : List ℕ} → within 0 0x7F a ≡ true → Utf8 p (a ∷ r) (suc p) r a
  two : {p a b v : ℕ} {r : List ℕ} → within 0xC0 0xDF a ≡ true → tail b ≡ true → v ≡ join (a - 0xC0) b → within 0x80 0x7FF v ≡ true → Utf8 p (a ∷ b ∷ r) (suc (suc p)) r v
  three : {p a b c v : ℕ} {r : List ℕ} → within 0xE0 0xEF a ≡ true → tail b ≡ true → tail c ≡ true → v ≡ join (join (a - 0xE0) b) c
      → within 0x800 0xFFFF v ≡ true → within 0xD800 0xDFFF v ≡ false → Utf8 p (a ∷ b ∷ c ∷ r) (suc (suc (suc p))) r v
  four : {p a b c d v : ℕ} {r : List ℕ} → within 0xF0 0xF7 a ≡ true → tail b ≡ true → tail c ≡ true → tail d ≡ true → v ≡ join (join (join (a - 0xF0) b) c) d
      → within 0x10000 0x10FFFF v ≡ true → Utf8 p (a ∷ b ∷ c ∷ d ∷ r) (suc (suc (suc (suc p)))) r v

-- RFC 8259, 7 (unescaped): the code points that stand for themselves in a string
unfoldable pub unescaped : ℕ → Bool
unescaped c = within 0x20 0x21 c || within 0x23 0x5B c || within 0x5D 0x10FFFF c

-- RFC 8259, 7 (char): the byte after a backslash, and the code point that the two mean
pub data Escape : ℕ → ℕ → Type 0 where
  quotation_mark : Escape (code "\"") 0x22
  reverse_solidus : Escape (code "\\") 0x5C
  solidus : Escape (code "/") 0x2F
  backspace : Escape (code "b") 0x08
  form_feed : Escape (code "f") 0x0C
  line_feed : Escape (code "n") 0x0A
  carriage_return : Escape (code "r") 0x0D
  tab : Escape (code "t") 0x09

-- RFC 8259, 7 (HEXDIG): what a hexadecimal digit stands for, in upper or lower case
unfoldable pub hex_digit : ℕ → Option ℕ
hex_digit b =
    cond (within (code "0") (code "9") b) (some (b - code "0"))
    (cond (within (code "A") (code "F") b) (some (b - code "A" + 10))
    (cond (within (code "a") (code "f") b) (some (b - code "a" + 10)) none))

-- RFC 8259, 7 (4HEXDIG): four hexadecimal digits and their number
pub data Hex4 : ℕ → List ℕ → ℕ → List ℕ → ℕ → Type 0 where
  hex4 : {p a b c d x y z w : ℕ} {r : List ℕ} → hex_digit a ≡ some x → hex_digit b ≡ some y → hex_digit c ≡ some z → hex_digit d ≡ some w
      → Hex4 p (a ∷ b ∷ c ∷ d ∷ r) (suc (suc (suc (suc p)))) r (((x * 16 + y) * 16 + z) * 16 + w)

-- RFC 8259, 7 (char), and Reference, Text of messages: an escaped surrogate stands in a pair, a high one (0xD800 to 0xDBFF) and then a low one (0xDC00 to 0xDFFF)
pub data MessageChar : ℕ → List ℕ → ℕ → List ℕ → ℕ → Type 0 where
  plain : {p q c : ℕ} {l r : List ℕ} → Utf8 p l q r c → unescaped c ≡ true → MessageChar p l q r c
  escape : {p b c : ℕ} {r : List ℕ} → Escape b c → MessageChar p (code "\\" ∷ b ∷ r) (suc (suc p)) r c
  hex : {p q v : ℕ} {l r : List ℕ} → Hex4 (suc (suc p)) l q r v → within 0xD800 0xDFFF v ≡ false → MessageChar p (code "\\" ∷ code "u" ∷ l) q r v
  hex_pair : {p o q h w : ℕ} {l m r : List ℕ}
      → Hex4 (suc (suc p)) l o (code "\\" ∷ code "u" ∷ m) h → within 0xD800 0xDBFF h ≡ true → Hex4 (suc (suc o)) m q r w → within 0xDC00 0xDFFF w ≡ true
      → MessageChar p (code "\\" ∷ code "u" ∷ l) q r (0x10000 + (h - 0xD800) * 0x400 + (w - 0xDC00))

-- RFC 8259, 6: the bytes of e, and of minus or plus
abbrev pub letter_e : ℕ → Bool
letter_e b = eqb b (code "e") || eqb b (code "E")

abbrev pub sign : ℕ → Bool
sign b = eqb b (code "-") || eqb b (code "+")

-- RFC 8259, 6: 1*DIGIT
pub data Digits : List ℕ → Type 0 where
  digits : {b : ℕ} {bs : List ℕ} → digit b ≡ true → all digit bs ≡ true → Digits (b ∷ bs)

-- RFC 8259, 6: int = zero / ( digit1-9 *DIGIT )
pub data Int : List ℕ → Type 0 where
  zero : Int (code "0" ∷ [])
  nonzero : {b : ℕ} {bs : List ℕ} → within (code "1") (code "9") b ≡ true → all digit bs ≡ true → Int (b ∷ bs)

-- RFC 8259, 6: frac = decimal-point 1*DIGIT
pub data Frac : List ℕ → Type 0 where
  frac : {bs : List ℕ} → Digits bs → Frac (code "." ∷ bs)

-- RFC 8259, 6: exp = e [ minus / plus ] 1*DIGIT
pub data Exp : List ℕ → Type 0 where
  unsigned : {b : ℕ} {bs : List ℕ} → letter_e b ≡ true → Digits bs → Exp (b ∷ bs)
  signed : {b s : ℕ} {bs : List ℕ} → letter_e b ≡ true → sign s ≡ true → Digits bs → Exp (b ∷ s ∷ bs)

-- a part that may be left out, and whether it is there
pub data Optional (F : List ℕ → Type 0) : Bool → List ℕ → Type 0 where
  absent : Optional F false []
  present : {bs : List ℕ} → F bs → Optional F true bs

-- RFC 8259, 6: number = [ minus ] int [ frac ] [ exp ]. Reference, Text of messages: it is an integer if it has neither fraction nor exponent
pub data Number : Bool → List ℕ → Type 0 where
  parts : {a b c : Bool} {m n f e : List ℕ} → Optional (λ m. m ≡ text "-") a m → Int n → Optional Frac b f → Optional Exp c e → Number (not (b || c)) (m ++ (n ++ (f ++ e)))

-- RFC 8259, 3: null, true, false, or a number, which is kept as its bytes
pub data MessageUnquoted : ℕ → List ℕ → ℕ → List ℕ → Scalar → Type 0 where
  word_null : {p q : ℕ} {l r : List ℕ} → Spells (text "null") p l q r → MessageUnquoted p l q r null
  word_true : {p q : ℕ} {l r : List ℕ} → Spells (text "true") p l q r → MessageUnquoted p l q r (bool true)
  word_false : {p q : ℕ} {l r : List ℕ} → Spells (text "false") p l q r → MessageUnquoted p l q r (bool false)
  number : {p q : ℕ} {l r bs : List ℕ} {i : Bool} → Number i bs → Spells bs p l q r → MessageUnquoted p l q r (num i bs)

-- Reference, Text of messages: double quotes, no comments, one value. Nothing here allows a byte order mark outside a string
abbrev pub message_lexis : Lexis
message_lexis = record { blank = λ b. blank b; comment = λ b. false; quote = λ b. eqb b (code "\""); several = false; Char = MessageChar; Unquoted = MessageUnquoted }

-- Reference, Text of messages: the bytes are message text, and this is its tree
abbrev pub MessageText : List ℕ → Json → Type 0
MessageText l j = Text message_lexis message_levels l (item j no_items)
