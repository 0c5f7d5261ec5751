-- Where things stand: what a derivation reads lies within the text. A string or a key is at least as long as its meaning and two quotes, a value has a byte and one more for each inside.
-- The idea: a place and what is left from it always add up to the same number, and places rise; then by the derivation.
use Prim.Native.Nat.{ℕ, suc, ◌+◌, ◌≤◌}
use native.Mathlib.Omega.{arith}
use mathlib.Core.Path.{◌≡◌, refl}
use mathlib.Core.Bool.{Bool}
use mathlib.Core.List.{List}
use lib.ListN.{length, length-append}
use Rattle.grammar.specs.Lexis.{Lexis, Spells, Spells.spelled, Spells.then_byte}
use Rattle.grammar.specs.Tree.{Scalar, Scalar.null, Scalar.bool, Scalar.num, Scalar.str, Json, Json.leaf, Json.arr, Json.obj, Items, Items.no_items, Items.item, Fields, Fields.no_fields, Fields.field}
use Rattle.grammar.specs.Grammar.{Comment, Comment.text_end, Comment.line_end, Comment.free, Blanks, Blanks.none, Blanks.blank, Blanks.comment, Chars, Chars.close}
use Rattle.grammar.specs.Grammar.{Chars.char, Value, Value.unquoted, Value.string, Value.array, Value.object, ArrayBody, ArrayBody.no_elements, ArrayBody.some_elements}
use Rattle.grammar.specs.Grammar.{Elements, Elements.element, MoreElements, MoreElements.end_array, MoreElements.next_element, ObjectBody, ObjectBody.no_members}
use Rattle.grammar.specs.Grammar.{ObjectBody.some_members, Members, Members.member, MoreMembers, MoreMembers.end_object, MoreMembers.next_member, Objects, Objects.no_more}
use Rattle.grammar.specs.Grammar.{Objects.one_more, Text, Text.objects, Text.one_value}
use Rattle.grammar.specs.SchemaText.{SchemaChar, SchemaChar.plain, SchemaChar.backslash, SchemaUnquoted, SchemaUnquoted.word_true, SchemaUnquoted.word_false, schema_lexis, SchemaText}
use Rattle.grammar.specs.MessageText.{Utf8, Utf8.one, Utf8.two, Utf8.three, Utf8.four, Hex4, Hex4.hex4, MessageChar, MessageChar.plain, MessageChar.escape, MessageChar.hex, MessageChar.hex_pair, Int, Int.zero, Int.nonzero}
use Rattle.grammar.specs.MessageText.{Number, Number.parts, MessageUnquoted, MessageUnquoted.word_null, MessageUnquoted.word_true, MessageUnquoted.word_false, MessageUnquoted.number, message_lexis, MessageText}
use Rattle.grammar.proofs.Booleans.{clash}

-- from place p, where l is left, to place q, where r is left, are at least k bytes
pub record Span (k p : ℕ) (l : List ℕ) (q : ℕ) (r : List ℕ) : Type 0 where
  pub rises : p + k ≤ q
  pub same_text : p + length l ≡ q + length r

comment-span : {p q : ℕ} {l r : List ℕ} → Comment p l q r → Span 0 p l q r
comment-span text_end = record { rises = omega arith; same_text = omega arith }
comment-span line_end = record { rises = omega arith; same_text = omega arith }
comment-span (free e w) = let z = comment-span w in record { rises = omega arith; same_text = omega arith }

-- the fewest bytes of a scalar: a string's meaning and two quotes
abbrev pub scalar_bytes : Scalar → ℕ
scalar_bytes null = 1
scalar_bytes (bool b) = 1
scalar_bytes (num i t) = 1
scalar_bytes (str cs) = 2 + length cs

scalar-byte : (v : Scalar) → 1 ≤ scalar_bytes v
scalar-byte null = omega arith
scalar-byte (bool b) = omega arith
scalar-byte (num i t) = omega arith
scalar-byte (str cs) = omega arith

-- the fewest bytes of a value: one of its own, and after each value inside it one more
abbrev mutual
  pub fewest_bytes : Json → ℕ
  fewest_bytes (leaf a e v) = 1
  fewest_bytes (arr a e js) = suc (fewest_items js)
  fewest_bytes (obj a e fs) = suc (fewest_fields fs)

  pub fewest_items : Items → ℕ
  fewest_items no_items = 0
  fewest_items (item j js) = suc (fewest_bytes j + fewest_items js)

  pub fewest_fields : Fields → ℕ
  fewest_fields no_fields = 0
  fewest_fields (field a e key j fs) = suc (fewest_bytes j + fewest_fields fs)

-- the spans of the tokens of a dialect
pub record TokenSpans (G : Lexis) : Type 0 where
  pub char_span : {p q c : ℕ} {l r : List ℕ} → G.Char p l q r c → Span 1 p l q r
  pub unquoted_span : {p q : ℕ} {l r : List ℕ} {v : Scalar} → G.Unquoted p l q r v → Span (scalar_bytes v) p l q r

-- every scalar and every key inside ends by place n and is as long as it must be
abbrev mutual
  pub Placed : ℕ → Json → Type 0
  Placed n (leaf a e v) = (a + scalar_bytes v ≤ e) × (e ≤ n)
  Placed n (arr a e js) = PlacedItems n js
  Placed n (obj a e fs) = PlacedFields n fs

  pub PlacedItems : ℕ → Items → Type 0
  PlacedItems n no_items = Unit {0}
  PlacedItems n (item j js) = Placed n j × PlacedItems n js

  pub PlacedFields : ℕ → Fields → Type 0
  PlacedFields n no_fields = Unit {0}
  PlacedFields n (field a e key j fs) = (a + (2 + length key) ≤ e) × (e ≤ n) × Placed n j × PlacedFields n fs

pub some_byte : (j : Json) → 1 ≤ fewest_bytes j
some_byte (leaf a e v) = omega arith
some_byte (arr a e js) = omega arith
some_byte (obj a e fs) = omega arith

module _ (G : Lexis) (L : TokenSpans G) where
  pub blanks_span : {p q : ℕ} {l r : List ℕ} → Blanks G p l q r → Span 0 p l q r
  blanks_span none = record { rises = omega arith; same_text = omega arith }
  blanks_span (blank e w) = let z = blanks_span w in record { rises = omega arith; same_text = omega arith }
  blanks_span (comment e c w) = let y = comment-span c in let z = blanks_span w in record { rises = omega arith; same_text = omega arith }

  -- the characters and the closing quote
  pub chars-span : {p q : ℕ} {l r cs : List ℕ} → Chars G p l q r cs → Span (suc (length cs)) p l q r
  chars-span (close e) = record { rises = omega arith; same_text = omega arith }
  chars-span (char c w) = let y = L.char_span c in let z = chars-span w in record { rises = omega arith; same_text = omega arith }

  mutual
    pub value-span : {n p q : ℕ} {l r : List ℕ} {j : Json} → Value G n p l q r j → Span (fewest_bytes j) p l q r
    value-span (unquoted {v = v} u) = let z = L.unquoted_span u in let k = scalar-byte v in record { rises = omega arith; same_text = omega arith }
    value-span (string e w) = let z = chars-span w in record { rises = omega arith; same_text = omega arith }
    value-span (array w) = let z = array-span w in record { rises = omega arith; same_text = omega arith }
    value-span (object w) = let z = object-span w in record { rises = omega arith; same_text = omega arith }

    array-span : {n p q : ℕ} {l r : List ℕ} {js : Items} → ArrayBody G n p l q r js → Span (fewest_items js) p l q r
    array-span (no_elements b) = let y = blanks_span b in record { rises = omega arith; same_text = omega arith }
    array-span (some_elements b w) = let y = blanks_span b in let z = elements_span w in record { rises = omega arith; same_text = omega arith }

    elements_span : {n p q : ℕ} {l r : List ℕ} {js : Items} → Elements G n p l q r js → Span (fewest_items js) p l q r
    elements_span (element v w) = let y = value-span v in let z = more_elements_span w in record { rises = omega arith; same_text = omega arith }

    pub more_elements_span : {n p q : ℕ} {l r : List ℕ} {js : Items} → MoreElements G n p l q r js → Span (suc (fewest_items js)) p l q r
    more_elements_span (end_array b) = let y = blanks_span b in record { rises = omega arith; same_text = omega arith }
    more_elements_span (next_element b c w) =
        let x = blanks_span b in let y = blanks_span c in let z = elements_span w in record { rises = omega arith; same_text = omega arith }

    object-span : {n p q : ℕ} {l r : List ℕ} {fs : Fields} → ObjectBody G n p l q r fs → Span (fewest_fields fs) p l q r
    object-span (no_members b) = let y = blanks_span b in record { rises = omega arith; same_text = omega arith }
    object-span (some_members b w) = let y = blanks_span b in let z = members-span w in record { rises = omega arith; same_text = omega arith }

    members-span : {n p q : ℕ} {l r : List ℕ} {fs : Fields} → Members G n p l q r fs → Span (fewest_fields fs) p l q r
    members-span (member e k b c v w) =
        let u = chars-span k in
        let x = blanks_span b in
        let y = blanks_span c in
        let z = value-span v in
        let o = more-members-span w in
        record { rises = omega arith; same_text = omega arith }

    pub more-members-span : {n p q : ℕ} {l r : List ℕ} {fs : Fields} → MoreMembers G n p l q r fs → Span (suc (fewest_fields fs)) p l q r
    more-members-span (end_object b) = let y = blanks_span b in record { rises = omega arith; same_text = omega arith }
    more-members-span (next_member b c w) =
        let x = blanks_span b in let y = blanks_span c in let z = members-span w in record { rises = omega arith; same_text = omega arith }

  mutual
    pub value-placed : {n p q : ℕ} {l r : List ℕ} {j : Json} (e : ℕ) → p + length l ≤ e → Value G n p l q r j → Placed e j
    value-placed e h (unquoted u) = let z = L.unquoted_span u in (omega arith, omega arith)
    value-placed e h (string t w) = let z = chars-span w in (omega arith, omega arith)
    value-placed e h (array w) = array_placed e (omega arith) w
    value-placed e h (object w) = object-placed e (omega arith) w

    array_placed : {n p q : ℕ} {l r : List ℕ} {js : Items} (e : ℕ) → p + length l ≤ e → ArrayBody G n p l q r js → PlacedItems e js
    array_placed e h (no_elements b) = tt
    array_placed e h (some_elements b w) = let y = blanks_span b in elements_placed e (omega arith) w

    elements_placed : {n p q : ℕ} {l r : List ℕ} {js : Items} (e : ℕ) → p + length l ≤ e → Elements G n p l q r js → PlacedItems e js
    elements_placed e h (element v w) = let y = value-span v in (value-placed e h v, more_elements_placed e (omega arith) w)

    more_elements_placed : {n p q : ℕ} {l r : List ℕ} {js : Items} (e : ℕ) → p + length l ≤ e → MoreElements G n p l q r js → PlacedItems e js
    more_elements_placed e h (end_array b) = tt
    more_elements_placed e h (next_element b c w) = let x = blanks_span b in let y = blanks_span c in elements_placed e (omega arith) w

    object-placed : {n p q : ℕ} {l r : List ℕ} {fs : Fields} (e : ℕ) → p + length l ≤ e → ObjectBody G n p l q r fs → PlacedFields e fs
    object-placed e h (no_members b) = tt
    object-placed e h (some_members b w) = let y = blanks_span b in members-placed e (omega arith) w

    members-placed : {n p q : ℕ} {l r : List ℕ} {fs : Fields} (e : ℕ) → p + length l ≤ e → Members G n p l q r fs → PlacedFields e fs
    members-placed e h (member t k b c v w) =
        let u = chars-span k in
        let x = blanks_span b in
        let y = blanks_span c in
        let z = value-span v in
        (omega arith, omega arith, value-placed e (omega arith) v, more-members-placed e (omega arith) w)

    more-members-placed : {n p q : ℕ} {l r : List ℕ} {fs : Fields} (e : ℕ) → p + length l ≤ e → MoreMembers G n p l q r fs → PlacedFields e fs
    more-members-placed e h (end_object b) = tt
    more-members-placed e h (next_member b c w) = let x = blanks_span b in let y = blanks_span c in members-placed e (omega arith) w

  objects-placed : {n p : ℕ} {l : List ℕ} {js : Items} (e : ℕ) → p + length l ≤ e → Objects G n p l js → PlacedItems e js
  objects-placed e h (no_more b) = tt
  objects-placed e h (one_more b v w) = let y = blanks_span b in let z = value-span v in (value-placed e (omega arith) v, objects-placed e (omega arith) w)

  pub text-placed : {n : ℕ} {l : List ℕ} {js : Items} → Text G n l js → PlacedItems (length l) js
  text-placed {l = l} (objects s w) = objects-placed (length l) (omega arith) w
  text-placed {l = l} (one_value s b v c) = let y = blanks_span b in (value-placed (length l) (omega arith) v, tt)

spells-span : {p q : ℕ} {w l r : List ℕ} → Spells w p l q r → Span (length w) p l q r
spells-span spelled = record { rises = omega arith; same_text = omega arith }
spells-span (then_byte t) = let z = spells-span t in record { rises = omega arith; same_text = omega arith }

-- some bytes spell a scalar
spelled-span : {p q : ℕ} {w l r : List ℕ} → 1 ≤ length w → Spells w p l q r → Span 1 p l q r
spelled-span h t = let z = spells-span t in record { rises = omega arith; same_text = omega arith }

-- schema text
schema_char : {p q c : ℕ} {l r : List ℕ} → SchemaChar p l q r c → Span 1 p l q r
schema_char (plain e f g) = record { rises = omega arith; same_text = omega arith }
schema_char backslash = record { rises = omega arith; same_text = omega arith }

schema-unquoted : {p q : ℕ} {l r : List ℕ} {v : Scalar} → SchemaUnquoted p l q r v → Span (scalar_bytes v) p l q r
schema-unquoted (word_true s) = spelled-span (omega arith) s
schema-unquoted (word_false s) = spelled-span (omega arith) s

pub schema_spans : TokenSpans schema_lexis
schema_spans = record { char_span = schema_char; unquoted_span = schema-unquoted }

pub schema-placed : {S : List ℕ} {js : Items} → SchemaText S js → PlacedItems (length S) js
schema-placed t = text-placed schema_lexis schema_spans t

-- message text
utf8-span : {p q c : ℕ} {l r : List ℕ} → Utf8 p l q r c → Span 1 p l q r
utf8-span (one a) = record { rises = omega arith; same_text = omega arith }
utf8-span (two a b v w) = record { rises = omega arith; same_text = omega arith }
utf8-span (three a b c v w x) = record { rises = omega arith; same_text = omega arith }
utf8-span (four a b c d v w) = record { rises = omega arith; same_text = omega arith }

hex-span : {p q v : ℕ} {l r : List ℕ} → Hex4 p l q r v → Span 4 p l q r
hex-span (hex4 a b c d) = record { rises = omega arith; same_text = omega arith }

message_char : {p q c : ℕ} {l r : List ℕ} → MessageChar p l q r c → Span 1 p l q r
message_char (plain u e) = utf8-span u
message_char (escape e) = record { rises = omega arith; same_text = omega arith }
message_char (hex h e) = let z = hex-span h in record { rises = omega arith; same_text = omega arith }
message_char (hex_pair h e g f) = let y = hex-span h in let z = hex-span g in record { rises = omega arith; same_text = omega arith }

int-byte : {n : List ℕ} → Int n → 1 ≤ length n
int-byte zero = omega arith
int-byte (nonzero e f) = omega arith

number-byte : {i : Bool} {bs : List ℕ} → Number i bs → 1 ≤ length bs
number-byte (parts {n = n} s h f e) = let z = int-byte h in simp length-append (omega arith)

message-unquoted : {p q : ℕ} {l r : List ℕ} {v : Scalar} → MessageUnquoted p l q r v → Span (scalar_bytes v) p l q r
message-unquoted (word_null s) = spelled-span (omega arith) s
message-unquoted (word_true s) = spelled-span (omega arith) s
message-unquoted (word_false s) = spelled-span (omega arith) s
message-unquoted (number n s) = spelled-span (number-byte n) s

pub message_spans : TokenSpans message_lexis
message_spans = record { char_span = message_char; unquoted_span = message-unquoted }

-- a message has at least the bytes that its value must have
pub message_fewest : {m : List ℕ} {j : Json} → MessageText m j → fewest_bytes j ≤ length m
message_fewest (objects s w) = clash s refl
message_fewest (one_value s b v c) =
    let x = blanks_span message_lexis message_spans b in
    let y = value-span message_lexis message_spans v in
    omega arith
