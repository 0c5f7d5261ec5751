-- Worked examples: what the readers of message text and schema text answer on given bytes, in tables by topic.
-- Each table holds by computation.
use Prim.Native.Nat.{ℕ, zero, suc, ◌+◌, ◌*◌}
use Prim.Native.Char.{code}
use mathlib.Core.Path.{◌≡◌, refl}
use mathlib.Core.Bool.{true, false}
use mathlib.Core.List.{List, [], ◌∷◌, ◌++◌, map}
use mathlib.Core.Option.{Option, some, none}
use lib.ListN.{replicate}
use Rattle.grammar.specs.Notation.{text}
use Rattle.grammar.specs.Tree.{Scalar.null, Scalar.bool, Scalar.num, Scalar.str}
use Rattle.grammar.specs.Tree.{Json, Json.leaf, Json.arr, Json.obj, Items.no_items, Items.item, Fields.no_fields, Fields.field}
use Rattle.grammar.specs.Serving.Machine.{Out, Out.whole, Out.fault, Out.deep}
use Rattle.grammar.specs.Serving.Repeats.{first_repeat_i}
use Rattle.grammar.specs.Serving.Machine.Schema.{read_schema}
use Rattle.grammar.specs.Serving.Machine.Message.{read_message}

infix 70 ◌gives◌
-- a row of a table: bytes, and the answer to them
record Case : Type 0 where
  bytes : List ℕ
  answer : Out

abbrev ◌gives◌ : List ℕ → Out → Case
l gives o = record { bytes = l; answer = o }

-- the reader f answers each row so
abbrev Answers : (List ℕ → Out) → List Case → Type 0
Answers f cs = map (λ (c : Case). f c.bytes) cs ≡ map (λ (c : Case). c.answer) cs

-- one value, and one string that ends at e
abbrev value : Json → Out
value j = whole (item j no_items)

abbrev string : ℕ → List ℕ → Out
string e cs = value (leaf 0 e (str cs))

-- empty arrays n + 1 deep, from place p on
abbrev nested : ℕ → ℕ → Json
nested zero p = arr p (p + 2) no_items
nested (suc n) p = arr p (p + 2 * n + 4) (item (nested n (suc p)) no_items)

-- Messages. Blanks stand around tokens and nothing else does; one value; no trailing comma
structure : Answers read_message (
    [] gives fault 0
    ∷ text " \t\r\n" gives fault 4
    ∷ text " [ true , null\n] " gives value (arr 1 16 (item (leaf 3 7 (bool true)) (item (leaf 10 14 null) no_items)))
    ∷ text "{\"lot\":{}}" gives value (obj 0 10 (field 1 6 (text "lot") (obj 7 9 no_fields) no_fields))
    ∷ text "1 2" gives fault 2
    ∷ text "#\n1" gives fault 0
    ∷ text "'a'" gives fault 0
    ∷ text "[1,]" gives fault 3
    ∷ text "{\"a\":1,}" gives fault 7 ∷ [])
unfolding read_message
structure = refl

-- every escape; an unknown one; a pair of surrogates; a low one alone, a high one alone, two high ones; a control character
escapes : Answers read_message (
    text "\"\\\"\\\\\\/\\b\\f\\n\\r\\t\\u0061\\u0000\"" gives string 30 (0x22 ∷ 0x5C ∷ 0x2F ∷ 8 ∷ 12 ∷ 10 ∷ 13 ∷ 9 ∷ 0x61 ∷ 0 ∷ [])
    ∷ text "\"\\x\"" gives fault 2
    ∷ text "\"\\uD83D\\ude00\"" gives string 14 (0x1F600 ∷ [])
    ∷ text "\"\\udc00\"" gives fault 4
    ∷ text "\"\\ud83dx\"" gives fault 7
    ∷ text "\"\\ud83d\\ud83d\"" gives fault 10
    ∷ text "\"\t\"" gives fault 1 ∷ [])
unfolding read_message
escapes = refl

-- one to four bytes; the first and last code points of each length and around the surrogates
utf8_good : Answers read_message (
    (0x22 ∷ 0x7F ∷ 0xC3 ∷ 0xA9 ∷ 0xE2 ∷ 0x82 ∷ 0xAC ∷ 0xF0 ∷ 0x9F ∷ 0x98 ∷ 0x80 ∷ 0x22 ∷ []) gives string 12 (0x7F ∷ 0xE9 ∷ 0x20AC ∷ 0x1F600 ∷ [])
    ∷ (0x22 ∷ 0xC2 ∷ 0x80 ∷ 0xDF ∷ 0xBF ∷ 0xE0 ∷ 0xA0 ∷ 0x80 ∷ 0xED ∷ 0x9F ∷ 0xBF ∷ 0x22 ∷ []) gives string 12 (0x80 ∷ 0x7FF ∷ 0x800 ∷ 0xD7FF ∷ [])
    ∷ (0x22 ∷ 0xEE ∷ 0x80 ∷ 0x80 ∷ 0xEF ∷ 0xBF ∷ 0xBF ∷ 0x22 ∷ []) gives string 8 (0xE000 ∷ 0xFFFF ∷ [])
    ∷ (0x22 ∷ 0xF0 ∷ 0x90 ∷ 0x80 ∷ 0x80 ∷ 0xF4 ∷ 0x8F ∷ 0xBF ∷ 0xBF ∷ 0x22 ∷ []) gives string 10 (0x10000 ∷ 0x10FFFF ∷ []) ∷ [])
unfolding read_message
utf8_good = refl

-- overlong in two, three and four bytes; a surrogate; above U+10FFFF; a lone tail byte; a sequence cut short
utf8-bad : Answers read_message (
    (0x22 ∷ 0xC1 ∷ 0xBF ∷ 0x22 ∷ []) gives fault 1
    ∷ (0x22 ∷ 0xE0 ∷ 0x9F ∷ 0xBF ∷ 0x22 ∷ []) gives fault 2
    ∷ (0x22 ∷ 0xF0 ∷ 0x8F ∷ 0xBF ∷ 0xBF ∷ 0x22 ∷ []) gives fault 2
    ∷ (0x22 ∷ 0xED ∷ 0xA0 ∷ 0x80 ∷ 0x22 ∷ []) gives fault 2
    ∷ (0x22 ∷ 0xF4 ∷ 0x90 ∷ 0x80 ∷ 0x80 ∷ 0x22 ∷ []) gives fault 2
    ∷ (0x22 ∷ 0x80 ∷ 0x22 ∷ []) gives fault 1
    ∷ (0x22 ∷ 0xC3 ∷ 0x22 ∷ []) gives fault 2 ∷ [])
unfolding read_message
utf8-bad = refl

-- outside a string and inside one
byte-order-hash : Answers read_message (
    (0xEF ∷ 0xBB ∷ 0xBF ∷ 0x31 ∷ []) gives fault 0
    ∷ (0x22 ∷ 0xEF ∷ 0xBB ∷ 0xBF ∷ 0x22 ∷ []) gives string 5 (0xFEFF ∷ []) ∷ [])
unfolding read_message
byte-order-hash = refl

-- an integer has neither point nor exponent; no leading zero, no empty part
numbers : Answers read_message (
    text "-0" gives value (leaf 0 2 (num true (text "-0")))
    ∷ text "18446744073709551616" gives value (leaf 0 20 (num true (text "18446744073709551616")))
    ∷ text "1.0" gives value (leaf 0 3 (num false (text "1.0")))
    ∷ text "1e2" gives value (leaf 0 3 (num false (text "1e2")))
    ∷ text "-1.5E+3" gives value (leaf 0 7 (num false (text "-1.5E+3")))
    ∷ text "01" gives fault 1
    ∷ text "1." gives fault 2
    ∷ text "1.e2" gives fault 2
    ∷ text "1e" gives fault 2
    ∷ text "-" gives fault 1
    ∷ text "+1" gives fault 0 ∷ [])
unfolding read_message
numbers = refl

-- 32 levels and 33; after `1` no value may stand, so that the bracket there is no level too many
message_levels : Answers read_message (
    (replicate 32 (code "[") ++ replicate 32 (code "]")) gives value (nested 31 0)
    ∷ replicate 32 (code "[") gives fault 32
    ∷ replicate 33 (code "[") gives deep 32
    ∷ (replicate 32 (code "[") ++ text "1, {") gives deep 35
    ∷ (replicate 32 (code "[") ++ text "1[") gives fault 33 ∷ [])
unfolding read_message
message_levels = refl

-- Schemas. Comments end at LF or at the end of the text, not at CR; their bytes are free; `#` in a string starts none
comments : Answers read_schema (
    text "# a\n{'b':# c\n'#'}# d" gives whole (item (obj 4 17 (field 5 8 (text "b") (leaf 13 16 (str (text "#"))) no_fields)) no_items)
    ∷ text "#\r{" gives whole no_items
    ∷ (code "#" ∷ 0 ∷ 0xFF ∷ code "\n" ∷ []) gives whole no_items ∷ [])
unfolding read_schema
comments = refl

-- any number of objects without commas, nothing else at the top, no trailing comma
objects : Answers read_schema (
    [] gives whole no_items
    ∷ text "{}{ }\n{}" gives whole (item (obj 0 2 no_fields) (item (obj 2 5 no_fields) (item (obj 6 8 no_fields) no_items)))
    ∷ text "{'a':[true,false]}"
    gives whole (item (obj 0 18 (field 1 4 (text "a") (arr 5 17 (item (leaf 6 10 (bool true)) (item (leaf 11 16 (bool false)) no_items))) no_fields)) no_items)
    ∷ text "{},{}" gives fault 2
    ∷ text "[]" gives fault 0
    ∷ text "'a'" gives fault 0
    ∷ text "{'a':['b',]}" gives fault 10
    ∷ (0xEF ∷ 0xBB ∷ 0xBF ∷ []) gives fault 0 ∷ [])
unfolding read_schema
objects = refl

-- two backslashes mean one, no other escape; 0x20 to 0x7E; no double quotes, no number, no null
values : Answers read_schema (
    text "{'\\\\':'~ '}" gives whole (item (obj 0 11 (field 1 5 (0x5C ∷ []) (leaf 6 10 (str (text "~ "))) no_fields)) no_items)
    ∷ text "{'\\n" gives fault 3
    ∷ (text "{'" ++ (0x7F ∷ [])) gives fault 2
    ∷ text "{\"a\"" gives fault 1
    ∷ text "{'a':1" gives fault 5
    ∷ text "{'a':null" gives fault 5 ∷ [])
unfolding read_schema
values = refl

-- 8 levels and 9
schema_levels : Answers read_schema (
    text "{'a':[[[[[[[]]]]]]]}" gives whole (item (obj 0 20 (field 1 4 (text "a") (nested 6 5) no_fields)) no_items)
    ∷ text "{'a':[[[[[[[[" gives deep 12 ∷ [])
unfolding read_schema
schema_levels = refl

-- Reference, Cases: the schema and the message of P1
p1_schema : Answers read_schema (
    text "{'command':'stop-lot','data':{'lot':'str'}}"
    gives whole (item (obj 0 43 (field 1 10 (text "command") (leaf 11 21 (str (text "stop-lot")))
    (field 22 28 (text "data") (obj 29 42 (field 30 35 (text "lot") (leaf 36 41 (str (text "str"))) no_fields)) no_fields))) no_items) ∷ [])
unfolding read_schema
p1_schema = refl

p1_message : Answers read_message (
    text "{\"execute\":\"stop-lot\",\"arguments\":{\"lot\":\"007\"}}"
    gives value (obj 0 48 (field 1 10 (text "execute") (leaf 11 21 (str (text "stop-lot")))
    (field 22 33 (text "arguments") (obj 34 47 (field 35 40 (text "lot") (leaf 41 46 (str (text "007"))) no_fields)) no_fields))) ∷ [])
unfolding read_message
p1_message = refl

-- Repeated keys, by meaning and in each object by itself: a key that repeats one comes before those inside its value, and after those inside an earlier value
record KeyCase : Type 0 where
  bytes : List ℕ
  first : Option ℕ

abbrev first_in : Out → Option ℕ
first_in (whole js) = first_repeat_i js
first_in (fault e) = none
first_in (deep e) = none

infix 70 ◌repeats_at◌
abbrev ◌repeats_at◌ : List ℕ → Option ℕ → KeyCase
l repeats_at o = record { bytes = l; first = o }

abbrev Firsts : List KeyCase → Type 0
Firsts cs = map (λ (c : KeyCase). first_in (read_message c.bytes)) cs ≡ map (λ (c : KeyCase). c.first) cs

repeated_keys : Firsts (
    text "{\"a\":{\"b\":1},\"b\":[{\"a\":1},{\"a\":2}]}" repeats_at none
    ∷ text "{\"a\":1,\"a\":{\"b\":1,\"b\":2}}" repeats_at some 7
    ∷ text "{\"a\":{\"b\":1,\"b\":2},\"a\":1}" repeats_at some 12
    ∷ text "[{\"a\":1},{\"a\":1,\"\\u0061\":2,\"a\":3}]" repeats_at some 16 ∷ [])
unfolding read_message
repeated_keys = refl
