-- The worked example and garbage, by computation: P1 as it is shown, bytes that no terminal should have, keys, types that no table has, and records that do not nest.
use Prim.Native.Nat.{ℕ}
use mathlib.Core.Path.{◌≡◌, refl}
use mathlib.Core.List.{List, [], ◌∷◌, ◌++◌}
use Rattle.std.specs.Prelude.{Some, None}
use Rattle.grammar.specs.Notation.{text}
use Rattle.grammar.specs.Lexis.{blank}
use Rattle.rules.specs.Rows.{name_of}
use Rattle.walker.specs.Seeing.{seen_at, place_after, part_of}
use Rattle.trees.specs.Escapes.{shown, shown_bytes, shown_byte}
use Rattle.trees.specs.Backwards.{back, before}
use Rattle.trees.specs.Nesting.{still_open, opened}
use Rattle.trees.specs.Labelling.{skip_blanks, even_slashes, quote_first, key_back, key_before, label_text}
use Rattle.trees.specs.Typing.{row_name, type_name, type_text}
use Rattle.trees.specs.TreeText.{indent_text, value_text, left_text, right_text, line_at, open_then, lines_of, lines_from}

-- P1: the schema's bytes that the rows name, its table, the message and its records
schema : List ℕ
schema = text "{'command':'stop-lot','data':{'lot':'str'}}"

rows : List ℕ
rows = 9 ∷ 12 ∷ 8 ∷ 2 ∷ 0 ∷ 0 ∷ 0 ∷ 0 ∷ 3 ∷ 0 ∷ 0 ∷ 1 ∷ 0 ∷ 0 ∷ 0 ∷ 0 ∷ 4 ∷ 31 ∷ 3 ∷ 1 ∷ 0 ∷ 0 ∷ 0 ∷ 0 ∷ []

message : List ℕ
message = text "{\"execute\":\"stop-lot\",\"arguments\":{\"lot\":\"007\"}}"

p1 : lines_from schema rows message (34 ∷ 47 ∷ 17 ∷ 0 ∷ 41 ∷ 46 ∷ 1 ∷ 0 ∷ []) 2 0 [] ≡ text "  arguments: (inline) = {\"lot\":\"007\"}" ++ (10 ∷ (text "    lot: str = \"007\"" ++ (10 ∷ [])))
unfolding schema rows message name_of blank seen_at place_after part_of shown shown_bytes shown_byte back skip_blanks even_slashes quote_first key_back key_before label_text row_name type_name type_text still_open opened indent_text value_text left_text right_text line_at open_then lines_of lines_from
p1 = refl

-- bytes outside 0x20 to 0x7E, and a text of 64 bytes
escaped : shown (0 ∷ 9 ∷ 10 ∷ 27 ∷ 32 ∷ 126 ∷ 127 ∷ 133 ∷ 255 ∷ []) ≡ text "\\x00\\x09\\x0a\\x1b ~\\x7f\\x85\\xff"
unfolding shown shown_bytes shown_byte
escaped = refl

cut : shown (text "0123456789012345678901234567890123456789012345678901234567890123") ≡ text "012345678901234567890123456789012345678901234567890123456789012..."
unfolding shown shown_bytes shown_byte
cut = refl

-- keys: with blanks, with an escaped quote, with a backslash last; an element, and no key before a colon
keys : (key_before (before (text "{ \"a\" : 1") 8) ≡ Some (text "a")) × (key_before (before (text "{\"a\\\"b\":1") 8) ≡ Some (text "a\\\"b")) × (key_before (before (text "{\"a\\\\\":1") 7) ≡ Some (text "a\\\\"))
    × (key_before (before (text "[1,2]") 3) ≡ None) × (key_before (before (text "a\":") 90) ≡ Some (text "a")) × (key_before (before (text ":") 1) ≡ None)
unfolding blank back skip_blanks even_slashes quote_first key_back key_before
keys = (refl, refl, refl, refl, refl, refl)

-- references: none, a built-in, one to no row, in brackets whatever the flag
types : (type_text [] [] 0 0 ≡ text "(none)") × (type_text [] [] 12 0 ≡ text "size") × (type_text schema rows 99 0 ≡ text "(unknown)") × (type_text schema rows 16 7 ≡ text "[stop-lot]")
unfolding schema rows name_of shown shown_bytes shown_byte row_name type_name type_text
types = (refl, refl, refl, refl)

-- records that do not nest, of no message: each line still ends, indented by those that end after its start
tangled : lines_from [] [] [] (5 ∷ 9 ∷ 0 ∷ 0 ∷ 7 ∷ 3 ∷ 0 ∷ 0 ∷ 1 ∷ 2 ∷ []) 2 0 [] ≡ text "  arguments: (none) = (absent)" ++ (10 ∷ (text "    -: (none) = (absent)" ++ (10 ∷ [])))
unfolding name_of blank seen_at place_after part_of shown shown_bytes shown_byte back skip_blanks even_slashes quote_first key_back key_before label_text row_name type_name type_text still_open opened indent_text value_text left_text right_text line_at open_then lines_of lines_from
tangled = refl
