-- P1 and P2 as they are shown, the first case of the P table and its first two messages, and a schema that is refused, by computation from their bytes.
use Prim.Native.Nat.{ℕ}
use mathlib.Core.Path.{◌≡◌, refl}
use mathlib.Core.List.{List, [], ◌∷◌, ◌++◌, map}
use Rattle.std.specs.Prelude.{Some}
use lib.ListN.{take}
use Rattle.grammar.specs.Notation.{text}
use Rattle.grammar.specs.Lexis.{blank}
use Rattle.rules.specs.Rows.{name_of}
use Rattle.rules.specs.Serving.Answers.{schema_result, message_result}
use Rattle.rules.specs.Cases.{Call, Case, cases}
use Rattle.lines.specs.Lines.{before_lf}
use Rattle.lines.specs.Text.{decimal_text}
use Rattle.walker.specs.Seeing.{seen_at, place_after, part_of}
use Rattle.trees.specs.Escapes.{shown, shown_bytes, shown_byte}
use Rattle.trees.specs.Backwards.{back}
use Rattle.trees.specs.Nesting.{still_open, opened}
use Rattle.trees.specs.Labelling.{skip_blanks, even_slashes, quote_first, key_back, key_before, label_text}
use Rattle.trees.specs.Typing.{row_name, type_name, type_text}
use Rattle.trees.specs.TreeText.{indent_text, value_text, left_text, right_text, line_at, open_then, lines_of, lines_from}
use Rattle.wordings.specs.Excerpts.{cut_from, cut_to, dots, line_ends, lead_text, rest_text, caret_text, excerpt, position_text, position_line}
use Rattle.wordings.specs.Wordings.{refused_line, rows_line, command_line}
use Rattle.console.specs.declared.answers.Style.TheVariants.{Tree}
use Rattle.console.specs.Program.{tree_lines, answer_text, answers_to, program_text}

-- what is written where the schema stands in the file and the message is a line of the input
abbrev written : Case → Call → List ℕ
written c m = program_text Tree (Some (text c.schema)) (text m.message ++ (10 ∷ []))

abbrev joined : List (List ℕ) → List ℕ
joined [] = []
joined (l ∷ ls) = l ++ (10 ∷ joined ls)

p1_and_p2 : map (λ (c : Case). map (written c) (take 2 c.calls)) (take 1 cases)
    ≡ (joined (text "0 schema accepted, rows: 3" ∷ text "0 stop-lot" ∷ text "  arguments: (inline) = {\"lot\":\"007\"}" ∷ text "    lot: str = \"007\"" ∷ [])
    ∷ joined (text "0 schema accepted, rows: 3" ∷ text "29 the arguments have no reading at the command's types" ∷ text "  {\"execute\":\"stop-lot\",\"arguments\":{\"lot\":7}}"
    ∷ text "                                    ^" ∷ [])
    ∷ []) ∷ []
unfolding program_text answers_to answer_text tree_lines schema_result message_result name_of blank seen_at place_after part_of shown shown_bytes shown_byte back skip_blanks even_slashes quote_first key_back key_before label_text row_name type_name type_text still_open opened indent_text value_text left_text right_text line_at open_then lines_of lines_from cut_from cut_to dots lead_text rest_text caret_text excerpt refused_line rows_line command_line decimal_text
p1_and_p2 = refl

-- a schema that is refused is shown by its line and column, and nothing follows
refused-schema : program_text Tree (Some (text "{'struct':'a'," ++ (10 ∷ text " 'data':{'b':'int', 'b':'str'}}"))) (text "{}")
    ≡ joined (text "3 an object has a key twice" ∷ text "  line 2, column 21" ∷ text "   'data':{'b':'int', 'b':'str'}}" ∷ text "                      ^" ∷ [])
unfolding program_text schema_result shown_bytes shown_byte back before_lf cut_from cut_to dots line_ends lead_text rest_text caret_text excerpt position_text position_line refused_line decimal_text
refused-schema = refl
