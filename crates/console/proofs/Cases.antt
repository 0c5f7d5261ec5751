-- P1 whole, with what the program prints: its schema and its message, the first of the P table, give these lines and nothing else.
-- The idea: the program's text is computed from the definitions.
use Prim.Native.Nat.{ℕ}
use mathlib.Core.Path.{◌≡◌, refl}
use mathlib.Core.List.{List, [], ◌∷◌, ◌++◌, map}
use Rattle.std.specs.Prelude.{Some}
use lib.ListN.{take}
use Rattle.grammar.specs.Notation.{text}
use Rattle.rules.specs.Serving.Answers.{schema_result, message_result}
use Rattle.rules.specs.Cases.{Call, Case, cases}
use Rattle.lines.specs.Text.{decimal_text, spaced_text, numbers_text, line_text}
use Rattle.console.specs.declared.answers.Style.TheVariants.{Numbers}
use Rattle.console.specs.Program.{schema_line, result_line, answer_text, answers_to, program_text}

-- what is printed where the schema stands in the file and the message is a line of the input
abbrev printed : Case → Call → List ℕ
printed c m = program_text Numbers (Some (text c.schema)) (text m.message ++ (10 ∷ []))

pub p1 : map (λ (c : Case). map (printed c) (take 1 c.calls)) (take 1 cases) ≡ ((text "0 3 0" ++ (10 ∷ (text "0 0 2 0 34 47 17 0 41 46 1 0" ++ (10 ∷ [])))) ∷ []) ∷ []
unfolding program_text schema_result message_result schema_line result_line answer_text answers_to line_text numbers_text spaced_text decimal_text
p1 = refl
