-- What is shown of an answer, and how long a meaning is.
use Prim.Native.Nat.{ℕ, ◌≤◌, ◌<◌, ◌^◌, min}
use mathlib.Core.Path.{◌≡◌, refl, ap}
use mathlib.Core.List.{List, [], ◌∷◌, ◌++◌}
use lib.ListN.{length}
use native.Mathlib.Omega.{arith}
use Rattle.grammar.specs.Notation.{text}
use Rattle.grammar.proofs.TextTables.{entry-short}
use Rattle.rules.specs.Rows.{name_of}
use Rattle.lines.specs.Text.{decimal_text}
use Rattle.lines.proofs.TextLaws.{number_length}
use Rattle.trees.specs.Backwards.{back}
use Rattle.trees.specs.Escapes.{shown}
use Rattle.wordings.specs.Excerpts.{line_of, column_of, position_line}
use Rattle.wordings.specs.Wordings.{meanings, meaning_of, refused_line, rows_line, command_line}
use Rattle.wordings.specs.Serving.Rooms.{longest_meaning, position_room}
use Rattle.wordings.proofs.ExcerptLaws.{position_length, ends_few, column_few}

pub meaning_length : (n : ℕ) → length (meaning_of n) ≤ longest_meaning
meaning_length n = entry-short longest_meaning meanings n refl

pub meaning_short : (n : ℕ) {t : List ℕ} → t ≡ meaning_of n → length t ≤ longest_meaning
meaning_short n e = omega (arith, ap length e, meaning_length n)

pub refused_is : (n : ℕ) → refused_line n ≡ decimal_text n ++ (32 ∷ (meaning_of n ++ (10 ∷ [])))
unfolding refused_line
refused_is n = refl

pub rows_are : (n : ℕ) → rows_line n ≡ text "0 schema accepted, rows: " ++ (decimal_text n ++ (10 ∷ []))
unfolding rows_line
rows_are n = refl

pub command_is : (S T : List ℕ) (c : ℕ) → command_line S T c ≡ text "0 " ++ (shown (name_of S T c) ++ (10 ∷ []))
unfolding command_line
command_is S T c = refl

pub line_length : (s : List ℕ) (p : ℕ) → p ≤ length s → length s < 2 ^ 32 → length (position_line s p) ≤ position_room
line_length s p h k = position_length s p (number_length (line_of s p) (omega (arith, ends_few s p))) (number_length (column_of s p) (omega (arith, column_few s p)))
