-- No byte outside 0x20 to 0x7E goes to the terminal with an answer but the LF that ends a line.
-- The idea: a command's name goes through `shown` and a text's bytes through `shown_bytes`; the rest is fixed, or digits.
use Prim.Native.Nat.{ℕ, zero, suc, ◌+◌, ◌-◌, ◌/◌, ◌%◌, ◌≤◌, min}
use native.Mathlib.Omega.{arith}
use mathlib.Core.Path.{◌≡◌, refl}
use mathlib.Core.Bool.{Bool, true, false}
use mathlib.Core.List.{List, [], ◌∷◌, ◌++◌}
use lib.Dec.{eqb, leb, ltb}
use lib.ListN.{length, take, drop, replicate}
use borrow.Author.Tests.{le-leb, ltb-true}
use Rattle.grammar.specs.Notation.{text, all}
use Rattle.rules.specs.declared.SchemaRefusal.{SchemaRefusal}
use Rattle.rules.specs.declared.SchemaRefusal.TheVariants as R
use Rattle.rules.specs.declared.SchemaAnswer.{SchemaAnswer}
use Rattle.rules.specs.declared.SchemaAnswer.TheVariants as SA
use Rattle.rules.specs.declared.MessageRefusal.{MessageRefusal}
use Rattle.rules.specs.declared.MessageRefusal.TheVariants as M
use Rattle.rules.specs.declared.MessageAnswer.{MessageAnswer}
use Rattle.rules.specs.declared.MessageAnswer.TheVariants as MA
use Rattle.rules.specs.Rows.{name_of}
use Rattle.rules.specs.SchemaAnswers as Schemas
use Rattle.rules.specs.MessageAnswers as Messages
use Rattle.rules.proofs.Lists.{and_of, or_left}
use Rattle.lines.specs.Text.{digits_in, decimal_text}
use Rattle.trees.specs.Backwards.{back}
use Rattle.trees.specs.Escapes.{printable, shown, shown_bytes}
use Rattle.trees.proofs.Printable.{clean, joined, bytes-clean, spaces_clean, shown-clean}
use Rattle.wordings.specs.Excerpts.{side_columns, cut_from, cut_to, goes_on, dots, line_of, column_of, lead_text, rest_text, caret_text, excerpt, position_text, position_line}
use Rattle.wordings.specs.Wordings.{refused_line, rows_line, command_line, schema_points, message_points, schema_pointer, message_pointer, schema_head, message_head}

-- ---- digits
in_clean : (b : ℕ) → 32 ≤ b → b ≤ 126 → clean b ≡ true
in_clean b h k = or_left (printable b) (eqb b 10) (and_of (leb 32 b) (leb b 126) (le-leb 32 b h) (le-leb b 126 k))

digits-clean : (steps n : ℕ) → all clean (digits_in steps n) ≡ true
digits-clean zero n = refl
digits-clean (suc steps) n = go (ltb n 10) refl (digits-clean steps (n / 10))
  where
    go : (t : Bool) → ltb n 10 ≡ t → all clean (digits_in steps (n / 10)) ≡ true → all clean (elim t [ true ↦ (48 + n) ∷ [] | false ↦ digits_in steps (n / 10) ++ ((48 + n % 10) ∷ []) ]) ≡ true
    go true e h = and_of (clean (48 + n)) true (in_clean (48 + n) (omega arith) (omega (arith, ltb-true n 10 e))) refl
    go false e h = joined (digits_in steps (n / 10)) ((48 + n % 10) ∷ []) h (and_of (clean (48 + n % 10)) true (in_clean (48 + n % 10) (omega arith) (omega arith)) refl)

number-clean : (n : ℕ) → all clean (decimal_text n) ≡ true
unfolding decimal_text
number-clean n = digits-clean (suc n) n

-- ---- the text around a place
dots-clean : (more : Bool) → all clean (dots more) ≡ true
unfolding dots
dots-clean true = refl
dots-clean false = refl

module _ (s : List ℕ) (p : ℕ) where
  lead-clean : all clean (lead_text s p) ≡ true
  unfolding lead_text
  lead-clean =
      let i : ℕ = cut_from side_columns s p in
      let b : List ℕ = shown_bytes (take (p - i) (drop i s)) in
      joined (text "  ") (dots (goes_on (back s i)) ++ b) refl (joined (dots (goes_on (back s i))) b (dots-clean (goes_on (back s i))) (bytes-clean (take (p - i) (drop i s))))

  rest-clean : all clean (rest_text s p) ≡ true
  unfolding rest_text
  rest-clean =
      let e : ℕ = cut_to side_columns p (drop p s) in
      joined (shown_bytes (take (e - p) (drop p s))) (dots (goes_on (drop e s))) (bytes-clean (take (e - p) (drop p s))) (dots-clean (goes_on (drop e s)))

  caret_clean : all clean (caret_text s p) ≡ true
  unfolding caret_text
  caret_clean = joined (replicate (length (lead_text s p)) 32) (text "^") (spaces_clean (length (lead_text s p))) refl

  pub excerpt-clean : all clean (excerpt s p) ≡ true
  unfolding excerpt
  excerpt-clean =
      joined (lead_text s p) (rest_text s p ++ (10 ∷ (caret_text s p ++ (10 ∷ [])))) lead-clean
      (joined (rest_text s p) (10 ∷ (caret_text s p ++ (10 ∷ []))) rest-clean (joined (caret_text s p) (10 ∷ []) caret_clean refl))

  position_clean : all clean (position_line s p) ≡ true
  unfolding position_line position_text
  position_clean =
      let tail : List ℕ = text ", column " ++ decimal_text (column_of s p) in
      joined (position_text s p) (10 ∷ [])
      (joined (text "  line ") (decimal_text (line_of s p) ++ tail) refl
      (joined (decimal_text (line_of s p)) tail (number-clean (line_of s p)) (joined (text ", column ") (decimal_text (column_of s p)) refl (number-clean (column_of s p))))) refl

-- ---- what is shown of an answer
schema_pointer-clean : (S : List ℕ) (p : ℕ) (t : Bool) → all clean (schema_pointer S p t) ≡ true
schema_pointer-clean S p true =
    joined (position_line S (min p (length S))) (excerpt S (min p (length S))) (position_clean S (min p (length S))) (excerpt-clean S (min p (length S)))
schema_pointer-clean S p false = refl

message_pointer-clean : (m : List ℕ) (p : ℕ) (t : Bool) → all clean (message_pointer m p t) ≡ true
message_pointer-clean m p true = excerpt-clean m (min p (length m))
message_pointer-clean m p false = refl

schema-clean : (x : SchemaRefusal) → all clean (refused_line (Schemas.refusal_number x)) ≡ true
unfolding refused_line decimal_text
schema-clean R.TooLong = refl
schema-clean R.NotText = refl
schema-clean R.RepeatedKey = refl
schema-clean R.NotDefinitions = refl
schema-clean R.BadName = refl
schema-clean R.RepeatedName = refl
schema-clean R.UnknownName = refl
schema-clean R.BadChain = refl
schema-clean R.BadUnion = refl
schema-clean R.BadAlternate = refl
schema-clean R.BadReturn = refl
schema-clean R.TooManyRows = refl
schema-clean R.NoRoom = refl

message-clean : (x : MessageRefusal) → all clean (refused_line (Messages.refusal_number x)) ≡ true
unfolding refused_line decimal_text
message-clean M.UnsoundTable = refl
message-clean M.TooLong = refl
message-clean M.NotText = refl
message-clean M.TooDeep = refl
message-clean M.RepeatedKey = refl
message-clean M.NotEnvelope = refl
message-clean M.UnknownCommand = refl
message-clean M.NotOutOfBand = refl
message-clean M.NoReading = refl
message-clean M.NoRoom = refl

pub schema_head-clean : (S : List ℕ) (a : SchemaAnswer) → all clean (schema_head S a) ≡ true
unfolding rows_line
schema_head-clean S (SA.Accepted n) = joined (text "0 schema accepted, rows: ") (decimal_text n ++ (10 ∷ [])) refl (joined (decimal_text n) (10 ∷ []) (number-clean n) refl)
schema_head-clean S (SA.Refused x p) =
    joined (refused_line (Schemas.refusal_number x)) (schema_pointer S p (schema_points x)) (schema-clean x) (schema_pointer-clean S p (schema_points x))

pub head-clean : (S T m : List ℕ) (a : MessageAnswer) → all clean (message_head S T m a) ≡ true
unfolding command_line
head-clean S T m (MA.Accepted c n) = joined (text "0 ") (shown (name_of S T c) ++ (10 ∷ [])) refl (joined (shown (name_of S T c)) (10 ∷ []) (shown-clean (name_of S T c)) refl)
head-clean S T m (MA.Refused x p) =
    joined (refused_line (Messages.refusal_number x)) (message_pointer m p (message_points x p)) (message-clean x) (message_pointer-clean m p (message_points x p))
