-- The answers of both styles from the numbers, the words and the texts that the calls give.
use Prim.Native.Nat.{ℕ, ◌*◌, ◌≤◌, min}
use native.Mathlib.Nat.{min-eq_left, min-eq_right, le_of_lt}
use mathlib.Core.Path.{◌≡◌, refl, sym, ap, ◌∙◌}
use mathlib.Core.Bool.{Bool, true, false}
use mathlib.Core.List.{List, [], ◌∷◌, ◌++◌, append-nil}
use lib.Dec.{leb}
use lib.ListN.{length, take}
use lib.Seq.{take_all, take-length}
use native.Mathlib.Omega.{arith}
use borrow.Author.Tests.{leb-true, leb-false}
use Rattle.grammar.specs.Limits.{record_words}
use Rattle.rules.specs.declared.SchemaAnswer.{SchemaAnswer}
use Rattle.rules.specs.declared.MessageAnswer.{MessageAnswer}
use Rattle.rules.specs.SchemaAnswers as Schemas
use Rattle.rules.specs.MessageAnswers as Messages
use Rattle.message.specs.Stages.{Answered}
use Rattle.lines.specs.Text.{line_text}
use Rattle.trees.specs.TreeText.{lines_from, lines_of}
use Rattle.wordings.specs.Wordings.{message_head}
use Rattle.console.specs.declared.answers.Style.{Style}
use Rattle.console.specs.declared.answers.Style.TheVariants.{Numbers, Tree}
use Rattle.console.specs.Program.{schema_line, result_line, tree_lines, result_text, answer_text}
use Rattle.console.specs.Serving.Steps.{Says}

pub schema_is : (a : SchemaAnswer) → schema_line a ≡ line_text (Schemas.answer_number a) (Schemas.answer_rows a ∷ Schemas.answer_place a ∷ [])
unfolding schema_line
schema_is a = refl

-- the words that a count stands for, of those there are
pub take_least : (n : ℕ) (l : List ℕ) (b : Bool) → leb n (length l) ≡ b → take (min n (length l)) l ≡ take n l
take_least n l true e = ap (λ (k : ℕ). take k l) (min-eq_left (leb-true n (length l) e))
take_least n l false e =
    let h : length l ≤ n = le_of_lt (leb-false n (length l) e) in
    ap (λ (k : ℕ). take k l) (min-eq_right h) ∙ take-length l ∙ sym (take_all n l h)

pub counted : (k : ℕ) {z : ℕ} (w : List ℕ) → z ≡ min (record_words * k) (length w) → take z w ≡ take (record_words * k) w
counted k w f = ap (λ (x : ℕ). take x w) f ∙ take_least (record_words * k) w (leb (record_words * k) (length w)) refl

pub result_is : (w : List ℕ) (a : MessageAnswer) {z : ℕ} → z ≡ min (record_words * Messages.answer_records a) (length w)
    → result_line (record { answer = a; words = w }) ≡ line_text (Messages.answer_number a) (Messages.answer_row a ∷ Messages.answer_records a ∷ Messages.answer_place a ∷ take z w)
unfolding result_line
result_is w a e = ap (λ (l : List ℕ). line_text (Messages.answer_number a) (Messages.answer_row a ∷ Messages.answer_records a ∷ Messages.answer_place a ∷ l)) (sym (counted (Messages.answer_records a) w e))

pub no_lines : (S T : List ℕ) (room : ℕ) (m ws : List ℕ) → tree_lines S T room m (take 0 ws) ≡ []
unfolding tree_lines lines_from lines_of
no_lines S T room m ws = refl

module _ {s : Style} {S T m before w : List ℕ} {a : MessageAnswer} (h : Answered S T m before w a) where
  said : {t : Style} → s ≡ t → answer_text S T (length before) s m ≡ result_text S T (length before) t m (record { answer = a; words = w })
  unfolding answer_text
  said {t} e = ap (λ (x : Style). answer_text S T (length before) x m) e ∙ ap (result_text S T (length before) t m) h.told

  pub says_numbers : {old new : List ℕ} → s ≡ Numbers → new ≡ old ++ result_line (record { answer = a; words = w }) → Says s S T (length before) m old new w 0
  says_numbers q x =
      let l : List ℕ = result_line (record { answer = a; words = w }) in
      record { text = l; puts = x; rest = said q ∙ sym (append-nil l) ∙ ap (λ (t : List ℕ). l ++ t) (sym (no_lines S T (length before) m w)); few = omega arith }

  pub says_tree : {k z : ℕ} {old new : List ℕ} → s ≡ Tree → new ≡ old ++ message_head S T m a → k ≡ Messages.answer_records a → (z ≡ min (record_words * k) (length w)) × (z ≤ length w) → Says s S T (length before) m old new w z
  says_tree {k} q x o y = record {
    text = message_head S T m a;
    puts = x;
    rest = said q ∙ ap (λ (l : List ℕ). message_head S T m a ++ tree_lines S T (length before) m l) (sym (counted k w y.0 ∙ ap (λ (x : ℕ). take (record_words * x) w) o));
    few = y.1;
  }
