-- Of the running call: whatever comes as schema S, table T, message m and lent words `old`, of the answer and the words `new` that `check_message` gives.
use Prim.Native.Nat.{ℕ, ◌*◌, ◌/◌, ◌≤◌}
use native.Mathlib.Omega.{arith}
use mathlib.Core.Path.{◌≡◌, ap, ◌∙◌, subst}
use mathlib.Core.List.{List, [], ◌++◌}
use lib.ListN.{length, take}
use Rattle.grammar.specs.Limits.{record_words}
use Rattle.rules.specs.declared.MessageAnswer.{MessageAnswer}
use Rattle.rules.specs.declared.MessageAnswer.TheVariants.{Accepted}
use Rattle.rules.specs.Serving.Answers.{MessageResult}
use Rattle.rules.proofs.Acceptance.{accepted-gives}
use Rattle.message.specs.Stages.{Answered}
use Rattle.walker.proofs.Walk.{Walked, walk}
use Rattle.trees.proofs.Indents.{Tells, accepted-tree}
use Rattle.trees.specs.TreeText.{reading_lines}
use Rattle.wordings.specs.Wordings.{command_line}
use Rattle.console.specs.declared.answers.Style.TheVariants as Style
use Rattle.console.specs.Program.{tree_lines, result_text, answer_text}

-- a walk of an accepted answer gives its records, in order, and then stays
pub walk-answered : {S T m old new : List ℕ} {r : MessageAnswer} (c n : ℕ) → Answered S T m old new r → r ≡ Accepted c n → Walked S T m c n new
walk-answered {S} {T} {m} {old} c n a e =
    subst (Walked S T m c n) (ap (λ (x : MessageResult). x.words) a.told) (walk S T m (length old) c n (ap (λ (x : MessageResult). x.answer) a.told ∙ e))

-- the lines of its records are those of the reading, each under the values that contain it
pub tree-answered : {S T m old new : List ℕ} {r : MessageAnswer} (c n : ℕ) → Answered S T m old new r → r ≡ Accepted c n → Tells S T m c n new
tree-answered {S} {T} {m} {old} c n a e =
    subst (Tells S T m c n) (ap (λ (x : MessageResult). x.words) a.told) (accepted-tree S T m (length old) c n (ap (λ (x : MessageResult). x.answer) a.told ∙ e))

-- what the program answers is the answer in words and the lines of the words that the answer counts
pub view_answered : {S T m old new : List ℕ} {r : MessageAnswer} → Answered S T m old new r → answer_text S T (length old) Style.Tree m ≡ result_text S T (length old) Style.Tree m (record { answer = r; words = new })
unfolding answer_text
view_answered {S} {T} {m} {old} a = ap (result_text S T (length old) Style.Tree m) a.told

-- to an accepted message: its command's line, and the lines of its reading; there is room for the end of each record
pub accepted-shown : {S T m old new : List ℕ} {r : MessageAnswer} (c n : ℕ) (a : Answered S T m old new r) (e : r ≡ Accepted c n)
    → answer_text S T (length old) Style.Tree m ≡ command_line S T c ++ reading_lines S T m (take (record_words * n) new) [] (tree-answered c n a e).reading
unfolding tree_lines
accepted-shown {S} {T} {m} {old} {new} c n a e =
    let g = accepted-gives S T m (length old) c n (ap (λ (x : MessageResult). x.answer) a.told ∙ e) in
    let h : n ≤ length old / record_words = omega (arith, g.held, g.count) in
    view_answered a ∙ ap (λ (x : MessageAnswer). result_text S T (length old) Style.Tree m (record { answer = x; words = new })) e ∙ ap (λ (l : List ℕ). command_line S T c ++ l) ((tree-answered c n a e).lines (length old / record_words) h)
