-- Wherever the system cuts the input into reads, what a program writes is its text for the whole file and the whole input, in either style.
-- The idea: a step's contract holds whatever follows the chunk; so step by step, then chunk by chunk, after the first line.
use Prim.Native.Nat.{ℕ, zero, suc, ◌+◌, ◌-◌, ◌/◌, ◌≤◌, ◌<◌}
use native.Mathlib.Nat.{not-suc-le-zero}
use native.Mathlib.Omega.{arith}
use mathlib.Core.Path.{◌≡◌, refl, sym, ap, ◌∙◌}
use mathlib.Core.List.{List, [], ◌∷◌, ◌++◌, append_assoc, append-nil}
use Rattle.std.specs.Prelude.{Option, Some, None}
use lib.ListN.{length, take}
use Rattle.grammar.specs.Limits.{record_words}
use Rattle.lines.specs.Lines.{before_lf}
use Rattle.walker.specs.Seeing.{place_after}
use Rattle.trees.specs.TreeText.{line_at, open_then, lines_of, lines_from}
use Rattle.trees.specs.Serving.Asks.{One}
use Rattle.trees.proofs.TreeLaws.{lines-on}
use Rattle.console.specs.declared.answers.Style.{Style}
use Rattle.console.specs.Program.{record_room, tree_lines, answer_text, answers_to, first_line, later_lines, program_text}
use Rattle.console.specs.Serving.Steps.{Takes, Keeps}
use Rattle.console.specs.Serving.Beginning.{cut_file, TableOf, Opens}
use Rattle.console.specs.Serving.Runs.{Lists, Lists.listed, Lists.line_waits, Lists.line_written, Turns, Turns.used_up, Turns.waits, Turns.writes, Run, Run.ends, Run.last, Run.reads, WholeRun, WholeRun.stops, WholeRun.goes_on, input_of}
use Rattle.console.proofs.AnswerLaws.{no_lines}
use Rattle.console.proofs.BeginningLaws.{table_lent, table-answers, first_cut, later_cut}

module _ (s : Style) (S T : List ℕ) (room : ℕ) where
  -- what is written of a message's records is the lines put before them and their own
  line_on : {m ws es es' out new : List ℕ} {n next : ℕ} → n < length ws / record_words → One S T m ws (room / record_words) n es out new next es'
      → out ++ lines_from S T m ws (room / record_words) n es ≡ new ++ lines_from S T m ws (room / record_words) next es'
  line_on {m} {ws} {es} {es'} {out} {new} {n} {next} h o =
      let k = room / record_words in
      ap (λ (l : List ℕ). out ++ l) (lines-on S T m ws k n es h) ∙ sym (append_assoc out (line_at S T m ws k n es) (lines_from S T m ws k (place_after ws n) (open_then S T m ws k n es)))
      ∙ ap (λ (l : List ℕ). l ++ lines_from S T m ws k (place_after ws n) (open_then S T m ws k n es)) (sym o.puts)
      ∙ ap (λ (i : ℕ). new ++ lines_from S T m ws k i (open_then S T m ws k n es)) (sym o.moves) ∙ ap (λ (l : List ℕ). new ++ lines_from S T m ws k next l) (sym o.opens)

  lists_all : {m ws es out tree : List ℕ} {n : ℕ} → Lists s S T room m ws n es out tree → out ++ lines_from S T m ws (room / record_words) n es ≡ tree
  unfolding lines_from lines_of
  lists_all {m} {ws} {es} {out} {n = n} (listed h e) =
      let z : length ws / record_words - n ≡ 0 = omega arith in
      ap (λ (k : ℕ). out ++ lines_of S T m ws (room / record_words) k n es) z ∙ append-nil out ∙ sym e
  lists_all (line_waits h o l) = line_on h o ∙ lists_all l
  lists_all (line_written {new = new} h o l e) = line_on h o ∙ ap (λ (t : List ℕ). new ++ t) (lists_all l) ∙ sym e

  abbrev answers : List ℕ → List ℕ → List ℕ
  answers m l = answers_to s S T room m l

  step-on : {chunk m out line words new rest : List ℕ} {n : ℕ} → Takes s S T room chunk m out line words new rest n → (more : List ℕ)
      → out ++ answers m (chunk ++ more) ≡ new ++ (tree_lines S T room line (take n words) ++ answers [] (rest ++ more))
  step-on {out = out} {line = line} {words} {rest = rest} {n = n} d more =
      let y : List ℕ = tree_lines S T room line (take n words) ++ answers [] (rest ++ more) in
      ap (λ (t : List ℕ). out ++ t) (d.splits more) ∙ sym (append_assoc out d.text y) ∙ ap (λ (t : List ℕ). t ++ y) (sym d.puts)

  turns_answer : {chunk out m text m' : List ℕ} → Turns s S T room chunk out m text m' → (more : List ℕ) → out ++ answers m (chunk ++ more) ≡ text ++ answers m' more
  unfolding tree_lines
  turns_answer {out = out} {m' = m'} (used_up k e) more = ap (λ (l : List ℕ). out ++ l) (k.splits more) ∙ ap (λ (l : List ℕ). l ++ answers m' more) (sym e)
  turns_answer (waits {line = line} {words} {new} {rest} d ts) more =
      step-on d more ∙ ap (λ (t : List ℕ). new ++ (t ++ answers [] (rest ++ more))) (no_lines S T room line words) ∙ turns_answer ts more
  turns_answer {m' = m'} (writes {new = new} {rest} {tree} {more = text} d l ts e) more =
      step-on d more ∙ ap (λ (t : List ℕ). new ++ (t ++ answers [] (rest ++ more))) (lists_all l) ∙ ap (λ (t : List ℕ). new ++ (tree ++ t)) (turns_answer ts more)
      ∙ ap (λ (t : List ℕ). new ++ t) (sym (append_assoc tree text (answers m' more))) ∙ sym (append_assoc new (tree ++ text) (answers m' more)) ∙ ap (λ (t : List ℕ). t ++ answers m' more) (sym e)

  -- of the LF after a last line nothing is kept
  empty : (l : List ℕ) → length l ≤ 0 → l ≡ []
  empty [] h = refl
  empty (x ∷ l) h = absurd (not-suc-le-zero h)

  settled : {chunk out text m' : List ℕ} → length chunk < 1 → Turns s S T room chunk out [] text m' → m' ≡ []
  settled {m' = m'} h (used_up k e) = empty m' (omega (arith, h, k.few))
  settled h (waits d ts) = absurd (omega (arith, h, d.shorter))
  settled h (writes d l ts e) = absurd (omega (arith, h, d.shorter))

  none_kept : {out m text m' : List ℕ} → Turns s S T room (10 ∷ []) out m text m' → m' ≡ []
  unfolding before_lf
  none_kept (used_up k e) = let z : ◌≡◌ {A = ℕ} 0 1 = k.none_ends in absurd (omega arith)
  none_kept (waits d ts) = settled d.shorter ts
  none_kept (writes d l ts e) = settled d.shorter ts

  from-run : {m text : List ℕ} {chunks : List (List ℕ)} → Run s S T room m chunks text → answers m (input_of chunks) ≡ text
  unfolding answers_to
  from-run ends = refl
  from-run (last {b} {m} {written = written} ts) = sym (append-nil (answer_text S T room s (b ∷ m))) ∙ turns_answer ts [] ∙ ap (λ (k : List ℕ). written ++ answers k []) (none_kept ts) ∙ append-nil written
  from-run (reads {text = text} {chunks = chunks} ts r e) = turns_answer ts (input_of chunks) ∙ ap (λ (l : List ℕ). text ++ l) (from-run r) ∙ sym e

  pub any-reads : (chunks : List (List ℕ)) (text : List ℕ) → Run s S T room [] chunks text → text ≡ answers [] (input_of chunks)
  any-reads chunks text r = sym (from-run r)

-- ---- the whole run: the first line, by what was read of the file, and what follows it
module _ (s : Style) (file : Option (List ℕ)) (input : List ℕ) {read : Option (List ℕ)} (e : read ≡ cut_file file) where
  written-first : {rows new : List ℕ} {r : Option ℕ} → Opens s read rows [] new r → new ≡ first_line s file
  written-first o = o.puts ∙ ap (first_line s) e ∙ first_cut s file

  written-later : {text : List ℕ} → later_lines s read input ≡ text → text ≡ later_lines s file input
  written-later l = sym l ∙ ap (λ (x : Option (List ℕ)). later_lines s x input) e ∙ later_cut s file input

pub whole_run : {E : Type 0} (s : Style) (file : Option (List ℕ)) (chunks : List (List ℕ)) (text : List ℕ) → WholeRun E s file chunks text → text ≡ program_text s file (input_of chunks)
unfolding program_text
whole_run s file chunks text (stops read room e o) =
    written-first s file (input_of chunks) e o ∙ sym (append-nil (first_line s file)) ∙ ap (λ (l : List ℕ). first_line s file ++ l) (written-later s file (input_of chunks) e (o.follows (input_of chunks)))
whole_run s file chunks text (goes_on read room {schema} {rows} {more = more} {words = words} e o f r w) =
    let t : TableOf schema (take words rows) = table_lent o refl f in
    let later = ap (λ (x : Option (List ℕ)). later_lines s x (input_of chunks)) f ∙ table-answers s t (input_of chunks) ∙ sym (any-reads s schema (take words rows) record_room chunks more r) in
    w ∙ ap (λ (l : List ℕ). l ++ more) (written-first s file (input_of chunks) e o) ∙ ap (λ (l : List ℕ). first_line s file ++ l) (written-later s file (input_of chunks) e later)
