-- Serves a theorem: a run of a program, namely what it reads, file and chunks, and what it writes, where each step does what its contract says.
use Rattle.std.specs.Prelude.{ℕ, ◌/◌, ◌≤◌, ◌<◌, ◌≡◌, List, [], ◌∷◌, ◌++◌, length, take, Option, Some, None, Result}
use Rattle.grammar.specs.Limits.{record_words}
use Rattle.trees.specs.Serving.Asks.{One}
use Rattle.console.specs.declared.answers.Style.{Style}
use Rattle.console.specs.Program.{record_room}
use Rattle.console.specs.Serving.Steps.{Takes, Keeps}
use Rattle.console.specs.Serving.Beginning.{file_in, cut_file, Opens}

-- in a style, over a schema, its table and the words lent for records
module _ (s : Style) (S T : List ℕ) (room : ℕ) where
  -- the lines of a message's records from number n on, within records that end there, after lines that are put: each stays on the page, or is written with those before it
  pub data Lists (m ws : List ℕ) : ℕ → List ℕ → List ℕ → List ℕ → Type 0 where
    listed : {n : ℕ} {es out written : List ℕ} → length ws / record_words ≤ n → written ≡ out → Lists m ws n es out written
    line_waits : {n next : ℕ} {es es' out new written : List ℕ} → n < length ws / record_words → One S T m ws (room / record_words) n es out new next es'
        → Lists m ws next es' new written → Lists m ws n es out written
    line_written : {n next : ℕ} {es es' out new more written : List ℕ} → n < length ws / record_words → One S T m ws (room / record_words) n es out new next es'
        → Lists m ws next es' [] more → written ≡ new ++ more → Lists m ws n es out written

  -- a chunk, where m is read of a line before and m' after: what is put stays on the page, or is written with the lines to be shown
  pub data Turns : List ℕ → List ℕ → List ℕ → List ℕ → List ℕ → Type 0 where
    used_up : {chunk out m written m' : List ℕ} → Keeps s S T room chunk m m' → written ≡ out → Turns chunk out m written m'
    waits : {chunk out m line words new rest written m' : List ℕ} → Takes s S T room chunk m out line words new rest 0 → Turns rest new [] written m' → Turns chunk out m written m'
    writes : {chunk out m line words new rest tree more written m' : List ℕ} {n : ℕ} → Takes s S T room chunk m out line words new rest n → Lists line (take n words) 0 [] [] tree
        → Turns rest [] [] more m' → written ≡ new ++ (tree ++ more) → Turns chunk out m written m'

  -- all chunks; then nothing has been read of a line, or the last line is taken as one with LF
  pub data Run : List ℕ → List (List ℕ) → List ℕ → Type 0 where
    ends : Run [] [] []
    last : {b : ℕ} {m m' written : List ℕ} → Turns (10 ∷ []) [] (b ∷ m) written m' → Run (b ∷ m) [] written
    reads : {chunk m m' text more written : List ℕ} {chunks : List (List ℕ)} → Turns chunk [] m text m' → Run m' chunks more → written ≡ text ++ more → Run m (chunk ∷ chunks) written

-- a whole run, where reading fails with an error of E: the first bytes of the file are read, if there is one, and what is put first is written; then nothing follows, or the messages
pub data WholeRun (E : Type 0) (s : Style) (file : Option (List ℕ)) (chunks : List (List ℕ)) : List ℕ → Type 0 where
  stops : (read : Result ℕ E) (room : List ℕ) {rows written : List ℕ} → file_in room read ≡ cut_file file → Opens s (file_in room read) rows [] written None → WholeRun E s file chunks written
  goes_on : (read : Result ℕ E) (room : List ℕ) {schema rows new more written : List ℕ} {words : ℕ} → file_in room read ≡ cut_file file → Opens s (file_in room read) rows [] new (Some words)
      → file_in room read ≡ Some schema → Run s schema (take words rows) record_room [] chunks more → written ≡ new ++ more → WholeRun E s file chunks written

-- the input: all chunks, one after another
abbrev pub input_of : List (List ℕ) → List ℕ
input_of [] = []
input_of (chunk ∷ chunks) = chunk ++ input_of chunks
