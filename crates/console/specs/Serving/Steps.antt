-- Serves contracts: from line to line of the input, what is put, what is shown after it, and the room that it takes.
use Rattle.std.specs.Prelude.{ℕ, ◌+◌, ◌*◌, ◌≤◌, ◌<◌, ◌≡◌, List, [], ◌++◌, length, take, Option, Some, None}
use Rattle.lines.specs.Lines.{before_lf}
use Rattle.lines.specs.Serving.Rooms.{number_room, word_room}
use Rattle.console.specs.declared.answers.Style.{Style}
use Rattle.console.specs.declared.rooms.Rooms.{Rooms}
use Rattle.console.specs.declared.steps.Taken.{Taken}
use Rattle.console.specs.Program.{record_room, tree_lines, answer_text, answers_to}

-- the longest line of numbers: four, and the words of all records lent
abbrev pub longest_line : ℕ
longest_line = 4 * number_room + word_room * record_room

-- what is lent for answers
abbrev pub out_room : ℕ
out_room = 2 * longest_line

module _ (s : Style) (S T : List ℕ) (room : ℕ) where
  -- the answer to a message is put, but for the lines of its first n record words, which are to be shown after it
  pub record Says (m old new words : List ℕ) (n : ℕ) : Type 0 where
    pub text : List ℕ
    pub puts : new ≡ old ++ text
    pub rest : answer_text S T room s m ≡ text ++ tree_lines S T room m (take n words)
    pub few : n ≤ length words

  -- A line ends in the chunk. Up to what is left of the chunk the input is answered, whatever follows the chunk, but for the lines that are to be shown.
  pub record Takes (chunk line old line' words new rest : List ℕ) (n : ℕ) : Type 0 where
    pub text : List ℕ
    pub puts : new ≡ old ++ text
    pub splits : (more : List ℕ) → answers_to s S T room line (chunk ++ more) ≡ text ++ (tree_lines S T room line' (take n words) ++ answers_to s S T room [] (rest ++ more))
    pub shorter : length rest < length chunk
    pub few : n ≤ room

  -- no line ends in the chunk, and what is kept is as good as all of it, whatever follows
  pub record Keeps (chunk line line' : List ℕ) : Type 0 where
    pub none_ends : before_lf chunk ≡ length chunk
    pub splits : (more : List ℕ) → answers_to s S T room line (chunk ++ more) ≡ answers_to s S T room line' more
    pub few : length line' ≤ length line + length chunk

  abbrev pub Steps : {L O : ℕ} → List ℕ → Rooms L O → Rooms L O → Option Taken → Type 0
  Steps chunk old new (Some t) = Takes chunk old.line old.out new.line new.records new.out t.rest.now t.words
  Steps chunk old new None = Keeps chunk old.line new.line × (new.out ≡ old.out)
