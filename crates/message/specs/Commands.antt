-- Serves contracts: what the search for a command finds.
use Rattle.std.specs.Prelude.{ℕ, ◌≡◌, Bool, ◌&&◌, List}
use Rattle.std.proofs.Math.Option.{Option, none, some}
use Rattle.grammar.specs.Limits.{name_bytes}
use Rattle.grammar.specs.Tree.Scalar.{str}
use Rattle.grammar.specs.Tree.Json.{leaf}
use Rattle.grammar.specs.Serving.Machine.Message.{message}
use Rattle.rules.specs.Names.{same_name}
use Rattle.rules.specs.Rows.{row_count, is_command, name_of}
use Rattle.rules.specs.Serving.Answers.{command_from}
use Rattle.strings.specs.Decoding.{NoBytes}
use Rattle.text.specs.Nodes.{Holds}
use Rattle.lookups.specs.Lookups.{MeaningAt}
use Rattle.message.specs.declared.commands.Command.{Command}
use Rattle.message.specs.declared.commands.Command.TheVariants.{Row, Unknown}

abbrev pub as_command : Option ℕ → Command
as_command none = Unknown
as_command (some c) = Row c

-- row r is a command of that name; the first row that is
unfoldable pub is_named : List ℕ → List ℕ → List ℕ → ℕ → Bool
is_named S T name r = is_command T r && same_name (name_of S T r) name

unfoldable pub first_named : List ℕ → List ℕ → List ℕ → Command
first_named S T name = as_command (command_from S T name 0 (row_count T))

-- both, where the name is what the string at node k means, which no name within the limit is
pub record NamesLong (S T m w : List ℕ) (k r : ℕ) (b : Bool) : Type 0 where
  pub told : (cs : List ℕ) → MeaningAt m w k cs → NoBytes name_bytes cs → b ≡ is_named S T cs r

pub record FindsLong (S T m w : List ℕ) (k : ℕ) (c : Command) : Type 0 where
  pub told : (cs : List ℕ) → MeaningAt m w k cs → NoBytes name_bytes cs → c ≡ first_named S T cs

-- the string at node k names the first command of that name
pub record FindsCommand (S T m w : List ℕ) (k : ℕ) (r : Command) : Type 0 where
  pub told : (a e l : ℕ) (cs : List ℕ) → Holds message m w (leaf a e (str cs)) l k → r ≡ as_command (command_from S T cs 0 (row_count T))
