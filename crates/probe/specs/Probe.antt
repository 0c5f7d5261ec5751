-- The answers of the text reader, and of the searches for a repeated key and for a command, as plain numbers.
use Rattle.std.specs.Prelude.{ℕ, ◌≡◌, Bool, true, false, List, length, Result, Ok, Err}
use Rattle.std.proofs.Math.Option.{Option, none, some}
use Rattle.grammar.specs.Tree.{Items}
use Rattle.grammar.specs.Tree.Scalar.{str}
use Rattle.grammar.specs.Tree.Json.{leaf}
use Rattle.grammar.specs.Serving.Machine as Machine
use Rattle.grammar.specs.Serving.Machine.Message.{message}
use Rattle.grammar.specs.Serving.Repeats.{first_repeat_i}
use Rattle.rules.specs.Rows.{row_count}
use Rattle.rules.specs.Serving.Answers.{command_from}
use Rattle.strings.specs.declared.dialects.Dialect.{Dialect}
use Rattle.strings.specs.declared.dialects.Dialect.TheVariants.{Schema, Message}
use Rattle.text.specs.Nodes.{Holds, HoldsItems}
use Rattle.text.specs.Texts.{ReadsText}
use Rattle.text.specs.declared.reader.TextError.{TextError}
use Rattle.text.specs.declared.reader.TextError.TheVariants.{Fault, Deep, TooLong}
use Rattle.message.specs.declared.commands.Command.{Command}
use Rattle.message.specs.declared.commands.Command.TheVariants.{Row, Unknown}

abbrev pub verdict : Result ℕ TextError → ℕ
verdict (Ok n) = 0
verdict (Err (Fault e)) = 1
verdict (Err (Deep e)) = 2
verdict (Err TooLong) = 3

-- the number of nodes, or the place
abbrev pub place : Result ℕ TextError → ℕ
place (Ok n) = n
place (Err (Fault e)) = e
place (Err (Deep e)) = e
place (Err TooLong) = 0

-- the dialect that a caller in another language names
abbrev pub dialect_of : Bool → Dialect
dialect_of true = Schema
dialect_of false = Message

pub record Probed (schema : Bool) (s old new : List ℕ) (v p : ℕ) : Type 0 where
  pub text : Result ℕ TextError
  pub reads : ReadsText (dialect_of schema) s old new text
  pub verdict_is : v ≡ verdict text
  pub place_is : p ≡ place text

-- what is found, or this number for nothing
abbrev pub number_or : ℕ → Option ℕ → ℕ
number_or n none = n
number_or n (some r) = r

-- the earliest key that repeats one before it, in what the nodes below n hold
pub record KeysProbed (D : Machine.Dialect) (s w : List ℕ) (n r : ℕ) : Type 0 where
  pub told : (js : Items) (l : ℕ) → HoldsItems D s w js l 0 n → r ≡ number_or (length s) (first_repeat_i js)

-- the row found; the number of rows for none
abbrev pub row_of : List ℕ → Command → ℕ
row_of T (Row r) = r
row_of T Unknown = row_count T

-- the string at node k of a message names the first command of that name, whatever the table
pub record CommandProbed (S T m w : List ℕ) (k r : ℕ) : Type 0 where
  pub told : (a e l : ℕ) (cs : List ℕ) → Holds message m w (leaf a e (str cs)) l k → r ≡ number_or (row_count T) (command_from S T cs 0 (row_count T))
