-- The row that a search for a command found, as a number.
use Prim.Native.Nat.{ℕ}
use mathlib.Core.Path.{◌≡◌, refl, ap, ◌∙◌}
use mathlib.Core.List.{List}
use mathlib.Core.Option.{Option, none, some}
use Rattle.rules.specs.Rows.{row_count}
use Rattle.rules.specs.Serving.Answers.{command_from}
use Rattle.message.specs.declared.commands.Command.{Command}
use Rattle.message.specs.Commands.{as_command, FindsCommand}
use Rattle.probe.specs.Probe.{number_or, row_of, CommandProbed}

row_or : (T : List ℕ) (o : Option ℕ) → row_of T (as_command o) ≡ number_or (row_count T) o
row_or T none = refl
row_or T (some r) = refl

pub command_probed : {S T m w : List ℕ} {k r : ℕ} {found : Command} → FindsCommand S T m w k found → r ≡ row_of T found → CommandProbed S T m w k r
command_probed {S} {T} f e = record { told = λ a o l cs h. e ∙ ap (row_of T) (f.told a o l cs h) ∙ row_or T (command_from S T cs 0 (row_count T)) }
