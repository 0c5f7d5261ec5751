-- `names::name_bytes` says whether all bytes are bytes of a name.
-- What is left of them says what the whole says.
use mathlib.Core.Path.{◌≡◌}
use lib.ListN.{drop}
use Rattle.grammar.specs.Notation.{all}
use Rattle.rules.specs.Names.{name_byte}
use Rattle.rows.proofs.names.name_bytes.Given as goal

abbrev pub invariant-loop-b : goal.invariant-loop-b
invariant-loop-b l = all name_byte l.bytes ≡ all name_byte (drop l.b-index l.bytes)
