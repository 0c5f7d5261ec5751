-- Serves contracts: a range of the code as the rules have it.
use Rattle.std.specs.Prelude as Code
use Rattle.std.proofs.Math.Option.{Option, none, some}
use Rattle.rules.specs.Types as Types
use Rattle.builtins.specs.declared.ranges.Range.{Range}

abbrev pub range_as : Code.Option Range → Option Types.Range
range_as Code.None = none
range_as (Code.Some r) = some (record { low = r.below; high = r.above })
