-- What the resolver does with raw rows: they become the table of the definitions, and it tells whether every name found its row.
use Rattle.std.specs.Prelude.{ℕ, ◌≤◌, ◌≡◌, Bool, List, length}
use Rattle.grammar.specs.Limits.{schema_bytes}
use Rattle.rules.specs.Definitions.{Definition}
use Rattle.rules.specs.SchemaTable.{table, all_refer}
use Rattle.rules.specs.Serving.RawTable.{raw_from, EveryName, Spans}

pub record Resolves (S raw new : List ℕ) (r : Bool) : Type 0 where
  pub same_length : length new ≡ length raw
  pub told : (ds : List Definition) → length S ≤ schema_bytes → EveryName (Spans S) ds → raw ≡ raw_from 0 ds → (new ≡ table S ds) × (r ≡ all_refer S ds)
