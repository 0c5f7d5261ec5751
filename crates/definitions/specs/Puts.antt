-- What putting the definitions of a schema into rows gives: that they are none, or their number and the raw rows, where these fit the words.
use Rattle.std.specs.Prelude.{ℕ, ◌*◌, ◌≤◌, ◌≡◌, true, List, Result, Ok, Err, length, take}
use Rattle.std.proofs.Math.Option.{none, some}
use Rattle.grammar.specs.Limits.{schema_bytes, row_words}
use Rattle.grammar.specs.Tree.{Items}
use Rattle.grammar.specs.Keys.{keys_once_i}
use Rattle.grammar.specs.Serving.Machine.Schema.{schema}
use Rattle.rules.specs.Definitions.{Definition, definitions}
use Rattle.rules.specs.Serving.RawTable.{raw_from}
use Rattle.text.specs.Nodes.{HoldsItems}
use Rattle.definitions.specs.declared.writing.NotDefinitions.{NotDefinitions}

-- the rows of the definitions ds, in the first n rows of the words; no more rows than nodes
pub record RowsPut (old new : List ℕ) (js : Items) (count n : ℕ) : Type 0 where
  pub ds : List Definition
  pub are : definitions js ≡ some ds
  pub few : n ≤ count
  pub size : row_words * n ≡ length (raw_from 0 ds)
  pub rows : row_words * n ≤ length old → take (row_words * n) new ≡ raw_from 0 ds

-- the values of a schema that is not too long and repeats no key
pub record Fit (s : List ℕ) (js : Items) : Type 0 where
  pub small : length s ≤ schema_bytes
  pub once : keys_once_i js ≡ true

abbrev pub PutTold : List ℕ → List ℕ → Items → ℕ → Result ℕ NotDefinitions → Type 0
PutTold old new js count (Ok n) = RowsPut old new js count n
PutTold old new js count (Err e) = definitions js ≡ none

pub record PutsDefinitions (s w old new : List ℕ) (count : ℕ) (r : Result ℕ NotDefinitions) : Type 0 where
  pub same_length : length new ≡ length old
  pub told : (js : Items) (l : ℕ) → Fit s js → HoldsItems schema s w js l 0 count → PutTold old new js count r
