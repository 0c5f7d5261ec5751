-- Serves contracts: the outcome of a schema from one refusal on, where none before it applies.
use Rattle.std.specs.Prelude.{ℕ, ◌*◌, ◌/◌, ◌≤◌, ◌≡◌, Bool, List, length, drop, replicate}
use Rattle.std.proofs.Math.Option.{Option, some}
use Rattle.grammar.specs.Limits.{schema_bytes, schema_levels, row_words}
use Rattle.grammar.specs.Tree.{Items}
use Rattle.grammar.specs.SchemaText.{SchemaText}
use Rattle.grammar.specs.Serving.Machine.Schema.{schema, read_schema}
use Rattle.rules.specs.declared.SchemaRefusal.{SchemaRefusal}
use Rattle.rules.specs.declared.SchemaAnswer.{SchemaAnswer}
use Rattle.rules.specs.Values.{◌>>=◌}
use Rattle.rules.specs.Definitions.{Definition, definitions}
use Rattle.rules.specs.SchemaTable.{table, all_refer}
use Rattle.rules.specs.Serving.RawTable.{raw_from}
use Rattle.rules.specs.SchemaAnswers.{schema_order}
use Rattle.rules.specs.Serving.Answers.{rank}
use Rattle.rules.specs.Serving.Answers.{SchemaResult, first, objects_in, schema_test, table_in, schema_answered, schema_result}
use Rattle.text.specs.Nodes.{HoldsItems}

-- A node takes at least two bytes of the schema, and a row a node of its own.
abbrev pub most_nodes : ℕ
most_nodes = schema_bytes / 2

abbrev pub most_rows : ℕ
most_rows = most_nodes

-- the objects of the text, and their definitions
unfoldable pub objects : List ℕ → Option Items
objects S = objects_in (read_schema S)

unfoldable pub written : List ℕ → Option (List Definition)
written S = objects S >>= definitions

-- the outcome by the refusals xs alone
unfoldable pub result_by : List ℕ → ℕ → List SchemaRefusal → SchemaResult
result_by S room xs = schema_answered S room (read_schema S) (table_in S room (written S)) (first (schema_test S room (objects S) (written S)) xs)

-- the answer and the lent words are the outcome by the refusals from x on
pub record Answered (S : List ℕ) (x : SchemaRefusal) (old new : List ℕ) (r : SchemaAnswer) : Type 0 where
  pub told : result_by S (length old) (drop (rank x) schema_order) ≡ record { answer = r; words = new }

-- words that are all zero
pub record Zero (w : List ℕ) : Type 0 where
  pub told : w ≡ replicate (length w) 0

-- the words are the table of the schema's definitions
pub record IsTable (S T : List ℕ) : Type 0 where
  pub ds : List Definition
  pub are : written S ≡ some ds
  pub rows : T ≡ table S ds
  pub whole : length T ≡ row_words * (length T / row_words)

-- whether every name of the schema's definitions that refers finds its row
pub record Refers (S : List ℕ) (found : Bool) : Type 0 where
  pub told : (ds : List Definition) → written S ≡ some ds → found ≡ all_refer S ds

-- the nodes hold the objects of the schema's text
pub record TextRead (S w : List ℕ) (count : ℕ) : Type 0 where
  pub js : Items
  pub text : SchemaText S js
  pub holds : HoldsItems schema S w js schema_levels 0 count
  pub few : 2 * count ≤ length S
  pub short : length S ≤ schema_bytes

-- the words are the raw rows of its definitions
pub record RawRows (S raw : List ℕ) : Type 0 where
  pub js : Items
  pub text : SchemaText S js
  pub ds : List Definition
  pub are : definitions js ≡ some ds
  pub rows : raw ≡ raw_from 0 ds
  pub whole : length raw ≡ row_words * (length raw / row_words)
  pub few : 2 * length raw ≤ row_words * length S
  pub short : length S ≤ schema_bytes

-- the whole outcome
pub record Compiles (S old new : List ℕ) (r : SchemaAnswer) : Type 0 where
  pub told : schema_result S (length old) ≡ record { answer = r; words = new }
