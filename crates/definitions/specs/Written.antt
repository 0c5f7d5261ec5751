-- Serves contracts: rows written into lent words one after the other, where they fit, or refusal.
use Rattle.std.specs.Prelude.{ℕ, ◌+◌, ◌*◌, ◌^◌, ◌≤◌, ◌≡◌, List, Result, Ok, Err, length}
use Rattle.std.proofs.Math.Option.{Option, none, some}
use Rattle.std.proofs.lemmas.List.Edits.{sets}
use Rattle.grammar.specs.Limits.{row_words}
use Rattle.text.specs.Nodes.{text_bound}
use Rattle.definitions.specs.declared.writing.NotDefinitions.{NotDefinitions}

-- Bounds below which rows are counted, so that no count goes past a number of the machine. A row comes from a node of its own, and a schema has
-- fewer nodes than bytes: so many rows at most stand before a definition, and the link to the row after the next fits in a word.
abbrev pub node_bound : ℕ
node_bound = text_bound

-- the most rows of a definition: its own and two lists, each with one row for a node that a word numbers
abbrev pub definition_rows : ℕ
definition_rows = 2 ^ 34

-- where a list with the row that counts it may begin: within the rows of a definition, with room to spare
abbrev pub list_bound : ℕ
list_bound = 2 ^ 39

-- where the children of a list may begin, and each of them
abbrev pub children_bound : ℕ
children_bound = 2 ^ 40

abbrev pub child_bound : ℕ
child_bound = 2 ^ 48

-- the words xs stand from row n on, if all of them fit
pub record RowPut (old new : List ℕ) (n : ℕ) (xs : List ℕ) : Type 0 where
  pub same_length : length new ≡ length old
  pub words : row_words * n + length xs ≤ length old → new ≡ sets old (row_words * n) xs

-- there are rows, and they stand from row n up to row m
pub record RowsAre (o : Option (List ℕ)) (old new : List ℕ) (n m : ℕ) : Type 0 where
  pub xs : List ℕ
  pub are : o ≡ some xs
  pub size : row_words * m ≡ row_words * n + length xs
  pub put : RowPut old new n xs

abbrev pub RowsTold : Option (List ℕ) → List ℕ → List ℕ → ℕ → Result ℕ NotDefinitions → Type 0
RowsTold o old new n (Ok m) = RowsAre o old new n m
RowsTold o old new n (Err e) = o ≡ none

-- at most so many rows are put
abbrev pub Few : ℕ → ℕ → Result ℕ NotDefinitions → Type 0
Few n most (Ok m) = (n ≤ m) × (m ≤ n + most)
Few n most (Err e) = Unit {0}

-- the rows of what the nodes hold are put from row n on, for all that P says the nodes may hold
pub record PutsRows (P : Option (List ℕ) → Type 0) (old new : List ℕ) (n most : ℕ) (r : Result ℕ NotDefinitions) : Type 0 where
  pub same_length : length new ≡ length old
  pub few : Few n most r
  pub told : (o : Option (List ℕ)) → P o → RowsTold o old new n r
