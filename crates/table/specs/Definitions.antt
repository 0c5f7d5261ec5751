-- Serves contracts: rule 5 of one row, and definitions in an index.
use Rattle.std.specs.Prelude.{ℕ, ◌≤◌, ◌≡◌, Bool, not, cond, ◌&&◌, ◌||◌, List, ◌∷◌, eqb, length}
use Rattle.grammar.specs.Notation.{all, apart}
use Rattle.buckets.specs.Buckets.{Free, Linked}
use Rattle.rules.specs.Kinds.{value_kind, branch_kind}
use Rattle.rules.specs.Types.{built_ins}
use Rattle.rules.specs.Names.{good_name, clash}
use Rattle.rules.specs.Rows.{up_from, row_count, kind, unnamed, children, name_of}
use Rattle.rules.specs.Rules.{those, every_row, is_definition, names_of, no_clash, definition_names}
use Rattle.rows.specs.Hashes.{fresh_in}
use Rattle.rows.specs.Index.{itself, row_hash, RowIndex}

-- row r is an inline struct or has a good name
abbrev pub name_fits : List ℕ → List ℕ → ℕ → Bool
name_fits S T r = unnamed T r || good_name (eqb (kind T r) value_kind || eqb (kind T r) branch_kind) (name_of S T r)

-- the definitions of a table
unfoldable pub definition_rows : List ℕ → List ℕ
definition_rows T = those (is_definition T) (up_from 0 (row_count T))

-- row r before the rows rs, if it is a definition
abbrev pub with_row : List ℕ → ℕ → List ℕ → List ℕ
with_row T r rs = cond (is_definition T r) (r ∷ rs) rs

-- the index has the definitions of T, in their order
pub record DefinitionIndex (S T heads links : List ℕ) : Type 0 where
  pub room : row_count T ≤ length links
  pub rows : RowIndex S T heads links (definition_rows T)

-- the link of each definition leads to those after it in its bucket
pub record DefinitionLinks (S T links : List ℕ) : Type 0 where
  pub room : row_count T ≤ length links
  pub linked : Linked itself (row_hash S T) links (definition_rows T)

-- row r has come into an index if it is a definition
pub record RowEntered (S T heads links : List ℕ) (r : ℕ) (heads' links' : List ℕ) : Type 0 where
  pub told : (rs : List ℕ) → RowIndex S T heads links rs → Free itself r rs → RowIndex S T heads' links' (with_row T r rs)

-- row r is no definition, or has a name that is no built-in's and clashes with none of the rows rs
abbrev pub clear_in : List ℕ → List ℕ → ℕ → List ℕ → Bool
clear_in S T r rs = not (is_definition T r) || (all (λ y. not (clash (name_of S T r) y)) built_ins && fresh_in S T (name_of S T r) rs)

-- b tells so of the definitions after row r, to which links lead
pub record DefinitionApart (S T links : List ℕ) (r : ℕ) (b : Bool) : Type 0 where
  pub told : (rs : List ℕ) → Linked itself (row_hash S T) links (with_row T r rs) → length rs ≤ length links → b ≡ clear_in S T r rs

-- rule 6 in two parts: definitions and built-ins share one set of names, and so do the children of each row
abbrev pub definitions_clear : List ℕ → List ℕ → Bool
definitions_clear S T = apart clash (definition_names S T) && no_clash (definition_names S T) built_ins

abbrev pub children_apart : List ℕ → List ℕ → Bool
children_apart S T = every_row T (λ r. apart clash (names_of S T (children T r)))
