-- Serves contracts: what a word that names refers to, by the definitions of the table T.
use Rattle.std.specs.Prelude.{ℕ, zero, suc, ◌*◌, ◌+◌, ◌/◌, ◌%◌, ◌<◌, ◌^◌, ◌≡◌, Bool, true, false, cond, ◌||◌, List, Option, Some, None, eqb, ltb, get_or, take, drop}
use Rattle.grammar.specs.Limits.{schema_bytes, row_words}
use Rattle.rules.specs.Kinds.{enum_kind, struct_kind, union_kind, alternate_kind}
use Rattle.rules.specs.Types.{built_ins}
use Rattle.rules.specs.SchemaTable.{place_in, reference}
use Rattle.rules.specs.Serving.Cells.{first_link, is_named}
use Rattle.builtins.specs.Names.{if_any}
use Rattle.table.specs.Definitions.{definition_rows, DefinitionIndex}

-- the bytes of the name that a word names (rules RawTable `packed`)
abbrev pub name_in : List ℕ → ℕ → List ℕ
name_in S w = take (w % schema_bytes) (drop (w / schema_bytes) S)

-- the kinds of rows that are meant: structs alone, or all types
abbrev pub fitting : Bool → ℕ → Bool
fitting true k = eqb k struct_kind
fitting false k = eqb k enum_kind || eqb k struct_kind || eqb k union_kind || eqb k alternate_kind

-- the link of the first definition of T that fits and has the name x
unfoldable pub find_row : List ℕ → List ℕ → Bool → List ℕ → ℕ
find_row S T structs x = first_link (is_named S T (fitting structs) x) (definition_rows T)

-- a name as a struct, and as a type
abbrev pub refers_to : List ℕ → List ℕ → Bool → List ℕ → ℕ
refers_to S T true x = find_row S T true x
refers_to S T false x = reference (place_in built_ins x) (find_row S T false x)

-- a word that may name
unfoldable pub word_refers : List ℕ → List ℕ → Bool → ℕ → ℕ
word_refers S T structs w = cond (eqb w 0) 0 (refers_to S T structs (name_in S w))

-- it names nothing, or something
abbrev pub found : ℕ → ℕ → Bool
found w v = eqb w 0 || ltb 0 v

-- the rows U have the kinds and names of T
pub record Heads (T U : List ℕ) : Type 0 where
  pub same_head : (r i : ℕ) → i < 3 → get_or U (row_words * r + i) 0 ≡ get_or T (row_words * r + i) 0

-- the row of a link, if it is one
abbrev pub row_of : ℕ → Option ℕ
row_of zero = None
row_of (suc r) = Some r

-- Answers over rows U that have the heads of T, whose definitions the index has: a definition's row, a link or a reference.
pub record Finds (S U heads links : List ℕ) (structs : Bool) (x : List ℕ) (r : Option ℕ) : Type 0 where
  pub small : (i : ℕ) → r ≡ Some i → i < 2 ^ 29
  pub told : (T : List ℕ) → DefinitionIndex S T heads links → Heads T U → r ≡ row_of (find_row S T structs x)

pub record Refers (S U heads links : List ℕ) (structs : Bool) (w : ℕ) (r : Option ℕ) : Type 0 where
  pub told : (T : List ℕ) → DefinitionIndex S T heads links → Heads T U → r ≡ if_any (word_refers S T structs w)
