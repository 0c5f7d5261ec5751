-- Reference, Viewer: a type by name: a built-in's, or the row's in the schema. Any words, any bytes.
use Rattle.std.specs.Prelude.{ℕ, zero, suc, ◌-◌, Bool, true, false, cond, List, [], ◌∷◌, ◌++◌, ltb, get_or}
use Rattle.grammar.specs.Notation.{text}
use Rattle.rules.specs.Types.{first_row, built_ins}
use Rattle.rules.specs.Rows.{is_struct, name_of}
use Rattle.trees.specs.Escapes.{shown}

-- a row by its name; an inline struct has none, and neither has a row that isn't there
abbrev pub row_text : Bool → List ℕ → List ℕ
row_text is_struct [] = cond is_struct (text "(inline)") (text "(unknown)")
row_text is_struct (b ∷ l) = shown (b ∷ l)

unfoldable pub row_name : List ℕ → List ℕ → ℕ → List ℕ
row_name S T r = row_text (is_struct T r) (name_of S T r)

-- the type references that are to no row; the first is that of a command without data
abbrev pub built_in_names : List (List ℕ)
built_in_names = text "(none)" ∷ built_ins

unfoldable pub type_name : List ℕ → List ℕ → ℕ → List ℕ
type_name S T t = elim (ltb t first_row) [ true ↦ get_or built_in_names t [] | false ↦ row_name S T (t - first_row) ]

-- in brackets if an array: only the flag 0 is none
unfoldable pub type_text : List ℕ → List ℕ → ℕ → ℕ → List ℕ
type_text S T t zero = type_name S T t
type_text S T t (suc f) = text "[" ++ (type_name S T t ++ text "]")
