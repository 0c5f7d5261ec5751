-- Reference, Sound tables: when a table, any words, is sound over schema bytes, any bytes.
use Rattle.std.specs.Prelude.{ℕ, zero, suc, ◌+◌, ◌-◌, ◌%◌, Bool, not, ◌&&◌, ◌||◌, List, [], ◌∷◌, eqb, ltb, leb, get_or, length}
use Rattle.grammar.specs.Limits.{row_words, table_rows, schema_bytes}
use Rattle.grammar.specs.Notation.{all}
use Rattle.rules.specs.Types.{first_row, is_built_in}
use Rattle.rules.specs.Kinds.{member_kind, branch_kind, alternative_kind}
use Rattle.rules.specs.Rows.{up_from, row_count, word, kind, start, size, is_enum, is_struct, is_union, is_alternate, is_command, base, type_ref, array_mark, optional, union_base, discriminator, branch_struct, data_struct, allow_oob, returns, returns_array, next, unnamed, owns, children, past_children}
use Rattle.rules.specs.Rules.{every_row, is_definition, good_names, distinct_names, good_chains, good_unions, good_alternates, good_returns}

module _ (T : List ℕ) where
  -- every child is of the kind that belongs to its row: kind 2 to 1, 4 to 3, 6 to 5, 8 to 7
  abbrev pub children_fit : ℕ → Bool
  children_fit r = all (λ c. eqb (kind T c) (suc (kind T r))) (children T r)

  -- so are those of its inline struct, if it has one
  abbrev pub inline_fits : ℕ → Bool
  inline_fits r = not (owns T r) || children_fit (next T r)

  -- at row r begins a definition, followed by its inline struct, if it has one, and its children
  abbrev pub definition_at : ℕ → Bool
  definition_at r = is_definition T r && inline_fits r && children_fit r

  -- the rows from r on fall into at most n definitions
  unfoldable pub laid_out : ℕ → ℕ → Bool
  laid_out zero r = eqb r (row_count T)
  laid_out (suc n) r = eqb r (row_count T) || definition_at r && laid_out n (past_children T r)

  -- how many words each kind uses, from kind 1 on; the words after them are 0
  abbrev pub words_used : ℕ → ℕ
  words_used k = get_or (0 ∷ 4 ∷ 3 ∷ 5 ∷ 6 ∷ 6 ∷ 4 ∷ 4 ∷ 4 ∷ 7 ∷ []) k 0

  abbrev pub rest_zero : ℕ → Bool
  rest_zero r = all (λ i. eqb (word T r i) 0) (up_from (words_used (kind T r)) (row_words - words_used (kind T r)))

  abbrev pub is_flag : ℕ → Bool
  is_flag n = leb n 1

  -- a link to a struct that has a name; only its owner refers to an inline struct
  abbrev pub to_struct : ℕ → Bool
  to_struct link = ltb 0 link && is_struct T (link - 1) && not (unnamed T (link - 1))

  -- a reference to a built-in, or to the row of a type that has a name
  abbrev pub to_type : ℕ → Bool
  to_type t =
      is_built_in t
      || leb first_row t && (is_enum T (t - first_row) || is_struct T (t - first_row) || is_union T (t - first_row) || is_alternate T (t - first_row)) && not (unnamed T (t - first_row))

  -- Every reference is to a row of a fitting kind, 0 only for a struct's base, a command's data or its return; flags are 0 or 1. Kind by kind:
  abbrev pub struct_linked : ℕ → Bool
  struct_linked r = eqb (base T r) 0 || to_struct (base T r)

  unfoldable pub member_linked : ℕ → Bool
  member_linked r = to_type (type_ref T r) && is_flag (array_mark T r) && is_flag (optional T r)

  unfoldable pub union_linked : ℕ → Bool
  union_linked r = (owns T r || to_struct (union_base T r)) && ltb 0 (discriminator T r) && eqb (kind T (discriminator T r - 1)) member_kind

  unfoldable pub data_linked : ℕ → Bool
  data_linked r = eqb (data_struct T r) 0 || owns T r || to_struct (data_struct T r)

  unfoldable pub command_linked : ℕ → Bool
  command_linked r =
      data_linked r && is_flag (allow_oob T r)
      && (eqb (returns T r) 0 && eqb (returns_array T r) 0 || to_type (returns T r) && is_flag (returns_array T r))

  abbrev pub references_fit : ℕ → Bool
  references_fit r =
      (not (is_struct T r) || struct_linked r) && (not (eqb (kind T r) member_kind) || member_linked r) && (not (is_union T r) || union_linked r)
      && (not (eqb (kind T r) branch_kind) || to_struct (branch_struct T r)) && (not (eqb (kind T r) alternative_kind) || to_type (type_ref T r))
      && (not (is_command T r) || command_linked r)

-- The words are whole rows, not too many; names lie within the schema, which is not too long; the rows are laid out and refer as they should, and the rules of numbers 5 to 11 hold of them.
unfoldable pub sound : List ℕ → List ℕ → Bool
sound S T =
    eqb (length T % row_words) 0 && leb (row_count T) table_rows && leb (length S) schema_bytes
    && every_row T (λ r. leb (start T r + size T r) (length S))
    && laid_out T (row_count T) 0 && every_row T (λ r. rest_zero T r && references_fit T r)
    && good_names S T && distinct_names S T && good_chains S T && good_unions S T && good_alternates S T && good_returns S T
