-- Serves contracts: rows resolved one after the other, in place, by the definitions of the table T; and whether each name was found.
use Rattle.std.specs.Prelude.{ℕ, zero, suc, ◌*◌, ◌+◌, ◌≡◌, Bool, true, false, cond, ◌&&◌, List, eqb, get_or, set, length}
use Rattle.grammar.specs.Limits.{row_words}
use Rattle.rules.specs.Kinds.{struct_kind, member_kind, union_kind, branch_kind, alternative_kind, command_kind}
use Rattle.rules.specs.Rows.{kind, owns}
use Rattle.table.specs.Definitions.{DefinitionIndex}
use Rattle.references.specs.NamedWords.{base_word, type_word, branch_word, owner_word, returns_word}
use Rattle.references.specs.Lookups.{word_refers, found, Heads}
use Rattle.references.specs.declared.slots.Slot.{Slot}
use Rattle.references.specs.declared.slots.Slot.TheVariants.{Word, Data, Command, Nothing}

-- what a row of kind k names, but for a discriminator
abbrev pub slot_of : ℕ → Slot
slot_of k =
    cond (eqb k struct_kind) (Word true base_word)
    (cond (eqb k member_kind) (Word false type_word)
    (cond (eqb k union_kind) Data
    (cond (eqb k branch_kind) (Word true branch_word)
    (cond (eqb k alternative_kind) (Word false type_word)
    (cond (eqb k command_kind) Command Nothing)))))

module _ (S T : List ℕ) where
  -- word k
  abbrev pub put_at : Bool → ℕ → List ℕ → List ℕ
  put_at structs k U = set U k (word_refers S T structs (get_or U k 0))

  abbrev pub found_at : Bool → ℕ → List ℕ → Bool
  found_at structs k U = found (get_or U k 0) (word_refers S T structs (get_or U k 0))

  -- the base of union r or the data of command r, unless it is inline
  unfoldable pub put_data : ℕ → List ℕ → List ℕ
  put_data r U = cond (owns U r) U (put_at true (row_words * r + owner_word) U)

  unfoldable pub found_data : ℕ → List ℕ → Bool
  found_data r U = cond (owns U r) true (found_at true (row_words * r + owner_word) U)

  -- the data and then the return of command r
  unfoldable pub put_command : ℕ → List ℕ → List ℕ
  put_command r U = put_at false (row_words * r + returns_word) (put_data r U)

  unfoldable pub found_command : ℕ → List ℕ → Bool
  found_command r U = found_data r U && found_at false (row_words * r + returns_word) (put_data r U)

  -- the words of row r that a slot is of
  abbrev pub put_slot : Slot → ℕ → List ℕ → List ℕ
  put_slot (Word structs i) r U = put_at structs (row_words * r + i) U
  put_slot Data r U = put_data r U
  put_slot Command r U = put_command r U
  put_slot Nothing r U = U

  abbrev pub found_slot : Slot → ℕ → List ℕ → Bool
  found_slot (Word structs i) r U = found_at structs (row_words * r + i) U
  found_slot Data r U = found_data r U
  found_slot Command r U = found_command r U
  found_slot Nothing r U = true

  -- row r by its kind
  unfoldable pub put_row : ℕ → List ℕ → List ℕ
  put_row r U = put_slot (slot_of (kind U r)) r U

  unfoldable pub found_row : ℕ → List ℕ → Bool
  found_row r U = found_slot (slot_of (kind U r)) r U

  -- the rows of T below row r
  unfoldable pub put_rows : ℕ → List ℕ
  put_rows zero = T
  put_rows (suc r) = put_row r (put_rows r)

  unfoldable pub found_rows : ℕ → Bool
  found_rows zero = true
  found_rows (suc r) = found_rows r && found_row r (put_rows r)

-- An answer over rows U that have the heads of T, whose definitions the index has: the rows become `new`, and b tells whether names were found.
pub record Puts (S U heads links : List ℕ) (put : List ℕ → List ℕ → List ℕ) (tells : List ℕ → List ℕ → Bool) (new : List ℕ) (b : Bool) : Type 0 where
  pub same_length : length new ≡ length U
  pub told : (T : List ℕ) → DefinitionIndex S T heads links → Heads T U → (new ≡ put T U) × (b ≡ tells T U)
