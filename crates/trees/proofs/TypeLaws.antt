-- Types by name, from the words and the tests that led there, and how long they are.
use Prim.Native.Nat.{ℕ, zero, suc, ◌-◌, ◌≤◌, ◌<◌}
use native.Mathlib.Omega.{arith}
use mathlib.Core.Path.{◌≡◌, refl, sym, ap, ◌∙◌}
use mathlib.Core.Bool.{Bool, true, false}
use mathlib.Core.List.{List, [], ◌∷◌, ◌++◌}
use lib.Dec.{ltb}
use lib.ListN.{length, get_or, length-append}
use borrow.Author.Tests.{lt-ltb, le-ltb, eq-eqb, ne_eqb}
use Rattle.grammar.specs.Notation.{text}
use Rattle.grammar.proofs.TextTables.{entry-short}
use Rattle.rules.specs.Types.{built_ins, first_row}
use Rattle.rules.specs.Kinds.{struct_kind}
use Rattle.rules.specs.Rows.{kind, is_struct, name_of}
use Rattle.trees.specs.Escapes.{shown}
use Rattle.trees.specs.Typing.{built_in_names, row_text, row_name, type_name, type_text}
use Rattle.trees.specs.Serving.Rooms.{shown_room, type_room}
use Rattle.trees.proofs.ShownLaws.{shown_length}

pub built_in_named : (t : ℕ) → (t ≡ 0 → ⊥) → get_or built_in_names t [] ≡ get_or built_ins (t - 1) []
built_in_named zero h = absurd (h refl)
built_in_named (suc t) h = let e : t ≡ suc t - 1 = omega arith in ap (λ (i : ℕ). get_or built_ins i []) e

-- no name of a built-in type has more than six bytes
pub built_in_length : (t : ℕ) → length (get_or built_in_names t []) ≤ 6
built_in_length t = entry-short 6 built_in_names t refl

-- a row by its name, or without one
named : (t : Bool) (n : List ℕ) → (length n ≡ 0 → ⊥) → row_text t n ≡ shown n
named t [] h = absurd (h refl)
named t (b ∷ n) h = refl

no_name : (t : Bool) (n : List ℕ) → length n ≡ 0 → row_text t n ≡ row_text t []
no_name t [] h = refl
no_name t (b ∷ n) h = let y : suc (length n) ≡ 0 = h in absurd (omega arith)

module _ (S T : List ℕ) (r : ℕ) where
  pub row_named : (length (name_of S T r) ≡ 0 → ⊥) → row_name S T r ≡ shown (name_of S T r)
  unfolding row_name
  row_named h = named (is_struct T r) (name_of S T r) h

  pub row_inline : length (name_of S T r) ≡ 0 → kind T r ≡ struct_kind → row_name S T r ≡ text "(inline)"
  unfolding row_name
  row_inline h s = no_name (is_struct T r) (name_of S T r) h ∙ ap (λ (t : Bool). row_text t []) (eq-eqb (kind T r) struct_kind s)

  pub row_unknown : length (name_of S T r) ≡ 0 → (kind T r ≡ struct_kind → ⊥) → row_name S T r ≡ text "(unknown)"
  unfolding row_name
  row_unknown h s = no_name (is_struct T r) (name_of S T r) h ∙ ap (λ (t : Bool). row_text t []) (ne_eqb (kind T r) struct_kind s)

text_length : (t : Bool) (n : List ℕ) → length (row_text t n) ≤ shown_room
text_length true [] = omega arith
text_length false [] = omega arith
text_length t (b ∷ n) = shown_length (b ∷ n)

module _ (S T : List ℕ) (t : ℕ) where
  by_row : (b : Bool) → ltb t first_row ≡ b → type_name S T t ≡ elim b [ true ↦ get_or built_in_names t [] | false ↦ row_name S T (t - first_row) ]
  unfolding type_name
  by_row b e = ap (λ (x : Bool). elim x [ true ↦ get_or built_in_names t [] | false ↦ row_name S T (t - first_row) ]) e

  pub name_below : t < first_row → type_name S T t ≡ get_or built_in_names t []
  name_below h = by_row true (lt-ltb t first_row h)

  pub name_above : first_row ≤ t → type_name S T t ≡ row_name S T (t - first_row)
  name_above h = by_row false (le-ltb t first_row h)

  some_length : (b : Bool) → length (elim b as (λ _. List ℕ) [ true ↦ get_or built_in_names t [] | false ↦ row_name S T (t - first_row) ]) ≤ shown_room
  unfolding row_name
  some_length true = omega (arith, built_in_length t)
  some_length false = text_length (is_struct T (t - first_row)) (name_of S T (t - first_row))

  pub name_length : length (type_name S T t) ≤ shown_room
  name_length = rw (by_row (ltb t first_row) refl) (some_length (ltb t first_row))

  -- plain, or in brackets
  pub type_plain : type_text S T t 0 ≡ type_name S T t
  unfolding type_text
  type_plain = refl

  pub type_array : (f : ℕ) → (f ≡ 0 → ⊥) → type_text S T t f ≡ text "[" ++ (type_name S T t ++ text "]")
  unfolding type_text
  type_array zero h = absurd (h refl)
  type_array (suc f) h = refl

  pub type_length : (f : ℕ) → length (type_text S T t f) ≤ type_room
  unfolding type_text
  type_length zero = omega (arith, name_length)
  type_length (suc f) = omega (arith, length-append (type_name S T t) (text "]"), name_length)
