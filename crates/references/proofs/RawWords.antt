-- What the words of raw rows name: a name's word is looked up as the name is among the definitions.
-- The idea: a name that stands within the schema, behind a quote, is shorter than a schema, so that its word gives back start and size.
use Prim.Native.Nat.{ℕ, ◌+◌, ◌/◌, ◌%◌, ◌≤◌}
use mathlib.Core.Path.{◌≡◌, refl, sym, ap, ◌∙◌}
use mathlib.Core.Bool.{Bool, true, false}
use mathlib.Core.List.{List, [], ◌∷◌}
use mathlib.Core.Option.{Option, none, some}
use native.Mathlib.Omega.{arith}
use lib.Dec.{ltb}
use lib.ListN.{length}
use borrow.Author.Tests.{ne_eqb}
use Rattle.grammar.specs.Limits.{schema_bytes}
use Rattle.rules.specs.Types.{built_ins}
use Rattle.rules.specs.Values.{if_absent}
use Rattle.rules.specs.Definitions.{Name, Body, Definition}
use Rattle.rules.specs.Definitions.Body.{enum, struct, union, alternate, command}
use Rattle.rules.specs.SchemaTable.{row_kind, defines_type, rows_taken, bytes_of, find_from, place_in, reference, struct_link, type_named, is_type_name, is_struct_name}
use Rattle.rules.specs.Serving.RawTable.{packed, raw_from, IfThere, EveryName, Spans}
use Rattle.rules.proofs.Cells.{names_weaken}
use Rattle.rules.proofs.CellRows.{Behind}
use Rattle.rules.proofs.CellFinds.{find-is}
use Rattle.table.specs.Definitions.{definition_rows}
use Rattle.references.specs.Lookups.{name_in, fitting, find_row, word_refers, found}

-- discriminators as raw rows have them
abbrev pub raw_discriminator : ℕ → Name → ℕ
raw_discriminator r n = packed n

module _ (S : List ℕ) (short : length S ≤ schema_bytes) (n : Name) (s : Spans S n) where
  packed_start : packed n / schema_bytes ≡ n.start
  packed_start = omega (arith, s.behind, s.within)

  packed-size : packed n % schema_bytes ≡ n.size
  packed-size = omega (arith, s.behind, s.within)

  pub packed-name : name_in S (packed n) ≡ bytes_of S n
  packed-name = rw (packed_start, packed-size)

  pub packed-some : packed n ≡ 0 → ⊥
  packed-some e = omega (arith, s.behind)

-- definitions that pass the same tests
find-same : (S x : List ℕ) (f g : Body → Bool) → ((b : Body) → f b ≡ g b) → (r : ℕ) (ds : List Definition) → find_from S f x r ds ≡ find_from S g x r ds
find-same S x f g e r [] = refl
find-same S x f g e r (d ∷ ds) = rw (e d.body, find-same S x f g e (r + rows_taken d.body) ds)

types_fit : (b : Body) → defines_type b ≡ fitting false (row_kind b)
types_fit (enum vs) = refl
types_fit (struct b ms) = refl
types_fit (union b discriminator bs) = refl
types_fit (alternate alts) = refl
types_fit (command a t oob) = refl

-- words of a raw table
module _ (S : List ℕ) (ds : List Definition) (short : length S ≤ schema_bytes) (spans : EveryName (Spans S) ds) where
  pub all-behind : EveryName Behind ds
  all-behind = names_weaken (λ n s. s.behind) ds spans

  row-found : (structs : Bool) (x : List ℕ) → find_row S (raw_from 0 ds) structs x ≡ find_from S (λ b. fitting structs (row_kind b)) x 0 ds
  unfolding find_row raw_from definition_rows
  row-found structs x = sym (find-is packed packed raw_discriminator ds all-behind S (fitting structs) x)

  struct-word : (n : Name) → Spans S n → word_refers S (raw_from 0 ds) true (packed n) ≡ struct_link S ds n
  unfolding word_refers
  struct-word n s = rw (ne_eqb (packed n) 0 (packed-some S short n s), packed-name S short n s) (row-found true (bytes_of S n))

  type_word : (n : Name) → Spans S n → word_refers S (raw_from 0 ds) false (packed n) ≡ type_named S ds n
  unfolding word_refers
  type_word n s =
      rw (ne_eqb (packed n) 0 (packed-some S short n s), packed-name S short n s)
      (ap (reference (place_in built_ins (bytes_of S n)))
      (row-found false (bytes_of S n) ∙ sym (find-same S (bytes_of S n) defines_type (λ b. fitting false (row_kind b)) types_fit 0 ds)))

  -- a word becomes what it refers to, and whether this is found
  abbrev pub Becomes : Bool → ℕ → ℕ → Bool → Type 0
  Becomes structs w v b = (word_refers S (raw_from 0 ds) structs w ≡ v) × (found w v ≡ b)

  found_word : (n : Name) (v : ℕ) → Spans S n → found (packed n) v ≡ ltb 0 v
  found_word n v s = rw (ne_eqb (packed n) 0 (packed-some S short n s))

  pub struct_becomes : (n : Name) → Spans S n → Becomes true (packed n) (struct_link S ds n) (is_struct_name S ds n)
  struct_becomes n s = (struct-word n s, found_word n (struct_link S ds n) s)

  pub type_becomes : (n : Name) → Spans S n → Becomes false (packed n) (type_named S ds n) (is_type_name S ds n)
  type_becomes n s = (type_word n s, found_word n (type_named S ds n) s)

  pub none_becomes : (structs : Bool) → Becomes structs 0 0 true
  unfolding word_refers
  none_becomes structs = (refl, refl)

  pub if_becomes : {A : Type 0} (P : A → Type 0) (structs : Bool) (w v : A → ℕ) (b : A → Bool) → ((x : A) → P x → Becomes structs (w x) (v x) (b x))
      → (o : Option A) → IfThere P o → Becomes structs (if_absent 0 w o) (if_absent 0 v o) (if_absent true b o)
  if_becomes P structs w v b k none p = none_becomes structs
  if_becomes P structs w v b k (some x) p = k x p
