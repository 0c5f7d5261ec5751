-- One raw row resolved: its words are put, and what is found is what its entry refers to.
-- The idea: the rows before and after it stay; what the row becomes is seen by its entry, case by case.
use Prim.Native.Nat.{ℕ, suc, ◌+◌, ◌-◌, ◌*◌, ◌≤◌}
use mathlib.Core.Path.{◌≡◌, refl, sym, ap, ap₂, ◌∙◌}
use mathlib.Core.Bool.{Bool, true, false, ◌&&◌}
use mathlib.Core.List.{List, [], ◌∷◌, ◌++◌}
use mathlib.Core.Option.{Option, none, some}
use native.Mathlib.Omega.{arith}
use lib.ListN.{length, get_or, set}
use lib.Seq.{get_or-append-add, set-get_or}
use Rattle.grammar.specs.Limits.{schema_bytes, row_words}
use Rattle.rules.specs.Values.{◌>>=◌, if_absent}
use Rattle.rules.specs.Definitions.{Name, TypeText, Data, Definition}
use Rattle.rules.specs.Definitions.Data.{inline, named}
use Rattle.rules.specs.SchemaTable.{inline_members, data_link, type_of, struct_link, type_named, is_type_name, type_refers, is_struct_name}
use Rattle.rules.specs.Serving.RawTable.{packed, raw_from, IfThere, TypeNames, DataNames, EveryName, Spans}
use Rattle.rules.specs.Rows.{kind}
use Rattle.rules.specs.Rows as Rows
use Rattle.rules.specs.Serving.Cells.{Entry, words_of, is_inline, owns, EntryNames}
use Rattle.rules.specs.Serving.Cells.Entry.{enum_row, alternate_row, value_row, struct_row, inline_row, member_row, union_row, branch_row, alternative_row, command_row}
use Rattle.references.specs.NamedWords.{base_word, type_word, branch_word, owner_word, returns_word}
use Rattle.references.specs.declared.slots.Slot.TheVariants.{Word}
use Rattle.references.specs.Steps.{put_at, found_at, put_data, found_data, put_command, found_command, slot_of, put_slot, found_slot, put_row, found_row}
use Rattle.references.proofs.SlotLaws.{row_at}
use Rattle.rules.proofs.TableRows.{next-above}
use Rattle.references.proofs.RawWords.{raw_discriminator, Becomes, struct_becomes, type_becomes, none_becomes, if_becomes}

-- words behind r rows
module _ (X W : List ℕ) (r : ℕ) (n : length X ≡ row_words * r) where
  pub word-behind : (i : ℕ) → get_or (X ++ W) (row_words * r + i) 0 ≡ get_or W i 0
  word-behind i = rw (← n) (get_or-append-add X W i 0)

pub set-behind : (X W : List ℕ) (i v : ℕ) → set (X ++ W) (length X + i) v ≡ X ++ set W i v
set-behind [] W i v = let z : 0 + i ≡ i = omega arith in rw z
set-behind (x ∷ X) W i v = let z : suc (length X) + i ≡ suc (length X + i) = omega arith in rw z (ap (λ l. x ∷ l) (set-behind X W i v))

-- whatever stands before row r, the words from it on are the same, and so is whether it owns an inline struct
module _ (X Y W : List ℕ) (r : ℕ) (n : length X ≡ row_words * r) (m : length Y ≡ row_words * r) where
  word-from : (s i : ℕ) → r ≤ s → get_or (X ++ W) (row_words * s + i) 0 ≡ get_or (Y ++ W) (row_words * s + i) 0
  word-from s i h =
      let z : row_words * s + i ≡ row_words * r + (row_words * (s - r) + i) = omega arith in
      rw z (word-behind X W r n (row_words * (s - r) + i) ∙ sym (word-behind Y W r m (row_words * (s - r) + i)))

  next-behind : Rows.next (X ++ W) r ≡ Rows.next (Y ++ W) r
  unfolding Rows.next
  next-behind = refl

  pub owns-behind : Rows.owns (X ++ W) r ≡ Rows.owns (Y ++ W) r
  unfolding Rows.owns Rows.unnamed
  owns-behind =
      let s : ℕ = Rows.next (Y ++ W) r in
      let h : r ≤ s = omega (arith, next-above (Y ++ W) r) in
      rw (
        next-behind,
        word-from r 0 (omega arith),
        word-from r owner_word (omega arith),
        word-from s 0 h,
        word-from s 1 h,
        word-from s 2 h,
        word-from s base_word h,
      )

-- what an entry's own row refers to; members written out have rows of their own
module _ (S : List ℕ) (ds : List Definition) where
  abbrev pub link_refers : Data → Bool
  link_refers (inline ms) = true
  link_refers (named n) = is_struct_name S ds n

  abbrev pub entry_refers : Entry → Bool
  entry_refers (enum_row n c) = true
  entry_refers (alternate_row n c) = true
  entry_refers (value_row n) = true
  entry_refers (struct_row n b c) = if_absent true (is_struct_name S ds) b
  entry_refers (inline_row c) = true
  entry_refers (member_row m) = type_refers S ds m.type
  entry_refers (union_row n b discriminator c) = link_refers b
  entry_refers (branch_row p) = is_struct_name S ds p.type
  entry_refers (alternative_row p) = is_type_name S ds p.type
  entry_refers (command_row n a t oob) = if_absent true link_refers a && if_absent true (type_refers S ds) t

module _ (S : List ℕ) (ds : List Definition) (short : length S ≤ schema_bytes) (spans : EveryName (Spans S) ds) (X : List ℕ) (r : ℕ) (n : length X ≡ row_words * r) where
  abbrev T : List ℕ
  T = raw_from 0 ds

  abbrev SL : Name → ℕ
  SL = struct_link S ds

  abbrev TN : Name → ℕ
  TN = type_named S ds

  -- a word of the row
  put-behind : (s : Bool) (i : ℕ) (W : List ℕ) (w v : ℕ) (t : Bool) → get_or W i 0 ≡ w → Becomes S ds short spans s w v t
      → (put_at S T s (row_words * r + i) (X ++ W) ≡ X ++ set W i v) × (found_at S T s (row_words * r + i) (X ++ W) ≡ t)
  put-behind s i W w v t p q =
      let z : get_or (X ++ W) (row_words * r + i) 0 ≡ w = word-behind X W r n i ∙ p in
      (rw (z, q.0, ← n) (set-behind X W i v), rw (z, q.0) q.1)

  -- its link to a base or to data
  data_behind : (a : Option Data) (W : List ℕ) → IfThere (DataNames (Spans S)) a → get_or W owner_word 0 ≡ if_absent 0 (data_link packed r) a → Rows.owns (X ++ W) r ≡ is_inline (a >>= inline_members)
      → (put_data S T r (X ++ W) ≡ X ++ set W owner_word (if_absent 0 (data_link SL r) a)) × (found_data S T r (X ++ W) ≡ if_absent true (link_refers S ds) a)
  unfolding put_data found_data
  data_behind none W p q i = let z = put-behind true owner_word W 0 0 true q (none_becomes S ds short spans true) in (rw i z.0, rw i z.1)
  data_behind (some (named m)) W p q i =
      let z = put-behind true owner_word W (packed m) (SL m) (is_struct_name S ds m) q (struct_becomes S ds short spans m p) in (rw i z.0, rw i z.1)
  data_behind (some (inline ms)) W p q i = (rw i (ap (λ l. X ++ l) (sym (set-get_or W owner_word 0) ∙ ap (set W owner_word) q)), rw i)

  -- the row itself
  abbrev Step : Entry → List ℕ → Type 0
  Step e Y =
      (put_row S T r (X ++ (words_of packed packed raw_discriminator r e ++ Y)) ≡ X ++ (words_of SL TN raw_discriminator r e ++ Y))
      × (found_row S T r (X ++ (words_of packed packed raw_discriminator r e ++ Y)) ≡ entry_refers S ds e)

  kind-behind : (W : List ℕ) → get_or W 0 0 ≡ kind (X ++ W) r
  kind-behind W = sym (word-behind X W r n 0)

  command-behind : (d : Option Data) (t : Option TypeText) (W : List ℕ) → IfThere (DataNames (Spans S)) d → IfThere (TypeNames (Spans S)) t
      → get_or W owner_word 0 ≡ if_absent 0 (data_link packed r) d → get_or (set W owner_word (if_absent 0 (data_link SL r) d)) returns_word 0 ≡ if_absent 0 (type_of packed) t → Rows.owns (X ++ W) r ≡ is_inline (d >>= inline_members)
      → (put_command S T r (X ++ W) ≡ X ++ set (set W owner_word (if_absent 0 (data_link SL r) d)) returns_word (if_absent 0 (type_of TN) t))
      × (found_command S T r (X ++ W) ≡ (if_absent true (link_refers S ds) d && if_absent true (type_refers S ds) t))
  unfolding put_command found_command
  command-behind d t W p q a b i =
      let y = data_behind d W p a i in
      let w = if_becomes S ds short spans (TypeNames (Spans S)) false (type_of packed) (type_of TN) (type_refers S ds) (λ x. type_becomes S ds short spans x.name) t q in
      let z = put-behind false returns_word (set W owner_word (if_absent 0 (data_link SL r) d)) (if_absent 0 (type_of packed) t) (if_absent 0 (type_of TN) t) (if_absent true (type_refers S ds) t) b w in
      (ap (put_at S T false (row_words * r + returns_word)) y.0 ∙ z.0, ap₂ ◌&&◌ y.1 (ap (found_at S T false (row_words * r + returns_word)) y.0 ∙ z.1))

  -- a row of which one word names
  word-step : (W : List ℕ) (s : Bool) (i w v : ℕ) (t : Bool) → slot_of (get_or W 0 0) ≡ Word s i → get_or W i 0 ≡ w → Becomes S ds short spans s w v t
      → (put_row S T r (X ++ W) ≡ X ++ set W i v) × (found_row S T r (X ++ W) ≡ t)
  word-step W s i w v t k p q =
      let x = row_at S (X ++ W) r (kind-behind W) T in
      let y = put-behind s i W w v t p q in
      (x.0 ∙ ap (λ z. put_slot S T z r (X ++ W)) k ∙ y.0, x.1 ∙ ap (λ z. found_slot S T z r (X ++ W)) k ∙ y.1)

  pub row_step : (e : Entry) (Y : List ℕ) → EntryNames (Spans S) e → Rows.owns (X ++ (words_of packed packed raw_discriminator r e ++ Y)) r ≡ owns e → Step e Y
  row_step (enum_row m c) Y p i = row_at S (X ++ (words_of packed packed raw_discriminator r (enum_row m c) ++ Y)) r (kind-behind (words_of packed packed raw_discriminator r (enum_row m c) ++ Y)) T
  row_step (alternate_row m c) Y p i = row_at S (X ++ (words_of packed packed raw_discriminator r (alternate_row m c) ++ Y)) r (kind-behind (words_of packed packed raw_discriminator r (alternate_row m c) ++ Y)) T
  row_step (value_row m) Y p i = row_at S (X ++ (words_of packed packed raw_discriminator r (value_row m) ++ Y)) r (kind-behind (words_of packed packed raw_discriminator r (value_row m) ++ Y)) T
  row_step (struct_row m b c) Y p i =
      word-step (words_of packed packed raw_discriminator r (struct_row m b c) ++ Y) true base_word _ _ _ refl refl
      (if_becomes S ds short spans (Spans S) true packed SL (is_struct_name S ds) (struct_becomes S ds short spans) b p.1)
  row_step (inline_row c) Y p i = word-step (words_of packed packed raw_discriminator r (inline_row c) ++ Y) true base_word _ _ _ refl refl (none_becomes S ds short spans true)
  row_step (member_row m) Y p i = word-step (words_of packed packed raw_discriminator r (member_row m) ++ Y) false type_word _ _ _ refl refl (type_becomes S ds short spans m.type.name p.1)
  row_step (union_row m d discriminator c) Y p i =
      let W : List ℕ = words_of packed packed raw_discriminator r (union_row m d discriminator c) ++ Y in
      let x = row_at S (X ++ W) r (kind-behind W) T in
      let y = data_behind (some d) W p.1 refl i in
      (x.0 ∙ y.0, x.1 ∙ y.1)
  row_step (branch_row q) Y p i = word-step (words_of packed packed raw_discriminator r (branch_row q) ++ Y) true branch_word _ _ _ refl refl (struct_becomes S ds short spans q.type p.1)
  row_step (alternative_row q) Y p i = word-step (words_of packed packed raw_discriminator r (alternative_row q) ++ Y) false type_word _ _ _ refl refl (type_becomes S ds short spans q.type p.1)
  row_step (command_row m d t oob) Y p i =
      let W : List ℕ = words_of packed packed raw_discriminator r (command_row m d t oob) ++ Y in
      let x = row_at S (X ++ W) r (kind-behind W) T in
      let y = command-behind d t W p.1 p.2 refl refl i in
      (x.0 ∙ y.0, x.1 ∙ y.1)
