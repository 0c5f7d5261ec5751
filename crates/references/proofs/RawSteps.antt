-- Raw rows resolved one after the other: those below a row have their links, the others are raw; and every name is found exactly where all refer.
-- By the number of rows; inside a row by `row_step`.
use Prim.Native.Nat.{ℕ, zero, suc, ◌+◌, ◌*◌, ◌≤◌, ◌<◌}
use mathlib.Core.Path.{◌≡◌, refl, sym, ap, ap₂, ◌∙◌}
use mathlib.Core.Bool.{Bool, true, false, ◌&&◌, and_assoc, and-true}
use mathlib.Core.List.{List, [], ◌∷◌, ◌++◌, map, append_assoc, append-nil}
use mathlib.Core.Option.{none, some}
use native.Mathlib.Omega.{arith}
use lib.ListN.{length, get_or, take, drop, take-append-drop, drop_of_length-le}
use lib.Seq.{length-take-le, take-suc, drop-cons, take_all}
use Rattle.grammar.specs.Limits.{schema_bytes, row_words}
use Rattle.grammar.specs.Notation.{all}
use Rattle.rules.specs.Values.{if_absent}
use Rattle.rules.specs.Definitions.{Name, Data, Body, Definition}
use Rattle.rules.specs.Definitions.Data.{inline, named}
use Rattle.rules.specs.Definitions.Body.{enum, struct, union, alternate, command}
use Rattle.rules.specs.SchemaTable.{inline_members, struct_link, type_named, type_refers, is_struct_name, data_refers, refers, all_refer}
use Rattle.rules.specs.Serving.RawTable.{packed, raw_from, EveryName, Spans}
use Rattle.rules.specs.Rows as Rows
use Rattle.rules.specs.Serving.Cells.{Entry, blank, inline_entries, own_entry, child_entries, entries, words_of, words_from, owns, EntryNames}
use Rattle.rules.specs.Serving.Cells.Entry.{value_row, member_row, branch_row, alternative_row}
use Rattle.rules.proofs.Cells.{table-words, length-words, words_append, entry_names, every-at, entries-follow}
use Rattle.rules.proofs.CellRows.{Behind, owns-is}
use Rattle.rows.proofs.ListLaws.{all_append, all_map}
use Rattle.references.specs.Steps.{put_row, found_row, put_rows, found_rows}
use Rattle.references.proofs.RawWords.{raw_discriminator, all-behind}
use Rattle.references.proofs.RawRows.{link_refers, entry_refers, owns-behind, row_step}

-- rows in parts
module _ (f g : Name → ℕ) (h : ℕ → Name → ℕ) (es : List Entry) (r : ℕ) where
  pub rows_split : r ≤ length es → words_from f g h 0 es ≡ words_from f g h 0 (take r es) ++ words_from f g h r (drop r es)
  rows_split l =
      let n : length (take r es) ≡ r = length-take-le r es l in
      let z : 0 + length (take r es) ≡ r = omega arith in
      ap (words_from f g h 0) (sym (take-append-drop r es)) ∙ words_append f g h 0 (take r es) (drop r es) ∙ rw z

  pub length-below : r ≤ length es → length (words_from f g h 0 (take r es)) ≡ row_words * r
  length-below l = length-words f g h 0 (take r es) ∙ rw (length-take-le r es l)

  pub rows-from : r < length es → words_from f g h r (drop r es) ≡ words_of f g h r (get_or es r blank) ++ words_from f g h (suc r) (drop (suc r) es)
  unfolding words_from
  rows-from l = rw (drop-cons es r blank l)

  pub rows-below : r < length es → words_from f g h 0 (take (suc r) es) ≡ words_from f g h 0 (take r es) ++ words_of f g h r (get_or es r blank)
  unfolding words_from
  rows-below l =
      let n : length (take r es) ≡ r = length-take-le r es (omega arith) in
      let z : 0 + length (take r es) ≡ r = omega arith in
      ap (words_from f g h 0) (take-suc es r blank l) ∙ words_append f g h 0 (take r es) (get_or es r blank ∷ []) ∙ rw (z, append-nil (words_of f g h r (get_or es r blank)))

module _ (S : List ℕ) (ds : List Definition) (short : length S ≤ schema_bytes) (spans : EveryName (Spans S) ds) where
  abbrev T : List ℕ
  T = raw_from 0 ds

  abbrev SL : Name → ℕ
  SL = struct_link S ds

  abbrev TN : Name → ℕ
  TN = type_named S ds

  abbrev es : List Entry
  es = entries ds

  pub raw-words : T ≡ words_from packed packed raw_discriminator 0 es
  unfolding raw_from
  raw-words = table-words packed packed raw_discriminator 0 ds

  -- the rows once those below row r are resolved
  abbrev halfway : ℕ → List ℕ
  halfway r = words_from SL TN raw_discriminator 0 (take r es) ++ words_from packed packed raw_discriminator r (drop r es)

  owns_half : (r : ℕ) → r < length es → Rows.owns (halfway r) r ≡ owns (get_or es r blank)
  owns_half r l =
      let k : r ≤ length es = omega arith in
      owns-behind (words_from SL TN raw_discriminator 0 (take r es)) (words_from packed packed raw_discriminator 0 (take r es)) (words_from packed packed raw_discriminator r (drop r es)) r
      (length-below SL TN raw_discriminator es r k) (length-below packed packed raw_discriminator es r k)
      ∙ ap (λ u. Rows.owns u r) (sym (rows_split packed packed raw_discriminator es r k))
      ∙ owns-is packed packed raw_discriminator es (entry_names Behind ds (all-behind S ds short spans)) (entries-follow ds blank refl) r l

  half_next : (r : ℕ) → r < length es → (put_row S T r (halfway r) ≡ halfway (suc r)) × (found_row S T r (halfway r) ≡ entry_refers S ds (get_or es r blank))
  half_next r l =
      let k : r ≤ length es = omega arith in
      let e : Entry = get_or es r blank in
      let X : List ℕ = words_from SL TN raw_discriminator 0 (take r es) in
      let Y : List ℕ = words_from packed packed raw_discriminator (suc r) (drop (suc r) es) in
      let m : halfway r ≡ X ++ (words_of packed packed raw_discriminator r e ++ Y) = ap (λ l. X ++ l) (rows-from packed packed raw_discriminator es r l) in
      let i : Rows.owns (X ++ (words_of packed packed raw_discriminator r e ++ Y)) r ≡ owns e = ap (λ u. Rows.owns u r) (sym m) ∙ owns_half r l in
      let s = row_step S ds short spans X r (length-below SL TN raw_discriminator es r k) e Y
      (every-at (EntryNames (Spans S)) blank es (entry_names (Spans S) ds spans) r l) i in
      let n : X ++ (words_of SL TN raw_discriminator r e ++ Y) ≡ halfway (suc r) =
      sym (append_assoc X (words_of SL TN raw_discriminator r e) Y) ∙ ap (λ l. l ++ Y) (sym (rows-below SL TN raw_discriminator es r l)) in
      (ap (put_row S T r) m ∙ s.0 ∙ n, ap (found_row S T r) m ∙ s.1)

  found-next : (r : ℕ) → r < length es → all (entry_refers S ds) (take (suc r) es) ≡ (all (entry_refers S ds) (take r es) && entry_refers S ds (get_or es r blank))
  found-next r l =
      ap (all (entry_refers S ds)) (take-suc es r blank l) ∙ all_append (entry_refers S ds) (take r es) (get_or es r blank ∷ [])
      ∙ ap (λ b. all (entry_refers S ds) (take r es) && b) (and-true (entry_refers S ds (get_or es r blank)))

  steps : (r : ℕ) → r ≤ length es → (put_rows S T r ≡ halfway r) × (found_rows S T r ≡ all (entry_refers S ds) (take r es))
  unfolding put_rows found_rows words_from
  steps zero l = (raw-words, refl)
  steps (suc r) l =
      let s = steps r (omega arith) in
      let n = half_next r l in
      (ap (put_row S T r) s.0 ∙ n.0, ap₂ ◌&&◌ s.1 (ap (found_row S T r) s.0 ∙ n.1) ∙ sym (found-next r l))

  -- all rows
  pub rows_resolved : (put_rows S T (length es) ≡ words_from SL TN raw_discriminator 0 es) × (found_rows S T (length es) ≡ all (entry_refers S ds) es)
  unfolding words_from
  rows_resolved =
      let s = steps (length es) (omega arith) in
      let t : take (length es) es ≡ es = take_all (length es) es (omega arith) in
      let d : drop (length es) es ≡ [] = drop_of_length-le es {i = length es} (omega arith) in
      (s.0 ∙ rw (t, d, append-nil), s.1 ∙ ap (all (entry_refers S ds)) t)

  -- what entries refer to is what definitions do
  inline_refer : (b : Data) → (link_refers S ds b && all (entry_refers S ds) (inline_entries (inline_members b))) ≡ data_refers S ds b
  inline_refer (inline ms) = all_map member_row (entry_refers S ds) ms
  inline_refer (named n) = and-true (is_struct_name S ds n)

  body-refers : (n : Name) (b : Body) → all (entry_refers S ds) (own_entry n b ∷ child_entries b) ≡ refers S ds b
  body-refers n (enum vs) = all_map value_row (entry_refers S ds) vs ∙ pass vs
    where
      pass : (vs : List Name) → all (λ v. true) vs ≡ true
      pass [] = refl
      pass (v ∷ vs) = pass vs
  body-refers n (struct b ms) = ap (λ t. if_absent true (is_struct_name S ds) b && t) (all_map member_row (entry_refers S ds) ms)
  body-refers n (union b discriminator bs) =
      ap (λ t. link_refers S ds b && t) (all_append (entry_refers S ds) (inline_entries (inline_members b)) (map branch_row bs))
      ∙ sym (and_assoc (link_refers S ds b) (all (entry_refers S ds) (inline_entries (inline_members b))) (all (entry_refers S ds) (map branch_row bs)))
      ∙ ap₂ ◌&&◌ (inline_refer b) (all_map branch_row (entry_refers S ds) bs)
  body-refers n (alternate alts) = all_map alternative_row (entry_refers S ds) alts
  body-refers n (command none t oob) = and-true (if_absent true (type_refers S ds) t)
  body-refers n (command (some a) t oob) =
      swap (link_refers S ds a) (if_absent true (type_refers S ds) t) (all (entry_refers S ds) (inline_entries (inline_members a))) ∙ ap (λ b. b && if_absent true (type_refers S ds) t) (inline_refer a)
    where
      swap : (a b c : Bool) → ((a && b) && c) ≡ ((a && c) && b)
      swap true true true = refl
      swap true true false = refl
      swap true false true = refl
      swap true false false = refl
      swap false b c = refl

  all_refer_lem : (ys : List Definition) → all (entry_refers S ds) (entries ys) ≡ all (λ (d : Definition). refers S ds d.body) ys
  unfolding entries
  all_refer_lem [] = refl
  all_refer_lem (d ∷ ys) =
      all_append (entry_refers S ds) (own_entry d.name d.body ∷ child_entries d.body) (entries ys)
      ∙ ap₂ ◌&&◌ (body-refers d.name d.body) (all_refer_lem ys)

  pub names_found : found_rows S T (length es) ≡ all_refer S ds
  unfolding all_refer
  names_found = rows_resolved.1 ∙ all_refer_lem ds
