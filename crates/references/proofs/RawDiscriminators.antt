-- Discriminators put one after the other: below a row they are links, from it on raw words; in the end the rows are the table.
-- The idea: what a link is looked for in does not depend on discriminators, so that it is the same at every step.
use Prim.Native.Nat.{ℕ, zero, suc, ◌+◌, ◌*◌, ◌≤◌, ◌<◌, ◌^◌}
use mathlib.Core.Path.{◌≡◌, refl, sym, ap, ap₂, ◌∙◌, subst}
use mathlib.Core.Bool.{false, cond}
use mathlib.Core.List.{List, ◌++◌}
use native.Mathlib.Omega.{arith}
use lib.Dec.{eqb, ltb}
use lib.ListN.{length, get_or, set, take, drop}
use lib.Seq.{length-take-le}
use borrow.Author.Tests.{lt-ltb, le-ltb, eqb-false}
use Rattle.grammar.specs.Limits.{schema_bytes, chain_structs, row_words}
use Rattle.rules.specs.Kinds.{union_kind}
use Rattle.rules.specs.Definitions.{Name, Data, Definition}
use Rattle.rules.specs.SchemaTable.{bytes_of, member_in_chain, struct_link, type_named, without_discriminators, discriminator_link, table}
use Rattle.rules.specs.Serving.RawTable.{packed, EveryName, Spans}
use Rattle.rules.specs.Rows.{row_count, kind, members, union_base}
use Rattle.rules.specs.Serving.Cells.{Entry, blank, entries, words_of, words_from, entry_kind, EntryNames}
use Rattle.rules.specs.Serving.Cells.Entry.{enum_row, alternate_row, value_row, struct_row, inline_row, member_row, union_row, branch_row, alternative_row, command_row}
use Rattle.rules.proofs.Cells.{table-words, entry_names, every-at}
use Rattle.rules.proofs.CellRows.{word-is, kind-is, rows_are}
use Rattle.rules.proofs.CellDiscriminators.{Alike, alike_members, alike_found, SameDiscriminator, same-words, same_rows, union-words, words_alike, link-there}
use Rattle.references.specs.NamedWords.{owner_word, discriminator_word}
use Rattle.references.specs.Lookups.{name_in}
use Rattle.references.specs.Discriminators.{narrow, discriminator_found, put_discriminator, put_discriminators}
use Rattle.references.proofs.DiscriminatorLaws.{narrow-fits, union-put, other-put}
use Rattle.references.proofs.RawWords.{raw_discriminator, packed-name, all-behind}
use Rattle.references.proofs.RawRows.{set-behind}
use Rattle.references.proofs.RawSteps.{rows_split, length-below, rows-from}

module _ (S : List ℕ) (ds : List Definition) (short : length S ≤ schema_bytes) (spans : EveryName (Spans S) ds) (few : row_words * length (entries ds) < 2 ^ 32) where
  abbrev SL : Name → ℕ
  SL = struct_link S ds

  abbrev TN : Name → ℕ
  TN = type_named S ds

  abbrev DL : ℕ → Name → ℕ
  DL = discriminator_link S ds

  abbrev es : List Entry
  es = entries ds

  -- what discriminators are once those below row r are links
  abbrev mixed : ℕ → ℕ → Name → ℕ
  mixed r j n = cond (ltb j r) (DL j n) (packed n)

  mixed-below : (r j : ℕ) (n : Name) → j < r → mixed r j n ≡ DL j n
  mixed-below r j n l = rw (lt-ltb j r l)

  mixed-above : (r j : ℕ) (n : Name) → r ≤ j → mixed r j n ≡ packed n
  mixed-above r j n l = rw (le-ltb j r l)

  abbrev U : ℕ → List ℕ
  U r = words_from SL TN (mixed r) 0 es

  -- the link found at any step
  small-link : (r : ℕ) (discriminator : Name) → DL r discriminator < 2 ^ 32
  small-link r discriminator =
      let n : row_count (without_discriminators S ds) ≡ length es = ap row_count (table-words SL TN (λ _ _. 0) 0 ds) ∙ rows_are SL TN (λ _ _. 0) es in
      omega (arith, link-there SL TN (λ _ _. 0) ds (all-behind S ds short spans) S (bytes_of S discriminator) chain_structs (union_base (without_discriminators S ds) r))

  without_alike : (r : ℕ) → Alike (U r) (without_discriminators S ds)
  without_alike r = rw (table-words SL TN (λ _ _. 0) 0 ds) (words_alike SL TN (mixed r) (λ _ _. 0) es)

  discriminator_at : (r : ℕ) (discriminator : Name) → Spans S discriminator → get_or (U r) (row_words * r + discriminator_word) 0 ≡ packed discriminator → discriminator_found S r (U r) ≡ DL r discriminator
  unfolding discriminator_found
  discriminator_at r discriminator s p =
      let a = without_alike r in
      let b : union_base (U r) r ≡ union_base (without_discriminators S ds) r = a.same_word r owner_word (omega arith) in
      let z : member_in_chain S (U r) (name_in S (get_or (U r) (row_words * r + discriminator_word) 0)) (members (U r) chain_structs (union_base (U r) r)) ≡ DL r discriminator =
      ap (λ w. member_in_chain S (U r) (name_in S w) (members (U r) chain_structs (union_base (U r) r))) p
      ∙ ap₂ (member_in_chain S (U r)) (packed-name S short discriminator s) (alike_members a chain_structs (union_base (U r) r) ∙ ap (members (without_discriminators S ds) chain_structs) b)
      ∙ alike_found a S (bytes_of S discriminator) (members (without_discriminators S ds) chain_structs (union_base (without_discriminators S ds) r)) in
      ap narrow z ∙ sym (narrow-fits (DL r discriminator) (small-link r discriminator))

  -- one row: the rows before and after it stay
  module _ (r : ℕ) (l : r < length es) where
    abbrev A : ℕ → List ℕ
    A q = words_from SL TN (mixed q) 0 (take r es)

    abbrev B : ℕ → List ℕ
    B q = words_from SL TN (mixed q) (suc r) (drop (suc r) es)

    parts : (q : ℕ) → U q ≡ A q ++ (words_of SL TN (mixed q) r (get_or es r blank) ++ B q)
    parts q = rows_split SL TN (mixed q) es r (omega arith) ∙ ap (λ w. A q ++ w) (rows-from SL TN (mixed q) es r l)

    before : A r ≡ A (suc r)
    before =
        let k : length (take r es) ≡ r = length-take-le r es (omega arith) in
        same_rows SL TN (mixed r) (mixed (suc r)) 0 (take r es) (λ j a b n. mixed-below r j n (omega arith) ∙ sym (mixed-below (suc r) j n (omega arith)))

    after : B r ≡ B (suc r)
    after = same_rows SL TN (mixed r) (mixed (suc r)) (suc r) (drop (suc r) es) (λ j a b n. mixed-above r j n (omega arith) ∙ sym (mixed-above (suc r) j n a))

    kind-there : (e : Entry) → get_or es r blank ≡ e → entry_kind e ≡ kind (U r) r
    kind-there e p = sym (kind-is SL TN (mixed r) es r l ∙ ap entry_kind p)

    join : (e : Entry) → get_or es r blank ≡ e → (W : List ℕ) → W ≡ A r ++ (words_of SL TN (mixed (suc r)) r e ++ B r) → W ≡ U (suc r)
    join e p W q = q ∙ ap₂ (λ a b. a ++ (words_of SL TN (mixed (suc r)) r e ++ b)) before after ∙ sym (parts (suc r) ∙ ap (λ x. A (suc r) ++ (words_of SL TN (mixed (suc r)) r x ++ B (suc r))) p)

    no_union : (e : Entry) → get_or es r blank ≡ e → eqb (entry_kind e) union_kind ≡ false → SameDiscriminator SL TN (mixed r) (mixed (suc r)) r e → put_discriminator S r (U r) ≡ U (suc r)
    no_union e p k t =
        sym (other-put S (U r) r (kind-there e p) (eqb-false (entry_kind e) union_kind k))
        ∙ join e p (U r) (parts r ∙ ap (λ x. A r ++ (words_of SL TN (mixed r) r x ++ B r)) p ∙ ap (λ w. A r ++ (w ++ B r)) (same-words SL TN (mixed r) (mixed (suc r)) r e t))

    union : (n : Name) (b : Data) (discriminator : Name) (c : ℕ) → get_or es r blank ≡ union_row n b discriminator c → put_discriminator S r (U r) ≡ U (suc r)
    union n b discriminator c p =
        let e : Entry = union_row n b discriminator c in
        let s : EntryNames (Spans S) e = subst (EntryNames (Spans S)) p (every-at (EntryNames (Spans S)) blank es (entry_names (Spans S) ds spans) r l) in
        let w : get_or (U r) (row_words * r + discriminator_word) 0 ≡ packed discriminator =
        word-is SL TN (mixed r) es r discriminator_word l (omega arith) ∙ ap (λ x. get_or (words_of SL TN (mixed r) r x) discriminator_word 0) p ∙ mixed-above r r discriminator (omega arith) in
        let v : mixed (suc r) r discriminator ≡ discriminator_found S r (U r) = mixed-below (suc r) r discriminator (omega arith) ∙ sym (discriminator_at r discriminator s.2 w) in
        let k : length (A r) ≡ row_words * r = length-below SL TN (mixed r) es r (omega arith) in
        sym (union-put S (U r) r (kind-there e p) refl v)
        ∙ join e p (set (U r) (row_words * r + discriminator_word) (mixed (suc r) r discriminator))
        (ap (λ u. set u (row_words * r + discriminator_word) (mixed (suc r) r discriminator)) (parts r ∙ ap (λ x. A r ++ (words_of SL TN (mixed r) r x ++ B r)) p)
        ∙ ap (λ i. set (A r ++ (words_of SL TN (mixed r) r e ++ B r)) (i + discriminator_word) (mixed (suc r) r discriminator)) (sym k)
        ∙ set-behind (A r) (words_of SL TN (mixed r) r e ++ B r) discriminator_word (mixed (suc r) r discriminator)
        ∙ ap (λ w. A r ++ w) (union-words SL TN (mixed r) (mixed (suc r)) r n b discriminator c (B r)))

    by-entry : (e : Entry) → get_or es r blank ≡ e → put_discriminator S r (U r) ≡ U (suc r)
    by-entry (enum_row n c) p = no_union (enum_row n c) p refl tt
    by-entry (alternate_row n c) p = no_union (alternate_row n c) p refl tt
    by-entry (value_row n) p = no_union (value_row n) p refl tt
    by-entry (struct_row n b c) p = no_union (struct_row n b c) p refl tt
    by-entry (inline_row c) p = no_union (inline_row c) p refl tt
    by-entry (member_row m) p = no_union (member_row m) p refl tt
    by-entry (union_row n b discriminator c) p = union n b discriminator c p
    by-entry (branch_row q) p = no_union (branch_row q) p refl tt
    by-entry (alternative_row q) p = no_union (alternative_row q) p refl tt
    by-entry (command_row n a t oob) p = no_union (command_row n a t oob) p refl tt

  -- all rows
  steps : (r : ℕ) → r ≤ length es → put_discriminators S r (words_from SL TN raw_discriminator 0 es) ≡ U r
  unfolding put_discriminators
  steps zero l = same_rows SL TN raw_discriminator (mixed 0) 0 es (λ j a b n. sym (mixed-above 0 j n (omega arith)))
  steps (suc r) l = ap (put_discriminator S r) (steps r (omega arith)) ∙ by-entry r l (get_or es r blank) refl

  pub discriminators_resolved : put_discriminators S (length es) (words_from SL TN raw_discriminator 0 es) ≡ table S ds
  unfolding table
  discriminators_resolved =
      steps (length es) (omega arith) ∙ same_rows SL TN (mixed (length es)) DL 0 es (λ j a b n. mixed-below (length es) j n (omega arith)) ∙ sym (table-words SL TN DL 0 ds)
