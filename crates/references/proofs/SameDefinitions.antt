-- Raw rows and the table they become have the same definitions by the same names, so an index of the one is an index of the other.
-- The idea: rows of entries differ in the words that references become, and in these alone.
use Prim.Native.Nat.{ℕ, ◌≤◌, ◌<◌}
use mathlib.Core.Path.{◌≡◌, refl, sym, ap, ◌∙◌, subst}
use mathlib.Core.Bool.{Bool, true, false}
use mathlib.Core.List.{List}
use lib.Dec.{ltb}
use lib.ListN.{length}
use borrow.Author.Tests.{ltb-true, ltb-false}
use Rattle.rules.specs.Definitions.{Name, Definition}
use Rattle.rules.specs.SchemaTable.{table_from, struct_link, type_named, discriminator_link, table}
use Rattle.rules.specs.Serving.RawTable.{packed, raw_from, EveryName}
use Rattle.rules.specs.Rows.{row_count, name_of}
use Rattle.rules.specs.Serving.Cells.{Entry, entries, words_from}
use Rattle.rules.proofs.Cells.{table-words}
use Rattle.rules.proofs.CellRows.{Behind, rows_are, word-past, name-is}
use Rattle.rules.proofs.CellFinds.{definition_rows_lem}
use Rattle.buckets.specs.Buckets.{Linked}
use Rattle.buckets.proofs.BucketLaws.{linked_alike}
use Rattle.rows.specs.Hashes.{hash_of}
use Rattle.rows.specs.Index.{itself, row_hash}
use Rattle.table.specs.Definitions.{definition_rows, DefinitionLinks}

module _ (f g f' g' : Name → ℕ) (h h' : ℕ → Name → ℕ) where
  names_alike : (S : List ℕ) (es : List Entry) (r : ℕ) → name_of S (words_from f g h 0 es) r ≡ name_of S (words_from f' g' h' 0 es) r
  unfolding name_of
  names_alike S es r = go (ltb r (length es)) refl
    where
      go : (b : Bool) → ltb r (length es) ≡ b → name_of S (words_from f g h 0 es) r ≡ name_of S (words_from f' g' h' 0 es) r
      go true e = let l : r < length es = ltb-true r (length es) e in name-is f g h es r l S ∙ sym (name-is f' g' h' es r l S)
      go false e =
          let l : length es ≤ r = ltb-false r (length es) e in
          rw (word-past f g h es r 1 l, word-past f g h es r 2 l, word-past f' g' h' es r 1 l, word-past f' g' h' es r 2 l)

  module _ (S links : List ℕ) (ds : List Definition) (p : EveryName Behind ds) where
    links_alike : DefinitionLinks S (table_from f g h 0 ds) links → DefinitionLinks S (table_from f' g' h' 0 ds) links
    unfolding definition_rows
    links_alike k = record {
      room = rw rows k.room;
      linked =
          subst (Linked itself (row_hash S (table_from f' g' h' 0 ds)) links) (definition_rows_lem f g h ds p ∙ sym (definition_rows_lem f' g' h' ds p)) (linked_alike hashes itself links (definition_rows (table_from f g h 0 ds)) k.linked);
    }
      where
        rows : row_count (table_from f' g' h' 0 ds) ≡ row_count (table_from f g h 0 ds)
        rows = rw (table-words f g h 0 ds, table-words f' g' h' 0 ds) (rows_are f' g' h' (entries ds) ∙ sym (rows_are f g h (entries ds)))

        hashes : (r : ℕ) → row_hash S (table_from f g h 0 ds) r ≡ row_hash S (table_from f' g' h' 0 ds) r
        hashes r = ap hash_of (rw (table-words f g h 0 ds, table-words f' g' h' 0 ds) (names_alike S (entries ds) r))

pub table_links : {S raw new links : List ℕ} (ds : List Definition) → EveryName Behind ds → raw ≡ raw_from 0 ds → new ≡ table S ds → DefinitionLinks S raw links → DefinitionLinks S new links
unfolding raw_from table
table_links {S} {links = links} ds behind p q k =
    subst (λ (T : List ℕ). DefinitionLinks S T links) (sym q)
    (links_alike packed packed (struct_link S ds) (type_named S ds) (λ _ n. packed n) (discriminator_link S ds) S links ds behind (subst (λ (T : List ℕ). DefinitionLinks S T links) p k))
