-- What the resolver does with any rows is what its contract says of raw ones.
use Prim.Native.Nat.{ℕ, ◌*◌, ◌≤◌, ◌<◌, ◌^◌}
use mathlib.Core.Path.{◌≡◌, ap, ◌∙◌}
use mathlib.Core.Bool.{Bool}
use mathlib.Core.List.{List}
use native.Mathlib.Omega.{arith}
use lib.ListN.{length}
use Rattle.grammar.specs.Limits.{schema_bytes, row_words}
use Rattle.rules.specs.Definitions.{Definition}
use Rattle.rules.specs.SchemaTable.{struct_link, type_named, table, all_refer}
use Rattle.rules.specs.Serving.RawTable.{packed, raw_from, EveryName, Spans}
use Rattle.rules.specs.Rows.{row_count}
use Rattle.rules.specs.Serving.Cells.{entries, words_from}
use Rattle.rules.proofs.Cells.{length-words}
use Rattle.rules.proofs.CellRows.{rows_are}
use Rattle.references.specs.Resolves.{Resolves}
use Rattle.references.specs.Steps.{put_rows, found_rows}
use Rattle.references.specs.Discriminators.{put_discriminators}
use Rattle.references.proofs.SlotLaws.{length-rows}
use Rattle.references.proofs.DiscriminatorLaws.{length_discriminators}
use Rattle.references.proofs.RawWords.{raw_discriminator}
use Rattle.references.proofs.RawSteps.{raw-words, rows_resolved, names_found}
use Rattle.references.proofs.RawDiscriminators.{discriminators_resolved}

module _ (S : List ℕ) (ds : List Definition) (short : length S ≤ schema_bytes) (spans : EveryName (Spans S) ds) where
  raw-count : row_count (raw_from 0 ds) ≡ length (entries ds)
  raw-count = ap row_count (raw-words S ds short spans) ∙ rows_are packed packed raw_discriminator (entries ds)

  raw_resolved : (U : List ℕ) → length (raw_from 0 ds) < 2 ^ 32 → U ≡ put_rows S (raw_from 0 ds) (row_count (raw_from 0 ds)) → put_discriminators S (row_count U) U ≡ table S ds
  raw_resolved U small p =
      let n : length (raw_from 0 ds) ≡ row_words * length (entries ds) = ap length (raw-words S ds short spans) ∙ length-words packed packed raw_discriminator 0 (entries ds) in
      let q : U ≡ words_from (struct_link S ds) (type_named S ds) raw_discriminator 0 (entries ds) = p ∙ ap (put_rows S (raw_from 0 ds)) raw-count ∙ (rows_resolved S ds short spans).0 in
      let k : row_count U ≡ length (entries ds) = ap row_count q ∙ rows_are (struct_link S ds) (type_named S ds) raw_discriminator (entries ds) in
      ap (λ i. put_discriminators S i U) k ∙ ap (put_discriminators S (length (entries ds))) q ∙ discriminators_resolved S ds short spans (omega arith)

  raw-found : found_rows S (raw_from 0 ds) (row_count (raw_from 0 ds)) ≡ all_refer S ds
  raw-found = ap (found_rows S (raw_from 0 ds)) raw-count ∙ names_found S ds short spans

pub resolves : {S T U W : List ℕ} {b : Bool} → length T < 2 ^ 32 → U ≡ put_rows S T (row_count T) → b ≡ found_rows S T (row_count T) → W ≡ put_discriminators S (row_count U) U → Resolves S T W b
resolves {S} {T} {U} small p q w = record {
  same_length = ap length w ∙ length_discriminators S U (row_count U) ∙ ap length p ∙ length-rows S T (row_count T);
  told = λ ds short spans e.
      (w ∙ raw_resolved S ds short spans U (rw (← e) small) (p ∙ ap (λ t. put_rows S t (row_count t)) e), q ∙ ap (λ t. found_rows S t (row_count t)) e ∙ raw-found S ds short spans);
}
