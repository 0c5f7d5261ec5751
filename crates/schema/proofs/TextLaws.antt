-- The first refusals: the length, the text, its keys, its definitions.
use Prim.Native.Nat.{ℕ, ◌-◌, ◌*◌, ◌≤◌, ◌<◌}
use native.Mathlib.Omega.{arith}
use mathlib.Core.Path.{◌≡◌, refl, sym, ap, ◌∙◌, subst}
use mathlib.Core.Bool.{Bool, true, false, not}
use mathlib.Core.List.{List, ◌++◌}
use mathlib.Core.Option.{none, some}
use lib.ListN.{length, take, replicate, length-replicate}
use lib.Seq.{length-take-le}
use borrow.Author.Tests.{lt-ltb, le-ltb}
use Rattle.grammar.specs.Limits.{schema_bytes, row_words}
use Rattle.text.specs.Nodes.{node_words, text_bound}
use Rattle.grammar.specs.Tree.{Items}
use Rattle.grammar.specs.SchemaText.{SchemaText}
use Rattle.grammar.specs.Keys.{keys_once_i}
use Rattle.grammar.specs.Serving.Machine.{Out}
use Rattle.grammar.specs.Serving.Machine.Out.{fault, deep}
use Rattle.grammar.specs.Serving.Machine.Schema.{schema, read_schema}
use Rattle.grammar.specs.Serving.Repeats.{first_repeat_i}
use Rattle.grammar.proofs.Repeats.{first-once-items}
use Rattle.grammar.proofs.Texts.{schema-complete, schema_broken, schema-too_deep}
use Rattle.rules.specs.declared.SchemaRefusal.TheVariants.{TooLong, NotText, RepeatedKey, NotDefinitions, BadName}
use Rattle.rules.specs.declared.SchemaAnswer.{SchemaAnswer}
use Rattle.rules.specs.declared.SchemaAnswer.TheVariants.{Refused}
use Rattle.rules.specs.Definitions.{Definition, definitions}
use Rattle.rules.specs.SchemaTable.{table, all_refer}
use Rattle.rules.specs.Serving.RawTable.{raw_from}
use Rattle.rules.specs.Serving.Answers.{rank, objects_in, fault_in, place_or0, schema_place, schema_result}
use Rattle.rules.proofs.Lists.{none-not-some}
use Rattle.rules.proofs.First.{decided}
use Rattle.rules.proofs.NameSpans.{names_within_lem}
use Rattle.definitions.specs.declared.writing.NotDefinitions.{NotDefinitions as Broken}
use Rattle.definitions.specs.Puts.{RowsPut, PutTold, PutsDefinitions}
use Rattle.table.specs.Definitions.{DefinitionIndex, DefinitionLinks}
use Rattle.table.proofs.DistinctLaws.{index_links}
use Rattle.references.specs.Resolves.{Resolves}
use Rattle.references.proofs.RawWords.{all-behind}
use Rattle.references.proofs.SameDefinitions.{table_links}
use Rattle.text.specs.Keys.{place_of, FirstRepeat}
use Rattle.std.specs.Prelude.{Option, Some, None, Result, Ok, Err}
use Rattle.text.specs.Texts.{SchemaTold, ReadsSchema}
use Rattle.text.specs.declared.reader.TextError.{TextError}
use Rattle.text.specs.declared.reader.TextError.TheVariants as Texts
use Rattle.schema.specs.Stages.{most_nodes, most_rows, objects, written, result_by, Answered, Zero, IsTable, Refers, TextRead, RawRows, Compiles}
use Rattle.schema.proofs.StageLaws.{test, stop, on}

pub cleared-length : (old : List ℕ) {mid : List ℕ} → mid ≡ take 0 old ++ replicate (length old - 0) 0 → length mid ≡ length old
cleared-length old e = let z : length old - 0 ≡ length old = omega arith in ap length e ∙ length-replicate (length old - 0) 0 ∙ z

pub cleared-zero : (old : List ℕ) {mid : List ℕ} → mid ≡ take 0 old ++ replicate (length old - 0) 0 → Zero mid
cleared-zero old e = let z : length old - 0 ≡ length old = omega arith in record { told = e ∙ ap (λ (n : ℕ). replicate n 0) (z ∙ sym (cleared-length old e)) }

module _ {S : List ℕ} where
  text-objects : {js : Items} → SchemaText S js → objects S ≡ some js
  unfolding objects
  text-objects t = rw (schema-complete t) refl

  pub text-written : {js : Items} → SchemaText S js → written S ≡ definitions js
  unfolding written objects
  text-written t = rw (schema-complete t) refl

  -- the first key that is repeated, if one is
  module _ {w : List ℕ} {count : ℕ} (t : TextRead S w count) {x : Option ℕ} (k : FirstRepeat schema S w count x) where
    pub once : x ≡ None → keys_once_i t.js ≡ true
    once e = (first-once-items t.js).0 (sym (k.told t.js _ t.holds) ∙ ap place_of e)

    found : {p : ℕ} → x ≡ Some p → first_repeat_i t.js ≡ some p
    found e = sym (k.told t.js _ t.holds) ∙ ap place_of e

    none-test : (room : ℕ) → x ≡ None → test S room RepeatedKey ≡ false
    none-test room e = rw (text-objects t.text) (ap not (once e))

    some-test : (room : ℕ) {p : ℕ} → x ≡ Some p → test S room RepeatedKey ≡ true
    some-test room e = rw (text-objects t.text) (ap not (decided (keys_once_i t.js) (λ o. none-not-some (sym ((first-once-items t.js).1 o) ∙ found e))))

    found_at : {p : ℕ} → x ≡ Some p → schema_place (read_schema S) RepeatedKey ≡ p
    found_at e = rw (schema-complete t.text) (ap place_or0 (found e))

  -- the lent words are cleared first
  pub compiled : {old mid new : List ℕ} {r : SchemaAnswer} → length mid ≡ length old → Answered S TooLong mid new r → Compiles S old new r
  unfolding result_by written objects schema_result rank
  compiled {old} {mid} {new} {r} e a = record { told = subst (λ (n : ℕ). schema_result S n ≡ record { answer = r; words = new }) e a.told }

  module _ {old : List ℕ} where
    -- the length
    pub too_long : Zero old → schema_bytes < length S → Answered S TooLong old old (Refused TooLong 0)
    too_long z h = stop TooLong refl (lt-ltb schema_bytes (length S) h) z

    pub length-on : {new : List ℕ} {r : SchemaAnswer} → length S ≤ schema_bytes → Answered S NotText old new r → Answered S TooLong old new r
    unfolding rank
    length-on h a = on TooLong refl (le-ltb schema_bytes (length S) h) a

    -- the text
    no_objects : (o : Out) {e : ℕ} → read_schema S ≡ o → objects_in o ≡ none → fault_in o ≡ e → Zero old → Answered S NotText old old (Refused NotText e)
    unfolding objects
    no_objects o p q f z = stop NotText (ap fault_in p ∙ f) (rw (ap objects_in p ∙ q)) z

    pub faulty : {v w : List ℕ} {x : Result ℕ TextError} {e : ℕ} → Zero old → ReadsSchema S v w x → x ≡ Err (Texts.Fault e) → Answered S NotText old old (Refused NotText e)
    faulty {w = w} {e = e} z h p = no_objects (fault e) (schema_broken (subst (λ (y : Result ℕ TextError). SchemaTold S w y) p h.told)) refl refl z

    pub deeper : {v w : List ℕ} {x : Result ℕ TextError} {e : ℕ} → Zero old → ReadsSchema S v w x → x ≡ Err (Texts.Deep e) → Answered S NotText old old (Refused NotText e)
    deeper {w = w} {e = e} z h p = no_objects (deep e) (schema-too_deep (subst (λ (y : Result ℕ TextError). SchemaTold S w y) p h.told)) refl refl z

    pub never : {v w : List ℕ} {x : Result ℕ TextError} {r : SchemaAnswer} → length S ≤ schema_bytes → ReadsSchema S v w x → x ≡ Err Texts.TooLong → Answered S NotText old old r
    never {w = w} h t p = let z : text_bound ≤ length S = subst (λ (y : Result ℕ TextError). SchemaTold S w y) p t.told in absurd (omega arith)

    module _ {w : List ℕ} {count : ℕ} (t : TextRead S w count) where
      pub text-on : {new : List ℕ} {r : SchemaAnswer} → Answered S RepeatedKey old new r → Answered S NotText old new r
      unfolding rank
      text-on a = on NotText refl (rw (text-objects t.text)) a

      -- its keys
      pub repeated : {x : Option ℕ} {p : ℕ} → Zero old → FirstRepeat schema S w count x → x ≡ Some p → Answered S RepeatedKey old old (Refused RepeatedKey p)
      repeated z k e = stop RepeatedKey (found_at t k e) (some-test t k (length old) e) z

      pub keys_on : {x : Option ℕ} {new : List ℕ} {r : SchemaAnswer} → FirstRepeat schema S w count x → x ≡ None → Answered S NotDefinitions old new r → Answered S RepeatedKey old new r
      unfolding rank
      keys_on k e a = on RepeatedKey refl (none-test t k (length old) e) a

      -- its definitions
      pub no_definitions : Zero old → definitions t.js ≡ none → Answered S NotDefinitions old old (Refused NotDefinitions 0)
      no_definitions z e = stop NotDefinitions refl (rw (text-objects t.text, text-written t.text ∙ e)) z

      pub definitions-on : {ds : List Definition} {new : List ℕ} {r : SchemaAnswer} → definitions t.js ≡ some ds → Answered S BadName old new r → Answered S NotDefinitions old new r
      unfolding rank
      definitions-on e a = on NotDefinitions refl (rw (text-objects t.text, text-written t.text ∙ e)) a

-- resolved rows are the table
module _ {S raw new : List ℕ} {found : Bool} (w : RawRows S raw) (r : Resolves S raw new found) where
  resolved : (new ≡ table S w.ds) × (found ≡ all_refer S w.ds)
  resolved = r.told w.ds w.short (names_within_lem S w.js w.ds w.text w.are) w.rows

  pub still_links : {heads links : List ℕ} → DefinitionIndex S raw heads links → DefinitionLinks S new links
  still_links k =
      table_links w.ds (all-behind S w.ds w.short (names_within_lem S w.js w.ds w.text w.are)) w.rows resolved.0 (index_links k)

  pub is-table : IsTable S new
  is-table =
      let e = r.same_length in
      record { ds = w.ds; are = text-written w.text ∙ w.are; rows = resolved.0; whole = omega (arith, w.whole) }

  pub refers : Refers S found
  refers =
      record { told = λ ds e. let z : some w.ds ≡ some ds = sym (text-written w.text ∙ w.are) ∙ e in let y : w.ds ≡ ds = cc in resolved.1 ∙ ap (all_refer S) y }

-- text read into nodes that fit
pub text-read : {S v w : List ℕ} {x : Result ℕ TextError} {n : ℕ} → ReadsSchema S v w x → x ≡ Ok n → length S ≤ schema_bytes → length w ≡ node_words * most_nodes → TextRead S w n
text-read {S} {w = w} {n = n} r e h k =
    let t : SchemaTold S w (Ok n) = subst (λ (y : Result ℕ TextError). SchemaTold S w y) e r.told in
    record { js = t.items; text = t.text; holds = t.holds (omega (arith, t.few)); few = t.few; short = h }

-- raw rows put at the front of words that hold them
module _ {S w old new : List ℕ} {count : ℕ} {x : Result ℕ Broken} {y : Option ℕ} (t : TextRead S w count) (k : FirstRepeat schema S w count y) (o : y ≡ None)
    (p : PutsDefinitions S w old new count x) where
  put : PutTold old new t.js count x
  put = p.told t.js _ (record { small = t.short; once = once t k o }) t.holds

  pub put_refused : {bad : Broken} → x ≡ Err bad → definitions t.js ≡ none
  put_refused e = subst (λ (y : Result ℕ Broken). PutTold old new t.js count y) e put

  pub put_rows_lem : {n : ℕ} → x ≡ Ok n → RowsPut old new t.js count n
  put_rows_lem e = subst (λ (y : Result ℕ Broken). PutTold old new t.js count y) e put

  pub put-few : {n : ℕ} → x ≡ Ok n → row_words * n ≤ row_words * most_rows
  put-few e = omega (arith, (put_rows_lem e).few, t.few, t.short)

  pub raw-length : {n : ℕ} → x ≡ Ok n → length new ≡ row_words * most_rows → row_words * n ≡ length (take (row_words * n) new)
  raw-length {n} e k = sym (length-take-le (row_words * n) new (omega (arith, put-few e)))

  pub raw-rows : {n : ℕ} → x ≡ Ok n → length new ≡ row_words * most_rows → RawRows S (take (row_words * n) new)
  raw-rows {n} e k =
      let r = put_rows_lem e in
      let f : row_words * n ≤ length old = omega (arith, put-few e, p.same_length) in
      let g : take (row_words * n) new ≡ raw_from 0 r.ds = r.rows f in
      let l : length (take (row_words * n) new) ≡ row_words * n = ap length g ∙ sym r.size in
      record { js = t.js; text = t.text; ds = r.ds; are = r.are; rows = g; whole = omega arith; few = omega (arith, r.few, t.few); short = t.short }
