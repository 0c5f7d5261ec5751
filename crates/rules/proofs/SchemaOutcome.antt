-- The schema answer as a function is the one outcome that the reference's table allows: each test says when its refusal applies, the first that passes has the lowest rank, and its
-- place is the only one.
-- The idea: the bytes decide the text, the text the objects, these the definitions; so a statement on "the definitions of S" is one on the definitions computed.
use Prim.Native.Nat.{ℕ, suc, ◌/◌, ◌<◌}
use native.Mathlib.Omega.{arith}
use mathlib.Core.Path.{◌≡◌, refl, sym, ap, ◌∙◌, subst}
use mathlib.Core.Bool.{Bool, true, false, not}
use mathlib.Core.List.{List, ◌∷◌, Memᴰ}
use mathlib.Core.Option.{Option, none, some}
use lib.Dec.{ltb}
use lib.ListN.{length, drop, get_elem?}
use borrow.Author.Tests.{ltb-true, lt-ltb, not-true}
use Rattle.grammar.specs.Limits.{schema_bytes, schema_levels, table_rows, row_words}
use Rattle.grammar.specs.Tree.{Items}
use Rattle.grammar.specs.Keys.{keys_once_i, RepeatsI, Earliest}
use Rattle.grammar.specs.Starts.{Longest}
use Rattle.grammar.specs.SchemaText.{SchemaText, schema_lexis}
use Rattle.grammar.specs.Serving.Repeats.{first_repeat_i}
use Rattle.grammar.specs.Serving.Machine.{Out}
use Rattle.grammar.specs.Serving.Machine.Out.{whole, fault, deep}
use Rattle.grammar.specs.Serving.Machine.Schema.{read_schema}
use Rattle.grammar.proofs.Starts.{longest_unique}
use Rattle.grammar.proofs.Texts.{schema_text_lem, schema_unique, schema-fault, schema-deep}
use Rattle.grammar.proofs.Repeats.{first-once-items, schema_earliest, earliest_only}
use Rattle.rules.specs.declared.SchemaRefusal.{SchemaRefusal}
use Rattle.rules.specs.declared.SchemaRefusal.TheVariants.{TooLong, NotText, RepeatedKey, NotDefinitions, BadName, RepeatedName, UnknownName, BadChain, BadUnion, BadAlternate, BadReturn, TooManyRows, NoRoom}
use Rattle.rules.specs.declared.SchemaAnswer.{SchemaAnswer}
use Rattle.rules.specs.declared.SchemaAnswer.TheVariants.{Refused}
use Rattle.rules.specs.Values.{◌>>=◌}
use Rattle.rules.specs.Definitions.{Definition, definitions}
use Rattle.rules.specs.Rows.{row_count}
use Rattle.rules.specs.Rules.{is, good_names, distinct_names, good_chains, good_unions, good_alternates, good_returns}
use Rattle.rules.specs.SchemaTable.{table, all_refer}
use Rattle.rules.specs.Refusals.{FirstOf}
use Rattle.rules.specs.SchemaAnswers.{schema_order, Says, SchemaApplies, SchemaPlace, SchemaOutcome}
use Rattle.rules.specs.SchemaAnswers.SchemaOutcome.{accepted, refused}
use Rattle.rules.specs.Serving.Answers.{SchemaResult, is_none, first, rank, objects_in, fault_in, place_or0, repeat_in, schema_place, schema_test, table_in, schema_answered, schema_result}
use Rattle.rules.proofs.Lists.{clash, is_true}
use Rattle.rules.proofs.Refusals.{first-has}
pub use Rattle.rules.proofs.First.{nth}
use Rattle.rules.proofs.First.{decided, drop_nth, first-none, none_first, first_of, of_first}

-- what a test on an optional value says
pub is_of : {A : Type 0} (o : Option A) (f : A → Bool) (a : A) → o ≡ some a → f a ≡ true → is o f ≡ true
is_of o f a p e = rw p e

pub none_of : {A : Type 0} (o : Option A) → is_none o ≡ true → o ≡ none
none_of none e = refl
none_of (some a) e = clash refl (sym e)

pub some_of : {A : Type 0} (o : Option A) → is_none o ≡ false → (a : A) × (o ≡ some a)
some_of none e = clash refl e
some_of (some a) e = (a, refl)

pub bind_some : {A B : Type 0} (o : Option A) (f : A → Option B) (b : B) → (o >>= f) ≡ some b → (a : A) × (o ≡ some a) × (f a ≡ some b)
bind_some none f b e = let z : ◌≡◌ {A = ℕ} 0 1 = cc in absurd (omega arith)
bind_some (some a) f b e = (a, refl, e)

ranked : (x : SchemaRefusal) → get_elem? schema_order (rank x) ≡ some x
unfolding rank
ranked TooLong = refl
ranked NotText = refl
ranked RepeatedKey = refl
ranked NotDefinitions = refl
ranked BadName = refl
ranked RepeatedName = refl
ranked UnknownName = refl
ranked BadChain = refl
ranked BadUnion = refl
ranked BadAlternate = refl
ranked BadReturn = refl
ranked TooManyRows = refl
ranked NoRoom = refl

pub listed : (x : SchemaRefusal) → Memᴰ x schema_order
listed x = nth schema_order (rank x) x (ranked x)

-- the refusals from one on begin with it
pub from-rank : (x : SchemaRefusal) → drop (rank x) schema_order ≡ x ∷ drop (suc (rank x)) schema_order
from-rank x = drop_nth schema_order (rank x) x (ranked x)

-- a refusal has one place
pub schema_place-only : (S : List ℕ) {p q : ℕ} (x : SchemaRefusal) → SchemaPlace x S p → SchemaPlace x S q → p ≡ q
schema_place-only S TooLong a b = a ∙ sym b
schema_place-only S NotText a b = longest_unique schema_lexis a b
schema_place-only S {p} RepeatedKey (js, t, a) (ks, u, b) = earliest_only (subst (λ (i : Items). Earliest (RepeatsI i) p) (schema_unique t u) a) b
schema_place-only S NotDefinitions a b = a ∙ sym b
schema_place-only S BadName a b = a ∙ sym b
schema_place-only S RepeatedName a b = a ∙ sym b
schema_place-only S UnknownName a b = a ∙ sym b
schema_place-only S BadChain a b = a ∙ sym b
schema_place-only S BadUnion a b = a ∙ sym b
schema_place-only S BadAlternate a b = a ∙ sym b
schema_place-only S BadReturn a b = a ∙ sym b
schema_place-only S TooManyRows a b = a ∙ sym b
schema_place-only S NoRoom a b = a ∙ sym b

-- where the text goes wrong, and where a key is repeated
fault-placed : (S : List ℕ) (o : Out) → read_schema S ≡ o → ((js : Items) → SchemaText S js → ⊥) → Longest schema_lexis schema_levels S (fault_in o)
fault-placed S (whole js) e n = absurd (n js ((schema_text_lem S js).0 e))
fault-placed S (fault p) e n = (schema-fault e).longest
fault-placed S (deep p) e n = (schema-deep e).longest

repeat_placed : {S : List ℕ} (js : Items) (o : Option ℕ) → first_repeat_i js ≡ o → SchemaText S js → keys_once_i js ≡ false → Earliest (RepeatsI js) (place_or0 o)
repeat_placed js none e t k = clash ((first-once-items js).0 e) k
repeat_placed js (some p) e t k = (schema_earliest t p).0 e

module _ (S : List ℕ) (room : ℕ) where
  objects : Option Items
  objects = objects_in (read_schema S)

  written : Option (List Definition)
  written = objects_in (read_schema S) >>= definitions

  objects-text : (js : Items) → objects ≡ some js → SchemaText S js
  unfolding objects
  objects-text js e = go (read_schema S) refl e
    where
      go : (o : Out) → read_schema S ≡ o → objects_in o ≡ some js → SchemaText S js
      go (whole ks) p q = let z : ks ≡ js = cc in (schema_text_lem S js).0 (p ∙ ap whole z)
      go (fault n) p q = let z : ◌≡◌ {A = ℕ} 0 1 = cc in absurd (omega arith)
      go (deep n) p q = let z : ◌≡◌ {A = ℕ} 0 1 = cc in absurd (omega arith)

  text-objects : (js : Items) → SchemaText S js → objects ≡ some js
  unfolding objects
  text-objects js t = ap objects_in ((schema_text_lem S js).1 t)

  says : (ds : List Definition) → Says S ds → written ≡ some ds
  unfolding written objects
  says ds h = rw (text-objects h.objects h.is_text) h.keeps_keys

  said : (ds : List Definition) → written ≡ some ds → Says S ds
  unfolding written objects
  said ds e = let z = bind_some objects definitions ds e in record { objects = z.0; is_text = objects-text z.0 z.1; keeps_keys = z.2 }

  test : SchemaRefusal → Bool
  test x = schema_test S room objects written x

  -- a rule on the definitions written, and its test
  breaks_test : (P : List Definition → Bool) → (ds : List Definition) × Says S ds × (P ds ≡ false) → is written (λ ds. not (P ds)) ≡ true
  breaks_test P (ds, s, e) = is_of written (λ ds. not (P ds)) ds (says ds s) (rw e)

  test_breaks : (P : List Definition → Bool) → is written (λ ds. not (P ds)) ≡ true → (ds : List Definition) × Says S ds × (P ds ≡ false)
  test_breaks P e = let z = is_true written (λ ds. not (P ds)) e in (z.0, said z.0 z.1, not-true (P z.0) z.2)

  passes_test : (P : List Definition → ℕ) (n : ℕ) → (ds : List Definition) × Says S ds × (n < P ds) → is written (λ ds. ltb n (P ds)) ≡ true
  passes_test P n (ds, s, h) = is_of written (λ ds. ltb n (P ds)) ds (says ds s) (lt-ltb n (P ds) h)

  test_passes : (P : List Definition → ℕ) (n : ℕ) → is written (λ ds. ltb n (P ds)) ≡ true → (ds : List Definition) × Says S ds × (n < P ds)
  test_passes P n e = let z = is_true written (λ ds. ltb n (P ds)) e in (z.0, said z.0 z.1, ltb-true n (P z.0) z.2)

  no_objects : ((js : Items) → SchemaText S js → ⊥) → is_none objects ≡ true
  no_objects h = go objects refl
    where
      go : (o : Option Items) → objects ≡ o → is_none o ≡ true
      go none e = refl
      go (some js) e = absurd (h js (objects-text js e))

  unwritten : (js : Items) → SchemaText S js → definitions js ≡ none → written ≡ none
  unfolding written objects
  unwritten js t e = rw (text-objects js t) e

  not_written : (js : Items) → objects ≡ some js → written ≡ none → definitions js ≡ none
  unfolding written objects
  not_written js p e = (rw p at e)

  -- each test says when its number applies
  applies_test : (x : SchemaRefusal) → SchemaApplies x S room → test x ≡ true
  unfolding test
  applies_test TooLong a = lt-ltb schema_bytes (length S) a
  applies_test NotText a = no_objects a
  applies_test RepeatedKey (js, t, e) = is_of objects (λ j. not (keys_once_i j)) js (text-objects js t) (rw e)
  applies_test NotDefinitions (js, t, e) = is_of objects (λ j. is_none written) js (text-objects js t) (rw (unwritten js t e))
  applies_test BadName a = breaks_test (λ ds. good_names S (table S ds)) a
  applies_test RepeatedName a = breaks_test (λ ds. distinct_names S (table S ds)) a
  applies_test UnknownName a = breaks_test (all_refer S) a
  applies_test BadChain a = breaks_test (λ ds. good_chains S (table S ds)) a
  applies_test BadUnion a = breaks_test (λ ds. good_unions S (table S ds)) a
  applies_test BadAlternate a = breaks_test (λ ds. good_alternates S (table S ds)) a
  applies_test BadReturn a = breaks_test (λ ds. good_returns S (table S ds)) a
  applies_test TooManyRows a = passes_test (λ ds. row_count (table S ds)) table_rows a
  applies_test NoRoom a = passes_test (λ ds. row_count (table S ds)) (room / row_words) a

  test_applies : (x : SchemaRefusal) → test x ≡ true → SchemaApplies x S room
  unfolding test
  test_applies TooLong e = ltb-true schema_bytes (length S) e
  test_applies NotText e = λ js t. let p = text-objects js t in let q = none_of objects e in let z : ◌≡◌ {A = ℕ} 0 1 = cc in absurd (omega arith)
  test_applies RepeatedKey e = let z = is_true objects (λ j. not (keys_once_i j)) e in (z.0, objects-text z.0 z.1, not-true (keys_once_i z.0) z.2)
  test_applies NotDefinitions e =
      let z = is_true objects (λ j. is_none written) e in
      (z.0, objects-text z.0 z.1, not_written z.0 z.1 (none_of written z.2))
  test_applies BadName e = test_breaks (λ ds. good_names S (table S ds)) e
  test_applies RepeatedName e = test_breaks (λ ds. distinct_names S (table S ds)) e
  test_applies UnknownName e = test_breaks (all_refer S) e
  test_applies BadChain e = test_breaks (λ ds. good_chains S (table S ds)) e
  test_applies BadUnion e = test_breaks (λ ds. good_unions S (table S ds)) e
  test_applies BadAlternate e = test_breaks (λ ds. good_alternates S (table S ds)) e
  test_applies BadReturn e = test_breaks (λ ds. good_returns S (table S ds)) e
  test_applies TooManyRows e = test_passes (λ ds. row_count (table S ds)) table_rows e
  test_applies NoRoom e = test_passes (λ ds. row_count (table S ds)) (room / row_words) e

  -- and where it applies, the place of its refusal is the one computed
  repeated_at : (js : Items) → SchemaText S js → keys_once_i js ≡ false → Earliest (RepeatsI js) (repeat_in (read_schema S))
  repeated_at js t k = rw ((schema_text_lem S js).1 t) (repeat_placed js (first_repeat_i js) refl t k)

  placed : (x : SchemaRefusal) → SchemaApplies x S room → SchemaPlace x S (schema_place (read_schema S) x)
  placed TooLong a = refl
  placed NotText a = fault-placed S (read_schema S) refl a
  placed RepeatedKey (js, t, k) = (js, t, repeated_at js t k)
  placed NotDefinitions a = refl
  placed BadName a = refl
  placed RepeatedName a = refl
  placed UnknownName a = refl
  placed BadChain a = refl
  placed BadUnion a = refl
  placed BadAlternate a = refl
  placed BadReturn a = refl
  placed TooManyRows a = refl
  placed NoRoom a = refl

  -- where no number applies there are definitions
  there : ((x : SchemaRefusal) → test x ≡ false) → (ds : List Definition) × (written ≡ some ds)
  unfolding test
  there h =
      let js = some_of objects (h NotText) in
      some_of written (rw js.1 at (h NotDefinitions))

  decided_by : Option SchemaRefusal
  decided_by = first test schema_order

  outcome : SchemaResult
  outcome = schema_answered S room (read_schema S) (table_in S room written) decided_by

  result_is : schema_result S room ≡ outcome
  unfolding outcome decided_by test written objects schema_result
  result_is = refl

  -- the outcome is one that the table allows
  allowed : SchemaOutcome S room outcome.answer outcome.words
  unfolding outcome decided_by
  allowed = go decided_by refl
    where
      go : (o : Option SchemaRefusal) → first test schema_order ≡ o
          → SchemaOutcome S room (schema_answered S room (read_schema S) (table_in S room written) o).answer (schema_answered S room (read_schema S) (table_in S room written) o).words
      go none e =
          let no_test : (x : SchemaRefusal) → test x ≡ false = λ x. first-none test schema_order e x (listed x) in
          let ds = there no_test in
          rw ds.1 (accepted (said ds.0 ds.1) (λ x a. clash (applies_test x a) (no_test x)) refl refl)
      go (some x) e =
          let f : FirstOf (λ y. SchemaApplies y S room) schema_order x = first_of test (λ y. SchemaApplies y S room) test_applies applies_test schema_order e in
          refused f (placed x (first-has (λ y. SchemaApplies y S room) schema_order f)) refl refl

  -- and the only one
  only : (a : SchemaAnswer) (w : List ℕ) → SchemaOutcome S room a w → (a ≡ outcome.answer) × (w ≡ outcome.words)
  unfolding outcome decided_by
  only a w (accepted {ds} s h p q) =
      let d = says ds s in
      let e : first test schema_order ≡ none = none_first test schema_order (λ x m. decided (test x) (λ t. h x (test_applies x t))) in
      rw (e, d) (p, q)
  only a w (refused {x} h l p q) =
      let e : first test schema_order ≡ some x = of_first test (λ y. SchemaApplies y S room) test_applies applies_test schema_order h in
      let i = schema_place-only S x l (placed x (first-has (λ y. SchemaApplies y S room) schema_order h)) in
      rw e (p ∙ ap (Refused x) i, q)

  -- The reference's table of schema answers: for every schema and room there is one outcome, the one that `schema_result` gives.
  pub schema-outcome : SchemaOutcome S room (schema_result S room).answer (schema_result S room).words
  schema-outcome = rw result_is allowed

  pub schema-outcome-only : (a : SchemaAnswer) (w : List ℕ) → SchemaOutcome S room a w → (a ≡ (schema_result S room).answer) × (w ≡ (schema_result S room).words)
  schema-outcome-only a w h = rw result_is (only a w h)

  -- every refusal has a place
  pub schema-placed : (x : SchemaRefusal) → SchemaApplies x S room → (p : ℕ) × SchemaPlace x S p
  schema-placed x a = (schema_place (read_schema S) x, placed x a)

  -- the one that is given is its own
  pub schema-refused_at : {x : SchemaRefusal} {p : ℕ} → (schema_result S room).answer ≡ Refused x p → SchemaPlace x S p
  schema-refused_at {x} {p} r = go schema-outcome
    where
      go : SchemaOutcome S room (schema_result S room).answer (schema_result S room).words → SchemaPlace x S p
      go (accepted s h e w) = let z : ◌≡◌ {A = ℕ} 0 1 = cc in absurd (omega arith)
      go (refused {x = y} {p = q} h l e w) =
          let u : y ≡ x = cc in
          let v : q ≡ p = cc in
          subst (λ (i : ℕ). SchemaPlace x S i) v (subst (λ (z : SchemaRefusal). SchemaPlace z S q) u l)
