-- The fields of an object, read in turn: what each return and each turn of the loop gives.
-- The idea: as for the elements of an array; a field is read at the type of the member that its key means, and counted where that is mandatory.
use Prim.Native.Nat.{ℕ, zero, suc, ◌+◌, ◌-◌, ◌*◌, ◌≤◌, ◌<◌}
use mathlib.Core.Path.{◌≡◌, refl, sym, ap, ◌∙◌, subst₂}
use mathlib.Core.Bool.{Bool, true, false, cond}
use mathlib.Core.List.{List, [], ◌∷◌, ◌++◌}
use mathlib.Core.Option.{Option, none, some}
use native.Mathlib.Numerals.{add-one}
use native.Mathlib.Omega.{arith}
use lib.Dec.{eqb}
use lib.ListN.{length}
use borrow.Author.Tests.{eq-eqb, ne_eqb}
use Rattle.grammar.specs.Limits.{chain_structs}
use Rattle.grammar.specs.Tree.{Json, Fields}
use Rattle.grammar.specs.Tree.Fields.{no_fields, field}
use Rattle.grammar.specs.Keys.{keys_once, keys_once_f}
use Rattle.grammar.specs.Serving.Machine.Message.{message}
use Rattle.rules.specs.Rows.{members, type_ref, array_mark}
use Rattle.rules.specs.SchemaTable.{member_in}
use Rattle.rules.proofs.Lists.{and_left, and_right}
use Rattle.children.specs.Index.{IndexedTable}
use Rattle.children.specs.Counts.{mandatory_in}
use Rattle.children.proofs.CountLaws.{count-few}
use Rattle.rules.specs.Readings.{Typed}
use Rattle.rules.specs.Serving.ReadingOf.{then, found, fields_reading, reading_of}
use Rattle.text.specs.Nodes.{next, Holds, HoldsFields}
use Rattle.text.proofs.KeyLaws.{goes_on}
use Rattle.members.specs.Members.{FieldMember}
use Rattle.members.specs.Mandatory.{met_by, met, MandatoryMembers}
use Rattle.lookups.specs.Lookups.MeaningAt.{a_key}
use Rattle.readings.specs.Records.{ReadTold}
use Rattle.readings.specs.Readers.{Within, complete_reading, ReadsValue, FieldsRead, ReadsFields}
use Rattle.readings.specs.declared.readings.Count.{Count}
use Rattle.readings.specs.declared.readings.Count.TheVariants.{Records, Nothing}
use Rattle.readings.proofs.RecordLaws.{told_empty, told-nothing, told-then, told_none}

found-one : (l : ℕ) (o : Option (List Typed)) → (l ≡ 0 → ⊥) → found l o ≡ o
found-one zero o n = absurd (n refl)
found-one (suc x) o n = refl

-- what is asked of all fields may be asked of those after the first
cond-then : (b : Bool) (o q : Option (List Typed)) → cond b (then o q) none ≡ then o (cond b q none)
cond-then true o q = refl
cond-then false none q = refl
cond-then false (some ts) q = refl

cond-none : (b : Bool) (o : Option (List Typed)) → o ≡ none → cond b o none ≡ none
cond-none true o e = e
cond-none false o e = refl

complete-end : (passes : Bool) (S T ms : List ℕ) (d y : ℕ) → y ≡ mandatory_in T ms → complete_reading passes S T ms d no_fields ≡ cond (eqb d y) (some []) none
unfolding complete_reading met
complete-end passes S T ms d y p = let k : d + 0 ≡ d = omega arith in rw (k, ← p)

-- no field is left
module _ (S T m w : List ℕ) {ix : List ℕ} {b x left : ℕ} {passes : Bool} (now : List ℕ) {i e c d : ℕ} where
  pub fields-past : e ≤ i → (i ≡ e → ⊥) → FieldsRead S T m w ix now now i e b x passes left c d Nothing
  fields-past u n = record { told = λ fs l o h once q ms bs y z. go fs l h (ms ++ bs) }
    where
      go : (fs : Fields) (l : ℕ) → HoldsFields message m w fs l i e → (ms : List ℕ) → ReadTold now now c (complete_reading passes S T ms d fs) Nothing
      go no_fields l h ms = absurd (n h)
      go (field a y cs j fs) l h ms = absurd (omega (arith, h.0))

  module _ (z : i ≡ e) {y : ℕ} (g : MandatoryMembers T ix b x y) where
    at-end : (r : Count) → ReadTold now now c (cond (eqb d y) (some []) none) r → FieldsRead S T m w ix now now i e b x passes left c d r
    at-end r t = record { told = λ fs l o h once q ms bs u v. go fs l h (ms ++ bs) (g.told S o ms bs u v) }
      where
        go : (fs : Fields) (l : ℕ) → HoldsFields message m w fs l i e → (ms : List ℕ) → y ≡ mandatory_in T ms → ReadTold now now c (complete_reading passes S T ms d fs) r
        go no_fields l h ms p = rw (complete-end passes S T ms d y p) t
        go (field a k cs j fs) l h ms p = absurd (omega (arith, h.0))

    pub fields-end : d ≡ y → FieldsRead S T m w ix now now i e b x passes left c d (Records c)
    fields-end q = at-end (Records c) (rw (eq-eqb d y q) (told_empty now c))

    pub fields_lack : (d ≡ y → ⊥) → FieldsRead S T m w ix now now i e b x passes left c d Nothing
    fields_lack q = at-end Nothing (rw (ne_eqb d y q) (told-nothing now now c none refl refl))

module _ {S T m w ix : List ℕ} {i b x link : ℕ} (f : FieldMember S T m w ix i b x link) {e : ℕ} (u : i < e) where
  -- the first key that is left means this member
  meant : (a y l : ℕ) (cs ms bs : List ℕ) (j : Json) (fs : Fields) → IndexedTable S T ix → HoldsFields message m w (field a y cs j fs) l i e
      → members T chain_structs b ≡ some ms → members T chain_structs x ≡ some bs → link ≡ member_in S T cs (ms ++ bs)
  meant a y l cs ms bs j fs d h p q = f.told cs d (a_key (record { start = a; end = y; node_is = h.1; means = h.2 })) ms bs p q

  pub fields_unmeant : {passes : Bool} {left c d : ℕ} (now : List ℕ) → link ≡ 0 → FieldsRead S T m w ix now now i e b x passes left c d Nothing
  unfolding complete_reading
  fields_unmeant {passes} {left} {c} {d} now z = record { told = λ fs l o h once q ms bs p p'. go fs l o h ms bs p p' }
    where
      go : (fs : Fields) (l : ℕ) → IndexedTable S T ix → HoldsFields message m w fs l i e → (ms bs : List ℕ) → members T chain_structs b ≡ some ms → members T chain_structs x ≡ some bs
          → ReadTold now now c (complete_reading passes S T (ms ++ bs) d fs) Nothing
      go no_fields l o h ms bs p p' = absurd (omega (arith, h))
      go (field a y cs j fs) l o h ms bs p p' =
          told-nothing now now c (complete_reading passes S T (ms ++ bs) d (field a y cs j fs)) refl
          (cond-none (eqb (d + met S T (ms ++ bs) (field a y cs j fs)) (mandatory_in T (ms ++ bs))) (fields_reading passes S T (field a y cs j fs) (ms ++ bs))
          (rw (sym (meant a y l cs ms bs j fs o h p p') ∙ z, found)))

  module _ (n : link ≡ 0 → ⊥) {left c at t g : ℕ} {passes : Bool} (p : at ≡ i + 1) (q : t ≡ type_ref T (link - 1)) (q' : g ≡ array_mark T (link - 1)) {old mid : List ℕ} {v : Count}
      (h : ReadsValue S T m w ix old mid at t g passes left c v) where
    -- its value is read, and then the fields after it
    one_field : (d a y l : ℕ) (cs ms bs : List ℕ) (j : Json) (fs : Fields) → IndexedTable S T ix → HoldsFields message m w (field a y cs j fs) l i e
        → members T chain_structs b ≡ some ms → members T chain_structs x ≡ some bs
        → complete_reading passes S T (ms ++ bs) d (field a y cs j fs)
        ≡ then (reading_of passes S T j t g) (complete_reading passes S T (ms ++ bs) (d + mandatory_in T ((link - 1) ∷ [])) fs)
    unfolding complete_reading met met_by
    one_field d a y l cs ms bs j fs o k z z' =
        let l' : member_in S T cs (ms ++ bs) ≡ link = sym (meant a y l cs ms bs j fs o k z z') in
        let s : link ≡ suc (link - 1) = omega arith in
        let counted : met_by T (member_in S T cs (ms ++ bs)) ≡ mandatory_in T ((link - 1) ∷ []) = ap (met_by T) (l' ∙ s) in
        let sum : d + (met_by T (member_in S T cs (ms ++ bs)) + met S T (ms ++ bs) fs) ≡ d + mandatory_in T ((link - 1) ∷ []) + met S T (ms ++ bs) fs = omega arith in
        let reading : fields_reading passes S T (field a y cs j fs) (ms ++ bs) ≡ then (reading_of passes S T j t g) (fields_reading passes S T fs (ms ++ bs)) =
        ap
        (λ (i : ℕ). found i (then (reading_of passes S T j (type_ref T (i - 1)) (array_mark T (i - 1))) (fields_reading passes S T fs (ms ++ bs))))
        l'
        ∙ found-one link (then (reading_of passes S T j (type_ref T (link - 1)) (array_mark T (link - 1))) (fields_reading passes S T fs (ms ++ bs))) n
        ∙ rw (← q, ← q') in
        ap (λ (i : ℕ). cond (eqb i (mandatory_in T (ms ++ bs))) (fields_reading passes S T (field a y cs j fs) (ms ++ bs)) none) sum
        ∙ ap (λ (r : Option (List Typed)). cond (eqb (d + mandatory_in T ((link - 1) ∷ []) + met S T (ms ++ bs) fs) (mandatory_in T (ms ++ bs))) r none) reading
        ∙ cond-then (eqb (d + mandatory_in T ((link - 1) ∷ []) + met S T (ms ++ bs) fs) (mandatory_in T (ms ++ bs))) (reading_of passes S T j t g) (fields_reading passes S T fs (ms ++ bs))

    value-told : (l : ℕ) (j : Json) → IndexedTable S T ix → Holds message m w j l (suc i) → keys_once j ≡ true → l ≤ left → ReadTold old mid c (reading_of passes S T j t g) v
    value-told l j o y once z = h.reads.told j l o (let k : at ≡ suc i = p ∙ add-one i in rw k y) once z

    pub fields-none : {d : ℕ} → v ≡ Nothing → FieldsRead S T m w ix old mid i e b x passes left c d Nothing
    fields-none {d} z = record { told = λ fs l o y once r ms bs k k'. go fs l o y once r ms bs k k' }
      where
        go : (fs : Fields) (l : ℕ) → IndexedTable S T ix → HoldsFields message m w fs l i e → keys_once_f fs ≡ true → l ≤ left → (ms bs : List ℕ)
            → members T chain_structs b ≡ some ms → members T chain_structs x ≡ some bs → ReadTold old mid c (complete_reading passes S T (ms ++ bs) d fs) Nothing
        go no_fields l o y once r ms bs k k' = absurd (omega (arith, y))
        go (field a s cs j fs) l o y once r ms bs k k' =
            rw (one_field d a s l cs ms bs j fs o y k k')
            (told_none old mid c (reading_of passes S T j t g) (complete_reading passes S T (ms ++ bs) (d + mandatory_in T ((link - 1) ∷ [])) fs)
            (rw z at (value-told l j o y.3 (and_left (keys_once j) (keys_once_f fs) once) r)))

    module _ {a' : ℕ} (r : a' ≡ next w at) where
      pub fields_stuck : {d : ℕ} → a' ≤ at → FieldsRead S T m w ix old mid i e b x passes left c d Nothing
      fields_stuck z = record { told = λ fs l o y once s ms bs k k'. absurd (go fs l y) }
        where
          go : (fs : Fields) (l : ℕ) → HoldsFields message m w fs l i e → ⊥
          go no_fields l y = omega (arith, y)
          go (field a s cs j fs) l y = let k : at ≡ suc i = p ∙ add-one i in omega (arith, goes_on message m w j l at (rw k y.3))

      module _ {z : ℕ} (o : v ≡ Records z) where
        pub fields-on : {d : ℕ} (new : List ℕ) (y : Count) → FieldsRead S T m w ix mid new a' e b x passes left z (d + mandatory_in T ((link - 1) ∷ [])) y
            → FieldsRead S T m w ix old new i e b x passes left c d y
        fields-on {d} new y k = record { told = λ fs l s hf once h' ms bs k' k''. go fs l s hf once h' ms bs k' k'' }
          where
            go : (fs : Fields) (l : ℕ) → IndexedTable S T ix → HoldsFields message m w fs l i e → keys_once_f fs ≡ true → l ≤ left → (ms bs : List ℕ)
                → members T chain_structs b ≡ some ms → members T chain_structs x ≡ some bs → ReadTold old new c (complete_reading passes S T (ms ++ bs) d fs) y
            go no_fields l s hf once h' ms bs k' k'' = absurd (omega (arith, hf))
            go (field a a'' cs j fs) l s hf once h' ms bs k' k'' =
                let e' : a' ≡ next w i = r ∙ ap (next w) (p ∙ add-one i) ∙ sym hf.4 in
                rw (one_field d a a'' l cs ms bs j fs s hf k' k'')
                (told-then old mid new c z (reading_of passes S T j t g) (complete_reading passes S T (ms ++ bs) (d + mandatory_in T ((link - 1) ∷ [])) fs) y
                (rw o at (value-told l j s hf.3 (and_left (keys_once j) (keys_once_f fs) once) h'))
                (k.told fs l s (rw e' hf.5) (and_right (keys_once j) (keys_once_f fs) once) h' ms bs k' k''))

        pub few-fields : at < a' → z ≤ 2 * a'
        few-fields k = few (rw o at h.within)
          where
            few : Within w at (Records z) → z ≤ 2 * a'
            few h = omega arith

-- the loop: what was read from node k + 1 on to node i, after n records, left c records, and d mandatory members were met
pub record FieldsSoFar (S T m w ix old now : List ℕ) (k e b x : ℕ) (passes : Bool) (left n i c d : ℕ) : Type 0 where
  pub few : c ≤ 2 * i
  pub few_met : d ≤ i
  pub kept : length now ≡ length old
  pub onward : (new : List ℕ) (r : Count) → FieldsRead S T m w ix now new i e b x passes left c d r → FieldsRead S T m w ix old new (k + 1) e b x passes left n 0 r

pub fields-start : (S T m w ix old : List ℕ) {k e b x left n : ℕ} {passes : Bool} → n ≤ 2 * suc k → FieldsSoFar S T m w ix old old k e b x passes left n (k + 1) n 0
fields-start S T m w ix old u = record { few = omega arith; few_met = omega arith; kept = refl; onward = λ new r h. h }

module _ {S T m w ix old now : List ℕ} {k e b x left n i c d : ℕ} {passes : Bool} (v : FieldsSoFar S T m w ix old now k e b x passes left n i c d) where
  -- from the first field on
  module _ (p : e ≡ next w k) where
    from_first : (new : List ℕ) (r : Count) → FieldsRead S T m w ix now new i e b x passes left c d r → FieldsRead S T m w ix old new (suc k) (next w k) b x passes left n 0 r
    from_first new r h = subst₂ (λ (a y : ℕ). FieldsRead S T m w ix old new a y b x passes left n 0 r) (add-one k) p (v.onward new r h)

    pub fields_fail : {new : List ℕ} → FieldsRead S T m w ix now new i e b x passes left c d Nothing → ReadsFields S T m w ix old new k b x passes left n Nothing
    fields_fail {new} h = record { within = tt; reads = from_first new Nothing h }

    pub fields-done : i ≡ e → {y : ℕ} → MandatoryMembers T ix b x y → d ≡ y → ReadsFields S T m w ix old now k b x passes left n (Records c)
    fields-done z g q = record { within = omega (arith, v.few); reads = from_first now (Records c) (fields-end S T m w now z g q) }

  -- one field more adds at most one
  pub met-fits : (link : ℕ) {y : ℕ} → y ≡ mandatory_in T ((link - 1) ∷ []) → d + y ≤ i + 1
  met-fits link s = omega (arith, v.few_met, s, count-few T ((link - 1) ∷ []))

  pub fields-again : {link : ℕ} → FieldMember S T m w ix i b x link → i < e → (link ≡ 0 → ⊥) → {at t g : ℕ} → at ≡ i + 1
      → t ≡ type_ref T (link - 1) → g ≡ array_mark T (link - 1) → {mid : List ℕ} {a : Count} → ReadsValue S T m w ix now mid at t g passes left c a
      → length mid ≡ length now → {z : ℕ} → z ≡ next w at → at < z → {c' : ℕ} → a ≡ Records c' → {y : ℕ} → y ≡ mandatory_in T ((link - 1) ∷ [])
      → FieldsSoFar S T m w ix old mid k e b x passes left n z c' (d + y)
  fields-again {link} f u l q q' q'' h o r r' t s = record {
    few = few-fields f u l q q' q'' h r t r';
    few_met = omega (arith, met-fits link s);
    kept = o ∙ v.kept;
    onward = λ new j j'. v.onward new j (fields-on f u l q q' q'' h r t new j (rw s at j'));
  }
