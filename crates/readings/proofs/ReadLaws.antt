-- What each return of the value readers gives: by the type itself or an alternative, and by the value's content.
-- The idea: a record is written and then what is inside it; the count grows by at most two for each node.
use Prim.Native.Nat.{ℕ, suc, ◌+◌, ◌-◌, ◌*◌, ◌≤◌}
use mathlib.Core.Path.{◌≡◌, refl, sym, ap, ◌∙◌}
use mathlib.Core.Bool.{Bool, true, cond}
use mathlib.Core.List.{List, [], ◌∷◌, ◌++◌}
use mathlib.Core.Option.{Option, none, some}
use native.Mathlib.Omega.{arith}
use lib.Dec.{eqb}
use lib.ListN.{length}
use Rattle.grammar.specs.Tree.{Json, Fields}
use Rattle.grammar.specs.Tree.Json.{arr, obj}
use Rattle.grammar.specs.Notation.{same, apart}
use Rattle.grammar.specs.Keys.{keys_of, keys_once, keys_once_f}
use Rattle.grammar.specs.Serving.Machine.Message.{message}
use Rattle.rules.specs.Rules.{names_of}
use Rattle.rules.proofs.Lists.{and_left, and_right}
use Rattle.rules.specs.Readings.{Typed, typed}
use Rattle.rules.specs.Serving.ReadingOf as Reading
use Rattle.rules.specs.Serving.ReadingOf.{under, target, ended, mandatory_there, plain_reading, items_reading, fields_reading, reading_of}
use Rattle.children.specs.Index.{IndexedTable}
use Rattle.children.specs.Counts.{mandatory_in}
use Rattle.members.specs.Mandatory.{met}
use Rattle.members.proofs.MeetLaws.{met_all}
use Rattle.text.specs.Nodes.{next, Holds, HoldsItems, HoldsFields, node_end, node_start}
use Rattle.readings.specs.Parts.{choice_as, TypeFor, AsElements, AsMembers, ContentTold, ContentAt}
use Rattle.readings.specs.Records.{put_record, ReadTold}
use Rattle.readings.specs.Readers.{complete_reading, ReadsValue, ReadsPlain, ReadsItems, ReadsFields}
use Rattle.readings.specs.declared.readings.Count.{Count}
use Rattle.readings.specs.declared.readings.Count.TheVariants.{Records, Nothing}
use Rattle.readings.specs.declared.types.Choice.{Choice}
use Rattle.readings.specs.declared.types.Choice.TheVariants.{Itself, Alternative, NoAlternative}
use Rattle.readings.specs.declared.contents.Content.{Content}
use Rattle.readings.specs.declared.contents.Content.TheVariants.{Alone, Elements, Members, Misfit}
use Rattle.readings.proofs.RecordLaws.{put-length, node_record, told_empty, told-nothing, told_under}

-- with none met before, as many are met as there are where every mandatory one is there
complete-all : (passes : Bool) (S T : List ℕ) (fs : Fields) → apart same (keys_of fs) ≡ true → (ms : List ℕ) → apart same (names_of S T ms) ≡ true
    → complete_reading passes S T ms 0 fs ≡ cond (mandatory_there S T ms fs) (fields_reading passes S T fs ms) none
unfolding complete_reading
complete-all passes S T fs d ms h =
    let z : 0 + met S T ms fs ≡ met S T ms fs = omega arith in
    ap (λ (b : Bool). cond b (fields_reading passes S T fs ms) none) (ap (λ (x : ℕ). eqb x (mandatory_in T ms)) z ∙ met_all S T fs d ms h)

-- by which type
module _ (S T m w : List ℕ) {k t f : ℕ} {x : Choice} (g : TypeFor T w k t f x) (passes : Bool) where
  reading-by : (v : Reading.TypeChoice) → choice_as x ≡ v → (j : Json) (l : ℕ) → Holds message m w j l k → reading_of passes S T j t f ≡ ended v (typed j t f) (plain_reading passes S T j (target v t) f)
  reading-by v e j l h = ap (λ (y : Reading.TypeChoice). ended y (typed j t f) (plain_reading passes S T j (target y t) f)) (sym (g.told S m j l h) ∙ e)

  pub value_missing : x ≡ NoAlternative → {ix : List ℕ} (old : List ℕ) {left n : ℕ} → ReadsValue S T m w ix old old k t f passes left n Nothing
  value_missing e old {left} {n} = record {
    within = tt;
    reads = record { told = λ j l o h once q. told-nothing old old n (reading_of passes S T j t f) refl (reading-by Reading.TypeChoice.missing (ap choice_as e) j l h) };
  }

  pub value_direct : x ≡ Itself → {ix old new : List ℕ} {left n : ℕ} {r : Count} → ReadsPlain S T m w ix old new k t f passes left n r → ReadsValue S T m w ix old new k t f passes left n r
  value_direct e {old = old} {new} {left} {n} {r} d = record {
    within = d.within;
    reads = record { told = λ j l o h once q. rw (reading-by Reading.TypeChoice.direct (ap choice_as e) j l h) (d.told j l o h once q) };
  }

  pub value-alternative : {u : ℕ} → x ≡ Alternative u → {ix old mid new : List ℕ} {left n : ℕ} {r : Count} → mid ≡ put_record old n (node_start w k ∷ node_end w k ∷ t ∷ f ∷ [])
      → ReadsPlain S T m w ix mid new k u f passes left (n + 1) r → ReadsValue S T m w ix old new k t f passes left n r
  value-alternative {u} e {old = old} {mid} {new} {left} {n} {r} p d = record {
    within = d.within;
    reads = record {
      told = λ j l o h once q. rw (reading-by (Reading.TypeChoice.alternative u) (ap choice_as e) j l h)
          (told_under old mid new n (typed j t f) (plain_reading passes S T j u f) r (p ∙ node_record m w old j l k t f n h) (d.told j l o h once q));
    };
  }

-- by which content: the record is written first
module _ {S T m w ix : List ℕ} {k t f : ℕ} {x : Content} (g : ContentAt S T m w ix k t f x) (passes : Bool) where
  content_is : (y : Content) → x ≡ y → (j : Json) (l : ℕ) → IndexedTable S T ix → Holds message m w j l k → keys_once j ≡ true → ContentTold S T j t f y
  content_is y e j l o h once = rw e at (g.told j l o h once)

  module _ (old mid : List ℕ) (n : ℕ) (p : mid ≡ put_record old n (node_start w k ∷ node_end w k ∷ t ∷ f ∷ [])) where
    kept : length mid ≡ length old
    kept = ap length p ∙ put-length old (node_start w k ∷ node_end w k ∷ t ∷ f ∷ []) n

    -- where it has a reading it has the record and then what is inside
    inside : (new : List ℕ) (c : ℕ) (r : Count) (o : Option (List Typed)) (j : Json) (l : ℕ) → c ≡ n + 1 → Holds message m w j l k
        → plain_reading passes S T j t f ≡ under (typed j t f) o → ReadTold mid new c o r → ReadTold old new n (plain_reading passes S T j t f) r
    inside new c r o j l z h e d = rw e (told_under old mid new n (typed j t f) o r (p ∙ node_record m w old j l k t f n h) (rw z at d))

    pub plain_misfit : x ≡ Misfit → {left : ℕ} → ReadsPlain S T m w ix old mid k t f passes left n Nothing
    plain_misfit e = record { within = tt; told = λ j l o h once q. told-nothing old mid n (plain_reading passes S T j t f) kept (content_is Misfit e j l o h once passes) }

    module _ {c : ℕ} (z : c ≡ n + 1) where
      pub plain-alone : x ≡ Alone → n ≤ 2 * k + 1 → {left : ℕ} → ReadsPlain S T m w ix old mid k t f passes left n (Records c)
      plain-alone e u = record {
        within = omega arith;
        told = λ j l o h once q. inside mid c (Records c) (some []) j l z h (content_is Alone e j l o h once passes) (told_empty mid c);
      }

      pub plain_elements : x ≡ Elements → {new : List ℕ} {left : ℕ} {r : Count} → (left ≡ 0 → ⊥) → ReadsItems S T m w ix mid new k t passes (left - 1) c r
          → ReadsPlain S T m w ix old new k t f passes left n r
      plain_elements e {new} {left} {r} u d = record {
        within = d.within;
        told = λ j l o h once q. go j l o h once q (content_is Elements e j l o h once);
      }
        where
          go : (j : Json) (l : ℕ) → IndexedTable S T ix → Holds message m w j l k → keys_once j ≡ true → l ≤ left → AsElements S T j t f → ReadTold old new n (plain_reading passes S T j t f) r
          go j l o h once q a = inside new c r (items_reading passes S T a.items t) j l z h (a.reading passes)
              (d.reads.told a.items (l - 1) o (held (rw a.is_array at h)) (rw a.is_array at once) (omega arith))
            where
              held : Holds message m w (arr a.start a.end a.items) l k → HoldsItems message m w a.items (l - 1) (suc k) (next w k)
              held y = y.3

      pub plain-members : {b y : ℕ} → x ≡ Members b y → {new : List ℕ} {left : ℕ} {r : Count} → (left ≡ 0 → ⊥) → ReadsFields S T m w ix mid new k b y passes (left - 1) c r
          → ReadsPlain S T m w ix old new k t f passes left n r
      plain-members {b} {y} e {new} {left} {r} u d = record {
        within = d.within;
        told = λ j l o h once q. go j l o h once q (content_is (Members b y) e j l o h once);
      }
        where
          go : (j : Json) (l : ℕ) → IndexedTable S T ix → Holds message m w j l k → keys_once j ≡ true → l ≤ left → AsMembers S T j t f b y → ReadTold old new n (plain_reading passes S T j t f) r
          go j l o h once q a =
              let ms = a.structs.base ++ a.structs.branch in
              inside new c r (cond (mandatory_there S T ms a.fields) (fields_reading passes S T a.fields ms) none) j l z h (a.reading passes)
              (rw (← complete-all passes S T a.fields (once-here (rw a.is_object at once)) ms a.structs.names_apart)
              (d.reads.told a.fields (l - 1) o (held (rw a.is_object at h)) (once-inside (rw a.is_object at once)) (omega arith) a.structs.base a.structs.branch a.structs.base_is a.structs.branch_is))
            where
              held : Holds message m w (obj a.start a.end a.fields) l k → HoldsFields message m w a.fields (l - 1) (suc k) (next w k)
              held v = v.3

              once-here : keys_once (obj a.start a.end a.fields) ≡ true → apart same (keys_of a.fields) ≡ true
              once-here v = and_left (apart same (keys_of a.fields)) (keys_once_f a.fields) v

              once-inside : keys_once (obj a.start a.end a.fields) ≡ true → keys_once_f a.fields ≡ true
              once-inside v = and_right (apart same (keys_of a.fields)) (keys_once_f a.fields) v

    -- no level is left for what is inside
    pub plain_flat_array : x ≡ Elements → {left : ℕ} → left ≡ 0 → ReadsPlain S T m w ix old mid k t f passes left n Nothing
    plain_flat_array e {left} z = record { within = tt; told = λ j l o h once q. absurd (go j l h q (content_is Elements e j l o h once)) }
      where
        go : (j : Json) (l : ℕ) → Holds message m w j l k → l ≤ left → AsElements S T j t f → ⊥
        go j l h q a = levels (rw a.is_array at h)
          where
            levels : Holds message m w (arr a.start a.end a.items) l k → ⊥
            levels v = omega (arith, v.2)

    pub plain_flat_object : {b y : ℕ} → x ≡ Members b y → {left : ℕ} → left ≡ 0 → ReadsPlain S T m w ix old mid k t f passes left n Nothing
    plain_flat_object {b} {y} e {left} z = record { within = tt; told = λ j l o h once q. absurd (go j l h q (content_is (Members b y) e j l o h once)) }
      where
        go : (j : Json) (l : ℕ) → Holds message m w j l k → l ≤ left → AsMembers S T j t f b y → ⊥
        go j l h q a = levels (rw a.is_object at h)
          where
            levels : Holds message m w (obj a.start a.end a.fields) l k → ⊥
            levels v = omega (arith, v.2)
