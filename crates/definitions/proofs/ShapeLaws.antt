-- The shapes of values by their nodes: arrays, objects, types, flags, bases and data.
use Prim.Native.Nat.{ℕ, suc, ◌+◌, ◌-◌, ◌≤◌, ◌<◌}
use native.Mathlib.Omega.{arith}
use mathlib.Core.Path.{◌≡◌, refl, sym, ap, ◌∙◌, subst, subst₂}
use mathlib.Core.Bool.{Bool, true, false, cond}
use mathlib.Core.List.{List}
use mathlib.Core.Option.{Option, none, some}
use lib.Dec.{eqb}
use borrow.Author.Tests.{ne_eqb}
use lib.ListN.{length}
use Rattle.grammar.specs.Limits.{schema_bytes}
use Rattle.grammar.specs.Tree.{Json, Items, Fields, start_of, end_of}
use Rattle.grammar.specs.Tree.Scalar.{null, bool, num, str}
use Rattle.grammar.specs.Tree.Json.{leaf, arr, obj}
use Rattle.grammar.specs.Tree.Items.{no_items, item}
use Rattle.grammar.specs.Serving.Machine.Schema.{schema}
use Rattle.grammar.proofs.Booleans.{none-not-some, some_is}
use Rattle.strings.specs.Strings.{plain_string}
use Rattle.tokens.specs.NodeKinds.{false_node, true_node, plain_string_node, other_string_node, array_node, object_node}
use Rattle.tokens.proofs.ScalarNodes.{scalar_kind_lem}
use Rattle.text.specs.Nodes.{next, Holds, HoldsItems, node_kind}
use Rattle.text.proofs.KeyLaws.{goes_on}
use Rattle.lookups.specs.Lookups.{string_kind}
use Rattle.rules.specs.Definitions.{Name, TypeText, Member, Data, quoted, list_type, as_name, as_type, as_members, as_data, may}
use Rattle.rules.specs.Definitions.Data.{inline, named}
use Rattle.rules.specs.Values.{◌>>=◌, if_absent, as_items, as_fields, as_flag}
use Rattle.rules.specs.Rules.{is}
use Rattle.rules.specs.SchemaTable.{data_link}
use Rattle.rules.specs.Serving.RawTable.{packed}
use Rattle.std.specs.Prelude.{Some, None, Result, Ok, Err}
use Rattle.std.specs.Prelude as Std
use Rattle.definitions.specs.declared.shapes.TypeText as Text
use Rattle.definitions.specs.declared.writing.NotDefinitions.{NotDefinitions}
use Rattle.definitions.specs.Places.{Held, Found, Named, NameWord, ReadsList, ReadsType, TypeTold, ReturnTold, TakesReturn, FlagTold, TakesFlag, Links, BaseFits}
use Rattle.definitions.specs.Parts.{FieldsAt}
use Rattle.definitions.proofs.NameLaws.{is_name, no_string, no_name}

pub held-there : {s w : List ℕ} {j : Json} {k : ℕ} → Found s w (some j) (Some k) → Held s w j k
held-there f = record { small = f.small; level = f.level; holds = f.found.1 }

-- what stands at a node by its kind
pub record ArrayAt (s w : List ℕ) (j : Json) (k : ℕ) : Type 0 where
  pub small : length s ≤ schema_bytes
  pub items : Items
  pub level : ℕ
  pub on : k < next w k
  pub holds : HoldsItems schema s w items level (suc k) (next w k)
  pub is : as_items j ≡ some items

pub record ObjectAt (s w : List ℕ) (j : Json) (k : ℕ) : Type 0 where
  pub fs : Fields
  pub on : k < next w k
  pub fields : FieldsAt s w fs k
  pub is : as_fields j ≡ some fs

module _ {s w : List ℕ} {k : ℕ} where
  pub as_array : (j : Json) → Held s w j k → node_kind w k ≡ array_node → ArrayAt s w j k
  as_array (leaf a e v) h q = absurd (omega (arith, h.holds.0.has_kind, (scalar_kind_lem s a e v).1))
  as_array (arr a e js) h q = record { small = h.small; items = js; level = h.level - 1; on = h.holds.1; holds = h.holds.3; is = refl }
  as_array (obj a e fs) h q = absurd (omega (arith, h.holds.0.has_kind))

  pub as_object : (j : Json) → Held s w j k → node_kind w k ≡ object_node → ObjectAt s w j k
  as_object (leaf a e v) h q = absurd (omega (arith, h.holds.0.has_kind, (scalar_kind_lem s a e v).1))
  as_object (arr a e js) h q = absurd (omega (arith, h.holds.0.has_kind))
  as_object (obj a e fs) h q = record { fs = fs; on = h.holds.1; fields = record { small = h.small; level = h.level - 1; holds = h.holds.3 }; is = refl }

  pub no_array : (j : Json) → Held s w j k → (node_kind w k ≡ array_node → ⊥) → as_items j ≡ none
  no_array (leaf a e v) h q = refl
  no_array (arr a e js) h q = absurd (q h.holds.0.has_kind)
  no_array (obj a e fs) h q = refl

  pub no_object : (j : Json) → Held s w j k → (node_kind w k ≡ object_node → ⊥) → as_fields j ≡ none
  no_object (leaf a e v) h q = refl
  no_object (arr a e js) h q = refl
  no_object (obj a e fs) h q = absurd (q h.holds.0.has_kind)

-- the items from node `first` up to node `end`: one name, or not
module _ (s w : List ℕ) (first end l : ℕ) {t : Bool} (small : length s ≤ schema_bytes) (q : t ≡ string_kind (node_kind w first)) where
  no_first : t ≡ false → (js : Items) → HoldsItems schema s w js l first end → list_type js ≡ none
  no_first f no_items x = refl
  no_first f (item j no_items) x = rw (no_name (record { small = small; level = l; holds = x.1 }) q f)
  no_first f (item j (item i js)) x = refl

  not-one : t ≡ true → (end - first ≡ 1 → ⊥) → (js : Items) → HoldsItems schema s w js l first end → list_type js ≡ none
  not-one f n no_items x = refl
  not-one f n (item j no_items) x = let h : Held s w j first = record { small = small; level = l; holds = x.1 } in let v = is_name h q f in absurd (n (omega (arith, v.leaf, x.2)))
  not-one f n (item j (item i js)) x = refl

  just_one : t ≡ true → end - first ≡ 1 → (js : Items) → HoldsItems schema s w js l first end → (n : Name) × (list_type js ≡ some (record { name = n; list = true })) × Named w first 0 n
  just_one f n no_items x = absurd (omega (arith, x))
  just_one f n (item j no_items) x = let h : Held s w j first = record { small = small; level = l; holds = x.1 } in let v = is_name h q f in (v.name, rw v.is, v.named)
  just_one f n (item j (item i js)) x = absurd (omega (arith, x.2.0, goes_on schema s w j l first x.1))

-- a flag by its node's kind
abbrev flag_of : ℕ → Option Bool
flag_of kind = cond (eqb kind false_node) (some false) (cond (eqb kind true_node) (some true) none)

flag_of_lem : (s w : List ℕ) (k : ℕ) (j : Json) (l : ℕ) → Holds schema s w j l k → as_flag j ≡ flag_of (node_kind w k)
flag_of_lem s w k (leaf a e null) l h = rw h.0.has_kind
flag_of_lem s w k (leaf a e (bool true)) l h = rw h.0.has_kind
flag_of_lem s w k (leaf a e (bool false)) l h = rw h.0.has_kind
flag_of_lem s w k (leaf a e (num true x)) l h = rw h.0.has_kind
flag_of_lem s w k (leaf a e (num false x)) l h = rw h.0.has_kind
flag_of_lem s w k (leaf a e (str cs)) l h = go (plain_string s a e) h.0.has_kind
  where
    go : (b : Bool) → node_kind w k ≡ cond b plain_string_node other_string_node → none ≡ flag_of (node_kind w k)
    go true x = rw x
    go false x = rw x
flag_of_lem s w k (arr a e js) l h = rw h.0.has_kind
flag_of_lem s w k (obj a e fs) l h = rw h.0.has_kind

-- what a link is
abbrev LinkSo : ℕ → ℕ → Option (Option Data) → Type 0
LinkSo n r o = (d : Option Data) → o ≡ some d → r ≡ if_absent 0 (data_link packed n) d

link-is : (n r : ℕ) (x : Option Data) → r ≡ if_absent 0 (data_link packed n) x → LinkSo n r (some x)
link-is n r x e d q = subst (λ (y : Option Data). r ≡ if_absent 0 (data_link packed n) y) (some_is q) e

-- a type by the word of its name
type_taken : {o : Option TypeText} {n : Name} {p : ℕ} (list : Bool) → o ≡ some (record { name = n; list = list }) → p ≡ packed n → TypeTold o (Ok (record { name = p; list = list }))
type_taken {n = n} list e q = record { type = record { name = n; list = list }; is = e; place = q; list = refl }

-- a return that is there
type_returned : (o : Option TypeText) (r : Result Text.TypeText NotDefinitions) → TypeTold o r → ReturnTold (o >>= λ t. some (some t)) r
type_returned o (Ok t) m = record { type = some m.type; is = rw m.is; place = m.place; list = m.list }
type_returned o (Err e) m = rw m

-- a list type, by the tests of its reader
module _ {w : List ℕ} {k : ℕ} where
  pub list-no_array : {bad : NotDefinitions} {x : ℕ} → x ≡ node_kind w k → (x ≡ array_node → ⊥) → ReadsList w k (Err bad)
  list-no_array e n = record { told = λ s j h. rw (no_array j h (λ q. n (e ∙ q))) }

  module _ {x end : ℕ} (e : x ≡ node_kind w k) (u : x ≡ array_node) (p : end ≡ next w k) where
    list-so : {r : Result Text.TypeText NotDefinitions} → ((s : List ℕ) (j : Json) (v : ArrayAt s w j k) → TypeTold (list_type v.items) r) → ReadsList w k r
    list-so f = record { told = λ s j h. let v = as_array j h (sym e ∙ u) in rw v.is (f s j v) }

    pub list_stuck : {bad : NotDefinitions} → end ≤ k → ReadsList w k (Err bad)
    list_stuck o = list-so (λ s j v. absurd (omega (arith, v.on)))

    module _ {first : ℕ} {t : Bool} (g : first ≡ suc k) (q : t ≡ string_kind (node_kind w first)) where
      there : {s : List ℕ} {j : Json} (v : ArrayAt s w j k) → HoldsItems schema s w v.items v.level first end
      there {s} v = subst₂ (λ (a b : ℕ). HoldsItems schema s w v.items v.level a b) (sym g) (sym p) v.holds

      pub list_no_string : {bad : NotDefinitions} → t ≡ false → ReadsList w k (Err bad)
      list_no_string f = list-so (λ s j v. no_first s w first end v.level v.small q f v.items (there v))

      pub list-other : {bad : NotDefinitions} → t ≡ true → (end - first ≡ 1 → ⊥) → ReadsList w k (Err bad)
      list-other f n = list-so (λ s j v. not-one s w first end v.level v.small q f n v.items (there v))

      pub list-one : t ≡ true → end - first ≡ 1 → {r : ℕ} → NameWord w first 0 packed r → ReadsList w k (Ok (record { name = r; list = true }))
      list-one f n m = list-so (λ s j v. let y = just_one s w first end v.level v.small q f n v.items (there v) in type_taken true y.1 (m.told y.0 y.2))

  module _ {t : Bool} (q : t ≡ string_kind (node_kind w k)) where
    pub type_name_lem : t ≡ true → {r : ℕ} → NameWord w k 0 packed r → ReadsType w k (Ok (record { name = r; list = false }))
    type_name_lem f m =
        record {
          told = λ s j h. let v = is_name h q f in type_taken false (rw v.kind (ap (λ (n : Name). some (record { name = n; list = false })) (sym v.here))) (m.told v.name v.named);
        }

    pub type-list : t ≡ false → {r : Result Text.TypeText NotDefinitions} → ReadsList w k r → ReadsType w k r
    type-list f m = record { told = λ s j h. rw (no_string h q f) (m.told s j h) }

-- a value that may be absent, by where it stands
module _ {w : List ℕ} where
  absent-so : {at : Std.Option ℕ} (P : Option Json → Type 0) → at ≡ None → P none → (s : List ℕ) (o : Option Json) → Found s w o at → P o
  absent-so P e p s o f = go o (subst (Found s w o) e f)
    where
      go : (o : Option Json) → Found s w o None → P o
      go none f = p
      go (some j) f = absurd f.found

  there-so : {at : Std.Option ℕ} {k : ℕ} (P : Option Json → Type 0) → at ≡ Some k → ((s : List ℕ) (j : Json) → Held s w j k → P (some j)) → (s : List ℕ) (o : Option Json) → Found s w o at → P o
  there-so {k = k} P e p s o f = go o (subst (Found s w o) e f)
    where
      go : (o : Option Json) → Found s w o (Some k) → P o
      go none f = absurd f.found
      go (some j) f = p s j (held-there f)

  module _ {at : Std.Option ℕ} where
    pub return_absent : at ≡ None → TakesReturn w at (Ok (record { name = 0; list = false }))
    return_absent e = record { told = absent-so (λ o. ReturnTold (may as_type o) (Ok (record { name = 0; list = false }))) e (record { type = none; is = refl; place = refl; list = refl }) }

    pub return_there : {k : ℕ} → at ≡ Some k → {r : Result Text.TypeText NotDefinitions} → ReadsType w k r → TakesReturn w at r
    return_there e {r} m = record { told = there-so (λ o. ReturnTold (may as_type o) r) e (λ s j h. type_returned (as_type j) r (m.told s j h)) }

    pub flag-absent : at ≡ None → TakesFlag w at (Ok false)
    flag-absent e = record { told = absent-so (λ o. FlagTold (may as_flag o) (Ok false)) e (record { value = none; is = refl; says = refl }) }

    module _ {k kind : ℕ} (n : at ≡ Some k) (e : kind ≡ node_kind w k) where
      flag-so : {r : Result Bool NotDefinitions} → FlagTold (flag_of kind >>= λ b. some (some b)) r → TakesFlag w at r
      flag-so {r} t = record {
        told = there-so (λ o. FlagTold (may as_flag o) r) n
            (λ s j h. subst (λ (o : Option Bool). FlagTold (o >>= λ b. some (some b)) r) (sym (flag_of_lem s w k j h.level h.holds ∙ ap flag_of (sym e))) t);
      }

      pub flag-false : kind ≡ false_node → TakesFlag w at (Ok false)
      flag-false q = flag-so (rw q record { value = some false; is = refl; says = refl })

      pub flag_true : kind ≡ true_node → TakesFlag w at (Ok true)
      flag_true q = flag-so (rw q record { value = some true; is = refl; says = refl })

      pub flag-other : {bad : NotDefinitions} → (kind ≡ false_node → ⊥) → (kind ≡ true_node → ⊥) → TakesFlag w at (Err bad)
      flag-other a b = flag-so (rw (ne_eqb kind false_node a, ne_eqb kind true_node b) refl)

    -- the link of a base or of data
    module _ {n : ℕ} where
      pub link-absent : at ≡ None → Links w at n 0
      link-absent e = record { told = absent-so (λ o. LinkSo n 0 (may as_data o)) e (link-is n 0 none refl) }

      module _ {k : ℕ} {t : Bool} (z : at ≡ Some k) (q : t ≡ string_kind (node_kind w k)) where
        link-there : {r : ℕ} → ((s : List ℕ) (j : Json) → Held s w j k → LinkSo n r (as_data j >>= λ d. some (some d))) → Links w at n r
        link-there {r} g = record { told = there-so (λ o. LinkSo n r (may as_data o)) z g }

        pub link-name : t ≡ true → {r : ℕ} → NameWord w k 0 packed r → Links w at n r
        link-name f {r} m = link-there (λ s j h. let v = is_name h q f in rw v.kind (link-is n r (some (named (quoted (start_of j) (end_of j)))) (m.told v.name v.named ∙ ap packed v.here)))

        pub link_row : t ≡ false → Links w at n (n + 2)
        link_row f = link-there (λ s j h. rw (no_string h q f) (go (as_members j)))
          where
            go : (o : Option (List Member)) → LinkSo n (n + 2) ((o >>= λ ms. some (inline ms)) >>= λ d. some (some d))
            go none = λ d e. none-not-some e
            go (some ms) = link-is n (n + 2) (some (inline ms)) (omega arith)

    pub base-absent : at ≡ None → BaseFits w at true
    base-absent e = record { told = absent-so (λ o. is (may as_name o) (λ _. true) ≡ true) e refl }

    pub base_there : {k : ℕ} {r : Bool} → at ≡ Some k → r ≡ string_kind (node_kind w k) → BaseFits w at r
    base_there {k} {r} z q = record { told = there-so (λ o. is (may as_name o) (λ _. true) ≡ r) z (λ s j h. by_name s j h r refl) }
      where
        by_name : (s : List ℕ) (j : Json) → Held s w j k → (b : Bool) → r ≡ b → is (as_name j >>= λ n. some (some n)) (λ _. true) ≡ b
        by_name s j h true e = rw (is_name h q e).is
        by_name s j h false e = rw (no_name h q e)
