-- The kind of a definition: the kind key that it has, no key but those of the kind, and the body that they say.
use Prim.Native.Nat.{ℕ, zero, suc}
use mathlib.Core.Path.{◌≡◌, sym, ap, ◌∙◌, subst}
use mathlib.Core.Bool.{Bool, true, false}
use mathlib.Core.List.{List}
use mathlib.Core.Option.{Option, none, some}
use borrow.Author.Tests.{ne_eqb}
use native.Mathlib.Omega.{arith}
use Rattle.std.specs.Prelude.{Some, None}
use Rattle.std.specs.Prelude as Std
use Rattle.grammar.specs.Notation.{same, apart}
use Rattle.grammar.specs.Tree.{Json, Fields}
use Rattle.grammar.specs.Tree.Json.{leaf, arr, obj}
use Rattle.grammar.proofs.Booleans.{both, none-not-some}
use Rattle.grammar.specs.Keys.{keys_of, keys_once, keys_once_f}
use Rattle.text.specs.Nodes.{node_kind}
use Rattle.grammar.specs.Serving.Machine.Schema.{schema}
use Rattle.lookups.specs.Lookups.{string_kind, ValueFound, FindsValue}
use Rattle.rules.specs.Kinds.{enum_kind, struct_kind, union_kind, alternate_kind, command_kind}
use Rattle.rules.specs.Definitions.{Definition, as_definition}
use Rattle.rules.specs.Values.{◌>>=◌, value_at, as_fields}
use Rattle.definitions.specs.declared.definitions.KindKey.{KindKey}
use Rattle.definitions.specs.Places.{if_any}
use Rattle.definitions.specs.Parts.{FieldsAt, KindKeys, keys_of_kind, BodyAt, rows_at, KindAt, KindFound, KindTold, FindsKind, DefinitionAt}
use Rattle.definitions.proofs.NameLaws.{is_name, no_name}
use Rattle.definitions.proofs.ShapeLaws.{as_object, no_object}
use Rattle.tokens.specs.NodeKinds.{object_node}

-- a definition of that kind, by its name
pub last-kind : (kind : ℕ) → (kind ≡ enum_kind → ⊥) → (kind ≡ struct_kind → ⊥) → (kind ≡ union_kind → ⊥) → (kind ≡ alternate_kind → ⊥) → keys_of_kind kind ≡ keys_of_kind command_kind
last-kind kind a b c d = rw (ne_eqb kind enum_kind a, ne_eqb kind struct_kind b, ne_eqb kind union_kind c, ne_eqb kind alternate_kind d)

module _ {s w : List ℕ} {kind k v n : ℕ} {r : Bool} (q : r ≡ string_kind (node_kind w v)) where
  pub kind_no_name : r ≡ false → (o : Option (List ℕ)) → KindAt s w kind k v n o → o ≡ none
  kind_no_name e o h = h.are ∙ rw (no_name h.held q e)

  pub kind-named : {ks : KindKeys} → r ≡ true → keys_of_kind kind ≡ ks → (o : Option (List ℕ)) → KindAt s w kind k v n o → BodyAt s w ks k v n o
  kind-named u e o h =
      let x = is_name h.held q u in
      let body : BodyAt s w (keys_of_kind kind) k v n o =
      record { fs = h.fs; fields = h.fields; once = h.once; own = h.own; name = x.name; named = x.named; are = h.are ∙ rw x.is } in
      subst (λ (ks : KindKeys). BodyAt s w ks k v n o) e body

-- a top-level value
fields-once : (j : Json) {fs : Fields} → as_fields j ≡ some fs → keys_once j ≡ true → apart same (keys_of fs) ≡ true
fields-once (leaf a e v) h o = none-not-some h
fields-once (arr a e js) h o = none-not-some h
fields-once (obj a e gs) {fs} h o = let q : gs ≡ fs = cc in rw (← q) (both (apart same (keys_of gs)) (keys_once_f gs) o).0

-- a value that is found stands at a node after its object's, so not at 0
own-node : {s w : List ℕ} {name : List ℕ} {fs : Fields} {k : ℕ} {v : ℕ} → FieldsAt s w fs k → FindsValue schema s w k name (Some v) → FindsValue schema s w k name (if_any v)
own-node {s} {w} {name} {fs} {v = suc v} h g = g
own-node {s} {w} {name} {fs} {v = zero} h g = go (value_at name fs) (g.told fs h.level h.holds)
  where
    go : {A : Type 0} (o : Option Json) → ValueFound schema s w h.level o (Some zero) → A
    go none f = absurd f
    go (some j) f = absurd (omega (arith, f.0))

module _ {s w : List ℕ} {k n x : ℕ} (e : x ≡ node_kind w k) where
  pub definition_no_object : (x ≡ object_node → ⊥) → (o : Option (List ℕ)) → DefinitionAt s w k n o → o ≡ none
  definition_no_object z o h = h.are ∙ rw (no_object h.value h.held (λ q. z (e ∙ q)))

  module _ {r : Std.Option KindKey} (t : x ≡ object_node) (g : FindsKind s w k r) where
    pub definition_no_kind : r ≡ None → (o : Option (List ℕ)) → DefinitionAt s w k n o → o ≡ none
    definition_no_kind q o h =
        let v = as_object h.value h.held (sym e ∙ t) in
        let y : as_definition v.fs ≡ none = subst (λ (i : Std.Option KindKey). KindTold s w v.fs i) q (g.told v.fs v.fields) in
        h.are ∙ rw v.is (ap (λ (i : Option Definition). i >>= rows_at n) y)

    pub definition_handed : {key : KindKey} → r ≡ Some key → (o : Option (List ℕ)) → DefinitionAt s w k n o → KindAt s w key.kind k key.node n o
    definition_handed {key} q o h =
        let v = as_object h.value h.held (sym e ∙ t) in
        let y : KindTold s w v.fs (Some key) = subst (λ (i : Std.Option KindKey). KindTold s w v.fs i) q (g.told v.fs v.fields) in
        record {
          fs = v.fs;
          fields = v.fields;
          once = fields-once h.value v.is h.once;
          own = own-node v.fields (subst (λ (i : Std.Option KindKey). KindFound s w k i) q g.found);
          value = y.0;
          held = y.1;
          are = h.are ∙ rw v.is (ap (λ (i : Option Definition). i >>= rows_at n) y.2);
        }
