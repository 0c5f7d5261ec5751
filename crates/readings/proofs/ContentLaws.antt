-- What is read inside a value at a type that is no alternate: at a built-in, or by its shape, as the words of its node have it.
-- The idea: each return decides the tests of the reading; a node's kind says which of the three shapes the value has.
use Prim.Native.Nat.{ℕ, ◌-◌, ◌<◌, ◌≤◌}
use mathlib.Core.Path.{◌≡◌, refl, sym, ap, ◌∙◌}
use mathlib.Core.Bool.{Bool, true, false, cond}
use mathlib.Core.List.{List, ◌++◌}
use mathlib.Core.Option.{Option, none}
use native.Mathlib.Omega.{arith}
use lib.Dec.{ltb}
use borrow.Author.Tests.{ne_eqb, le-leb, lt-leb, lt-ltb}
use Rattle.grammar.specs.Tree.{Scalar, Json, Fields, scalar_kind}
use Rattle.grammar.specs.Tree.Scalar.{null, bool, num, str}
use Rattle.grammar.specs.Tree.Json.{leaf, arr, obj}
use Rattle.grammar.specs.Tree.Kind.{string}
use Rattle.grammar.specs.Notation.{same, apart}
use Rattle.grammar.specs.Keys.{keys_of, keys_once, keys_once_f}
use Rattle.grammar.specs.Serving.Machine.Message.{message}
use Rattle.rules.specs.Kinds.{enum_kind}
use Rattle.rules.specs.Types.{first_row, same_kind}
use Rattle.rules.specs.Rows.{kind, children}
use Rattle.rules.specs.Readings.{Typed, typed}
use Rattle.rules.specs.Serving.ReadingOf.{under, enum_has, mandatory_there, fields_reading}
use Rattle.rules.proofs.Lists.{clash, and_left}
use Rattle.rules.proofs.ReadingParts.{plain-built_in, enum_has_lem}
use Rattle.tokens.specs.NodeKinds.{array_node, object_node}
use Rattle.tokens.proofs.ScalarNodes.{scalar_kind_lem}
use Rattle.text.specs.Nodes.{Holds, node_kind}
use Rattle.lookups.specs.Lookups.{string_kind}
use Rattle.lookups.proofs.NodeLaws.{string_node_lem}
use Rattle.children.specs.Index.{IndexedTable}
use Rattle.children.specs.Children.{ChildMeant}
use Rattle.lookups.specs.Lookups.MeaningAt.{a_string}
use Rattle.members.specs.Members.{StructsTold, StructsAt}
use Rattle.readings.specs.Parts.{BuiltInTakes, EnumHas, AtBuiltIn, ContentTold, Elsewhere, ScalarContent, ArrayContent, ObjectContent, ContentAt}
use Rattle.members.specs.declared.objects.Structs.{Structs}
use Rattle.members.specs.declared.objects.Structs.TheVariants.{Links, NoObject}
use Rattle.readings.specs.declared.contents.Content.{Content}
use Rattle.readings.specs.declared.contents.Content.TheVariants.{Alone, Elements, Members, Misfit}
use Rattle.members.proofs.MemberLaws.{not0, one_of}

-- values of enums
module _ {S T m w ix : List ℕ} {k t : ℕ} where
  pub below_enums : t < first_row → EnumHas S T m w ix k t false
  unfolding enum_has
  below_enums h = record { told = λ a e l v d x. rw (lt-leb first_row t h) }

  module _ (h : first_row ≤ t) {r y : ℕ} (p : r ≡ t - first_row) (q : y ≡ kind T r) where
    pub no_enum : (y ≡ enum_kind → ⊥) → EnumHas S T m w ix k t false
    unfolding enum_has
    no_enum n = record { told = λ a e l v d x. rw (le-leb first_row t h, ← p, ← q, ne_eqb y enum_kind n) }

    module _ (o : y ≡ enum_kind) {s : Bool} (i : s ≡ string_kind (node_kind w k)) where
      pub no_string : s ≡ false → EnumHas S T m w ix k t false
      unfolding enum_has
      no_string f = record { told = λ a e l v d x. go a e l v x (sym (string_node_lem message m w (leaf a e v) l k x) ∙ sym i ∙ f) }
        where
          go : (a e l : ℕ) (v : Scalar) → Holds message m w (leaf a e v) l k → same_kind (scalar_kind v) string ≡ false → false ≡ enum_has S T t v
          go a e l null x z = rw (le-leb first_row t h, ← p, ← q, o)
          go a e l (bool b) x z = rw (le-leb first_row t h, ← p, ← q, o)
          go a e l (num b token) x z = rw (le-leb first_row t h, ← p, ← q, o)
          go a e l (str cs) x z = absurd (clash refl z)

      pub of_enum : s ≡ true → {c : ℕ} → ChildMeant S T m w ix r k c → EnumHas S T m w ix k t (not0 c)
      of_enum f {c} g = record { told = λ a e l v d x. go a e l v d x (sym (string_node_lem message m w (leaf a e v) l k x) ∙ sym i ∙ f) }
        where
          go : (a e l : ℕ) (v : Scalar) → IndexedTable S T ix → Holds message m w (leaf a e v) l k → same_kind (scalar_kind v) string ≡ true → not0 c ≡ enum_has S T t v
          go a e l null d x z = absurd (clash z refl)
          go a e l (bool b) d x z = absurd (clash z refl)
          go a e l (num b token) d x z = absurd (clash z refl)
          go a e l (str cs) d x z = ap not0 (g.told cs d (a_string a e l x)) ∙ one_of S T cs (children T r) ∙ sym (enum_has_lem S T t r cs (omega arith) (sym q ∙ o))

-- whether it is a built-in
module _ {t f : ℕ} where
  pub no_plain : (f ≡ 0 → ⊥) → AtBuiltIn t f false
  no_plain n = record { told = rw (ne_eqb f 0 n) }

  module _ (z : f ≡ 0) where
    pub no_type : t ≡ 0 → AtBuiltIn t f false
    no_type e = record { told = rw (z, e) }

    pub by_number : (t ≡ 0 → ⊥) → AtBuiltIn t f (ltb t first_row)
    by_number n = record { told = rw (z, lt-ltb 0 t (omega arith)) }

-- at a built-in: grid and range, whatever the value is
module _ {S T m w ix : List ℕ} {k t f : ℕ} {i : Bool} (p : AtBuiltIn t f i) (z : i ≡ true) {t' : ℕ} (q : t' ≡ t) {b : Bool} (g : BuiltInTakes m w k t' b) where
  pub built_in_misfits : b ≡ false → ContentAt S T m w ix k t f Misfit
  built_in_misfits e = record { told = λ j l o h once y. plain-built_in y S T j t f (sym p.told ∙ z) ∙ rw (← rw q at (g.told j l h), e) }

  pub built_in-alone : b ≡ true → ContentAt S T m w ix k t f Alone
  built_in-alone e = record { told = λ j l o h once y. plain-built_in y S T j t f (sym p.told ∙ z) ∙ rw (← rw q at (g.told j l h), e) }

-- the content of a scalar
module _ {S T m w ix : List ℕ} {k t f : ℕ} where
  pub scalar-array : (f ≡ 0 → ⊥) → ScalarContent S T m w ix k t f Misfit
  scalar-array n = record { told = λ u a e l v d x b. rw (ne_eqb f 0 n) }

  module _ (z : f ≡ 0) {b : Bool} (g : EnumHas S T m w ix k t b) where
    pub scalar_misfits : b ≡ false → ScalarContent S T m w ix k t f Misfit
    scalar_misfits h = record { told = λ u a e l v d x y. rw (u, z, ← g.told a e l v d x, h) }

    pub scalar-alone : b ≡ true → ScalarContent S T m w ix k t f Alone
    scalar-alone h = record { told = λ u a e l v d x y. rw (u, z, ← g.told a e l v d x, h) }

-- the content of an array
module _ {f : ℕ} where
  pub array_elements : f ≡ 1 → ArrayContent f Elements
  array_elements z = record {
    told = λ t u S T a e js. record { start = a; end = e; items = js; is_array = refl; reading = λ b. rw z };
  }

  pub array_misfits : (f ≡ 1 → ⊥) → ArrayContent f Misfit
  array_misfits n = record { told = λ t u S T a e js b. rw (u, ne_eqb f 1 n) }

-- the content of an object: what leaves no reading inside leaves none
under-cond : (b : Bool) (x : Typed) (o : Option (List Typed)) → cond b (under x o) none ≡ under x (cond b o none)
under-cond true x o = refl
under-cond false x o = refl

module _ {S T m w ix : List ℕ} {k t f : ℕ} where
  pub object-array : (f ≡ 0 → ⊥) → ObjectContent S T m w ix k t f Misfit
  object-array n = record { told = λ d a e fs o u b. rw (ne_eqb f 0 n) }

  module _ (z : f ≡ 0) {x : Structs} (g : StructsAt S T m w ix k t x) where
    pub object-members : {b c : ℕ} → x ≡ Links b c → ObjectContent S T m w ix k t f (Members b c)
    object-members {b} {c} h = record { told = λ v a e fs o u. go v a e fs (rw h at (g.told fs o u)) }
      where
        go : Elsewhere t f → (a e : ℕ) (fs : Fields) → StructsTold S T t fs (Links b c) → ContentTold S T (obj a e fs) t f (Members b c)
        go v a e fs d = record {
          start = a;
          end = e;
          fields = fs;
          is_object = refl;
          structs = d;
          reading = λ y. rw (v, z, d.both)
              (under-cond (mandatory_there S T (d.base ++ d.branch) fs) (typed (obj a e fs) t 0) (fields_reading y S T fs (d.base ++ d.branch)));
        }

    pub object_misfits : x ≡ NoObject → ObjectContent S T m w ix k t f Misfit
    object_misfits h = record { told = λ v a e fs o u. go v a e fs (rw h at (g.told fs o u)) }
      where
        go : Elsewhere t f → (a e : ℕ) (fs : Fields) → StructsTold S T t fs NoObject → ContentTold S T (obj a e fs) t f Misfit
        go v a e fs d y = rw (v, z, d)

-- the content of a value, by its node's kind
module _ (S T m w : List ℕ) {ix : List ℕ} {k t f y : ℕ} {x : Content} {i : Bool} (p : AtBuiltIn t f i) (n : i ≡ false) (q : y ≡ node_kind w k) where
  pub content_array : y ≡ array_node → ArrayContent f x → ContentAt S T m w ix k t f x
  content_array e g = record { told = λ j l o h once. go j l h }
    where
      go : (j : Json) (l : ℕ) → Holds message m w j l k → ContentTold S T j t f x
      go (leaf a z v) l h = absurd (omega (arith, (scalar_kind_lem m a z v).1, h.0.has_kind))
      go (arr a z js) l h = g.told t (sym p.told ∙ n) S T a z js
      go (obj a z fs) l h = absurd (omega (arith, h.0.has_kind))

  pub content_object : y ≡ object_node → ObjectContent S T m w ix k t f x → ContentAt S T m w ix k t f x
  content_object e g = record { told = λ j l o h once. go j l o h once }
    where
      go : (j : Json) (l : ℕ) → IndexedTable S T ix → Holds message m w j l k → keys_once j ≡ true → ContentTold S T j t f x
      go (leaf a z v) l o h once = absurd (omega (arith, (scalar_kind_lem m a z v).1, h.0.has_kind))
      go (arr a z js) l o h once = absurd (omega (arith, h.0.has_kind))
      go (obj a z fs) l o h once = g.told (sym p.told ∙ n) a z fs o (record { levels = l - 1; holds = h.3; once = and_left (apart same (keys_of fs)) (keys_once_f fs) once })

  pub content_scalar : (y ≡ array_node → ⊥) → (y ≡ object_node → ⊥) → ScalarContent S T m w ix k t f x → ContentAt S T m w ix k t f x
  content_scalar d e g = record { told = λ j l o h once. go j l o h }
    where
      go : (j : Json) (l : ℕ) → IndexedTable S T ix → Holds message m w j l k → ContentTold S T j t f x
      go (leaf a z v) l o h = g.told (sym p.told ∙ n) a z l v o h
      go (arr a z js) l o h = absurd (d (q ∙ h.0.has_kind))
      go (obj a z fs) l o h = absurd (e (q ∙ h.0.has_kind))
