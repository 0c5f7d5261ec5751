-- Walking the fields of an object over its nodes: the fields that are left decide what all do.
use Prim.Native.Nat.{ℕ, suc, ◌+◌, ◌≤◌, ◌<◌}
use native.Mathlib.Numerals.{add-one}
use native.Mathlib.Omega.{arith}
use mathlib.Core.Path.{◌≡◌, refl, sym, ap, ◌∙◌, subst}
use mathlib.Core.Bool.{Bool, true, false}
use mathlib.Core.List.{List}
use mathlib.Core.Option.{Option, some}
use Rattle.std.specs.Prelude.{Some, None}
use Rattle.std.specs.Prelude as Std
use Rattle.grammar.specs.Notation.{same}
use Rattle.grammar.specs.Tree.{Json, Fields}
use Rattle.grammar.specs.Tree.Fields.{no_fields, field}
use Rattle.grammar.specs.Serving.Machine.{Dialect}
use Rattle.rules.specs.Values.{value_at}
use Rattle.text.specs.Nodes.{next, Holds, HoldsFields}
use Rattle.text.specs.Fields.{KeyAt}
use Rattle.text.proofs.KeyLaws.{goes_on, no_keys}
use Rattle.lookups.specs.Lookups.{NodeMeans, ValueFound, FindsValue}

module _ (D : Dialect) (s w : List ℕ) where
  -- the first field of a range that is not empty
  pub record FirstField (fs : Fields) (l k n : ℕ) : Type 0 where
    pub start : ℕ
    pub end : ℕ
    pub key : List ℕ
    pub value : Json
    pub rest : Fields
    pub is : fs ≡ field start end key value rest
    pub at : KeyAt D s w k key
    pub holds : Holds D s w value l (suc k)
    pub on : k < next w k
    pub after : HoldsFields D s w rest l (next w k) n

  pub first_field : (fs : Fields) (l k n : ℕ) → k < n → HoldsFields D s w fs l k n → FirstField fs l k n
  first_field no_fields l k n h x = absurd (omega (arith, x))
  first_field (field a e cs j fs) l k n h x =
      record {
        start = a;
        end = e;
        key = cs;
        value = j;
        rest = fs;
        is = refl;
        at = record { start = a; end = e; node_is = x.1; means = x.2 };
        holds = x.3;
        on = omega (arith, goes_on D s w j l (suc k) x.3, x.4);
        after = x.5;
      }

  -- the fields from node a on are left of those from node b on: what `f` says of all it says of them
  pub record FieldsLeft {A : Type 0} (f : Fields → A) (b a n : ℕ) : Type 0 where
    pub rest : (fs : Fields) (l : ℕ) → HoldsFields D s w fs l b n → Fields
    pub holds : (fs : Fields) (l : ℕ) (h : HoldsFields D s w fs l b n) → HoldsFields D s w (rest fs l h) l a n
    pub same_so : (fs : Fields) (l : ℕ) (h : HoldsFields D s w fs l b n) → f fs ≡ f (rest fs l h)

  pub all_left : {A : Type 0} (f : Fields → A) (b n : ℕ) → FieldsLeft f b b n
  all_left f b n = record { rest = λ fs l h. fs; holds = λ fs l h. h; same_so = λ fs l h. refl }

  module _ {A : Type 0} {f : Fields → A} {b a n : ℕ} (v : FieldsLeft f b a n) where
    pub left-first : a < n → (fs : Fields) (l : ℕ) (h : HoldsFields D s w fs l b n) → FirstField (v.rest fs l h) l a n
    left-first q fs l h = first_field (v.rest fs l h) l a n q (v.holds fs l h)

    -- one field on, if it says nothing
    pub left-on : (m : ℕ) → a < n → m ≡ next w a
        → ((x e : ℕ) (key : List ℕ) (j : Json) (gs : Fields) → KeyAt D s w a key → f (field x e key j gs) ≡ f gs) → FieldsLeft f b m n
    left-on m q p g =
        record {
          rest = λ fs l h. (left-first q fs l h).rest;
          holds = λ fs l h. let y = left-first q fs l h in subst (λ (i : ℕ). HoldsFields D s w y.rest l i n) (sym p) y.after;
          same_so = λ fs l h. let y = left-first q fs l h in v.same_so fs l h ∙ ap f y.is ∙ g y.start y.end y.key y.value y.rest y.at;
        }

    pub left_end : n ≤ a → (fs : Fields) (l : ℕ) → HoldsFields D s w fs l b n → f fs ≡ f no_fields
    left_end q fs l h = v.same_so fs l h ∙ ap f (no_keys D s w (v.rest fs l h) l a n q (v.holds fs l h))

    pub left_stuck : (m : ℕ) → a < n → m ≡ next w a → m ≤ a → (fs : Fields) (l : ℕ) → HoldsFields D s w fs l b n → ⊥
    left_stuck m q p o fs l h = omega (arith, (left-first q fs l h).on)

  -- the value under a key of the object at node k, whose next is n; the fields from node a on are left
  found-so : (k n : ℕ) {name : List ℕ} {r : Std.Option ℕ} → n ≡ next w k
      → ((fs : Fields) (l : ℕ) → HoldsFields D s w fs l (suc k) n → ValueFound D s w l (value_at name fs) r) → FindsValue D s w k name r
  found-so k n p g = record { told = λ fs l h. g fs l (subst (λ (i : ℕ). HoldsFields D s w fs l (suc k) i) (sym p) h) }

  pub value-end : {k n a : ℕ} {name : List ℕ} → n ≡ next w k → FieldsLeft (value_at name) (suc k) a n → n ≤ a → FindsValue D s w k name None
  value-end {k} {n} {name = name} p v q = found-so k n p (λ fs l h. subst (λ (o : Option Json). ValueFound D s w l o None) (sym (left_end v q fs l h)) tt)

  pub value_none : {k n : ℕ} (name : List ℕ) → n ≡ next w k → n ≤ k → FindsValue D s w k name None
  value_none {k} {n} name p q = value-end p (all_left (value_at name) (suc k) n) (omega arith)

  pub value_stuck : {k n a : ℕ} {name : List ℕ} (m : ℕ) → n ≡ next w k → FieldsLeft (value_at name) (suc k) a n → a < n → m ≡ next w a → m ≤ a → FindsValue D s w k name None
  value_stuck {k} {n} m p v q e o = found-so k n p (λ fs l h. absurd (left_stuck v m q e o fs l h))

  pub value_hit : {k n a : ℕ} {name : List ℕ} {r : Bool} → n ≡ next w k → FieldsLeft (value_at name) (suc k) a n → a < n
      → NodeMeans D s w a name r → r ≡ true → FindsValue D s w k name (Some (a + 1))
  value_hit {k} {n} {a} {name} {r} p v q g t = found-so k n p (λ fs l h. go fs l h (left-first v q fs l h))
    where
      go : (fs : Fields) (l : ℕ) (h : HoldsFields D s w fs l (suc k) n) → FirstField (v.rest fs l h) l a n → ValueFound D s w l (value_at name fs) (Some (a + 1))
      go fs l h y =
          let e : same y.key name ≡ true = sym (g.key y.key y.at) ∙ t in
          let u : value_at name fs ≡ some y.value = v.same_so fs l h ∙ ap (value_at name) y.is ∙ rw e refl in
          subst (λ (o : Option Json). ValueFound D s w l o (Some (a + 1))) (sym u) (omega arith, subst (λ (i : ℕ). Holds D s w y.value l i) (sym (add-one a)) y.holds)

  pub value_on : {k n a : ℕ} {name : List ℕ} {r : Bool} (m : ℕ) → FieldsLeft (value_at name) (suc k) a n → a < n
      → NodeMeans D s w a name r → r ≡ false → m ≡ next w a → FieldsLeft (value_at name) (suc k) m n
  value_on {name = name} {r} m v q g t e = left-on v m q e (λ x y key j gs u. rw (sym (g.key key u) ∙ t))

  -- the code counts from k to k + 1
  pub value_begin : (name : List ℕ) (k n : ℕ) → FieldsLeft (value_at name) (suc k) (k + 1) n
  value_begin name k n = rw (add-one k) (all_left (value_at name) (suc k) n)
