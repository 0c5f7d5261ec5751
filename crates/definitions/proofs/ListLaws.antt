-- The children that a value lists, over its nodes: those passed are put, those left decide the rest.
-- The first child of a list is one row more, whatever the kind; the loop keeps the rows of those passed.
use Prim.Native.Nat.{ℕ, suc, ◌+◌, ◌*◌, ◌≤◌, ◌<◌}
use native.Mathlib.Numerals.{add-one}
use native.Mathlib.Omega.{arith}
use mathlib.Core.Path.{◌≡◌, refl, sym, ap, ◌∙◌, subst, subst₂}
use mathlib.Core.Bool.{Bool, true, false, cond}
use mathlib.Core.List.{List, [], ◌∷◌, ◌++◌, map, append_assoc, append-nil}
use mathlib.Core.Option.{Option, none, some}
use lib.Dec.{eqb}
use lib.ListN.{length, length-append}
use borrow.Author.Tests.{eqb-true, eqb-false}
use Rattle.grammar.specs.Limits.{schema_bytes, row_words}
use Rattle.grammar.specs.Tree.{Json, Items, Fields}
use Rattle.grammar.specs.Tree.Items.{no_items, item}
use Rattle.grammar.specs.Tree.Fields.{no_fields, field}
use Rattle.grammar.specs.Serving.Machine.Schema.{schema}
use Rattle.text.specs.Nodes.{next, HoldsItems, HoldsFields, node_kind}
use Rattle.text.proofs.KeyLaws.{goes_on}
use Rattle.rules.specs.Kinds.{value_kind, member_kind}
use Rattle.rules.specs.Definitions.{as_name, as_member, as_pair, each_item, each_field, as_names, as_members, as_pairs, must}
use Rattle.rules.specs.Values.{◌>>=◌}
use Rattle.rules.specs.SchemaTable.{concat}
use Rattle.std.specs.Prelude.{Some, None, Result, Ok, Err}
use Rattle.std.specs.Prelude as Std
use Rattle.definitions.specs.declared.writing.NotDefinitions.{NotDefinitions}
use Rattle.definitions.specs.Places.{Held, Found}
use Rattle.definitions.specs.Written.{RowPut, RowsAre, PutsRows}
use Rattle.definitions.specs.Parts.{value_row, member_row, pair_row, child_rows, member_field, pair_field, FieldAt, ChildAt, ChildrenAt}
use Rattle.definitions.specs.Parts.ChildAt.{value, member, pair}
use Rattle.definitions.proofs.Stores.{put-none, put-after, came, bounds, failed}
use Rattle.definitions.proofs.ShapeLaws.{held-there, as_array, as_object, no_array, no_object}
use Rattle.tokens.specs.NodeKinds.{array_node, object_node}

-- rows in front of others, if there are any
abbrev pub ahead : List ℕ → Option (List ℕ) → Option (List ℕ)
ahead xs o = o >>= λ ys. some (xs ++ ys)

abbrev pub joined : Option (List ℕ) → Option (List ℕ) → Option (List ℕ)
joined p q = p >>= λ xs. ahead xs q

pub ahead_none : (o : Option (List ℕ)) → o ≡ ahead [] o
ahead_none none = refl
ahead_none (some ys) = refl

pub ahead_more : (xs ys : List ℕ) (o : Option (List ℕ)) → ahead xs (ahead ys o) ≡ ahead (xs ++ ys) o
ahead_more xs ys none = refl
ahead_more xs ys (some zs) = ap some (sym (append_assoc xs ys zs))

-- the rows of a list, in one
abbrev pub rows_of_all : {A : Type 0} → (A → List ℕ) → Option (List A) → Option (List ℕ)
rows_of_all f o = o >>= λ l. some (concat (map f l))

first_rows : {A : Type 0} (f : A → List ℕ) (x : Option A) (y : Option (List A)) → rows_of_all f (x >>= λ a. y >>= λ l. some (a ∷ l)) ≡ joined (x >>= λ a. some (f a)) (rows_of_all f y)
first_rows f none y = refl
first_rows f (some a) none = refl
first_rows f (some a) (some l) = refl

mapped : {A : Type 0} (f : A → List ℕ) (x : Option (List A)) → (x >>= λ l. some (map f l)) >>= (λ rs. some (concat rs)) ≡ rows_of_all f x
mapped f none = refl
mapped f (some l) = refl

module _ (s w : List ℕ) (kind : ℕ) where
  -- the nodes from a up to e list children whose rows are these
  pub data Listed (a e : ℕ) (o : Option (List ℕ)) : Type 0 where
    values : kind ≡ value_kind → length s ≤ schema_bytes → (js : Items) (l : ℕ) → HoldsItems schema s w js l a e → o ≡ rows_of_all value_row (each_item as_name js) → Listed a e o
    fields : kind ≡ member_kind → length s ≤ schema_bytes → (fs : Fields) (l : ℕ) → HoldsFields schema s w fs l a e → o ≡ rows_of_all member_row (each_field as_member fs) → Listed a e o
    others : (kind ≡ value_kind → ⊥) → (kind ≡ member_kind → ⊥) → length s ≤ schema_bytes → (fs : Fields) (l : ℕ) → HoldsFields schema s w fs l a e
        → o ≡ rows_of_all (pair_row kind) (each_field as_pair fs) → Listed a e o

  listed-end : {a e : ℕ} {o : Option (List ℕ)} → e ≤ a → Listed a e o → o ≡ some []
  listed-end h (values q z no_items l x y) = y
  listed-end h (values q z (item j js) l x y) = absurd (omega (arith, x.0))
  listed-end h (fields q z no_fields l x y) = y
  listed-end h (fields q z (field b c cs j fs) l x y) = absurd (omega (arith, x.0))
  listed-end h (others p q z no_fields l x y) = y
  listed-end h (others p q z (field b c cs j fs) l x y) = absurd (omega (arith, x.0))

  pub record ListedFirst (a e : ℕ) (o : Option (List ℕ)) : Type 0 where
    pub here : Option (List ℕ)
    pub rest : Option (List ℕ)
    pub child : ChildAt s w kind a here
    pub on : a < next w a
    pub listed : Listed (next w a) e rest
    pub is : o ≡ joined here rest

  first_field : {f : ℕ → ℕ → List ℕ → Json → Option (List ℕ)} {a e : ℕ} → length s ≤ schema_bytes → (b c : ℕ) (cs : List ℕ) (j : Json) (fs : Fields) (l : ℕ)
      → HoldsFields schema s w (field b c cs j fs) l a e → FieldAt s w f a (f b c cs j)
  first_field z b c cs j fs l x =
      record {
        start = b;
        end = c;
        key = cs;
        value = j;
        keyed = record { small = z; node_is = x.1; means = x.2 };
        held = record { small = z; level = l; holds = x.3 };
        are = refl;
      }

  listed-first : {a e : ℕ} {o : Option (List ℕ)} → a < e → Listed a e o → ListedFirst a e o
  listed-first h (values q z no_items l x y) = absurd (omega (arith, x))
  listed-first {a} {e} h (values q z (item j js) l x y) =
      record {
        here = as_name j >>= λ v. some (value_row v);
        rest = rows_of_all value_row (each_item as_name js);
        child = value q record { value = j; held = record { small = z; level = l; holds = x.1 }; are = refl };
        on = goes_on schema s w j l a x.1;
        listed = values q z js l x.2 refl;
        is = y ∙ first_rows value_row (as_name j) (each_item as_name js);
      }
  listed-first h (fields q z no_fields l x y) = absurd (omega (arith, x))
  listed-first {a} {e} h (fields q z (field b c cs j fs) l x y) =
      record {
        here = member_field b c cs j;
        rest = rows_of_all member_row (each_field as_member fs);
        child = member q (first_field z b c cs j fs l x);
        on = omega (arith, goes_on schema s w j l (suc a) x.3, x.4);
        listed = fields q z fs l x.5 refl;
        is = y ∙ first_rows member_row (as_member b c cs j) (each_field as_member fs);
      }
  listed-first h (others p q z no_fields l x y) = absurd (omega (arith, x))
  listed-first {a} {e} h (others p q z (field b c cs j fs) l x y) =
      record {
        here = pair_field kind b c cs j;
        rest = rows_of_all (pair_row kind) (each_field as_pair fs);
        child = pair p q (first_field z b c cs j fs l x);
        on = omega (arith, goes_on schema s w j l (suc a) x.3, x.4);
        listed = others p q z fs l x.5 refl;
        is = y ∙ first_rows (pair_row kind) (as_pair b c cs j) (each_field as_pair fs);
      }

  -- the children passed are put from row n up to row m; those from node a up to node e are left
  pub record Passed (old now : List ℕ) (n a e m : ℕ) (o : Option (List ℕ)) : Type 0 where
    pub xs : List ℕ
    pub rest : Option (List ℕ)
    pub is : o ≡ ahead xs rest
    pub size : row_words * m ≡ row_words * n + length xs
    pub put : RowPut old now n xs
    pub listed : Listed a e rest

  pub record ChildrenLeft (old now : List ℕ) (n b a e m : ℕ) : Type 0 where
    pub same_length : length now ≡ length old
    pub small : a ≤ 0xFFFF_FFFF
    pub from : n ≤ m
    pub few : m + b ≤ n + a
    pub passed : (o : Option (List ℕ)) → Listed b e o → Passed old now n a e m o

module _ {s w : List ℕ} {kind : ℕ} {old : List ℕ} {n b e : ℕ} where
  pub children_begin : b ≤ 0xFFFF_FFFF → ChildrenLeft s w kind old old n b b e n
  children_begin h =
      record {
        same_length = refl;
        small = h;
        from = omega arith;
        few = omega arith;
        passed = λ o v. record { xs = []; rest = o; is = ahead_none o; size = omega arith; put = put-none old n; listed = v };
      }

  module _ {now : List ℕ} {a m : ℕ} (v : ChildrenLeft s w kind old now n b a e m) where
    -- one child more
    module _ {new : List ℕ} {r : Result ℕ NotDefinitions} (h : a < e) (g : PutsRows (ChildAt s w kind a) now new m 1 r) where
      pub children-on : {p i : ℕ} → r ≡ Ok p → i ≡ next w a → a < i → i ≤ 0xFFFF_FFFF → ChildrenLeft s w kind old new n b i e p
      children-on {p} {i} t y z j =
          let f = bounds g t in
          record {
            same_length = g.same_length ∙ v.same_length;
            small = j;
            from = omega (arith, v.from, f.0);
            few = omega (arith, v.few, f.1);
            passed = λ o l.
                let u = v.passed o l in
                let x = listed-first s w kind h u.listed in
                let c = came g t x.here x.child in
                record {
                  xs = u.xs ++ c.xs;
                  rest = x.rest;
                  is = u.is ∙ ap (ahead u.xs) (x.is ∙ ap (λ (q : Option (List ℕ)). joined q x.rest) c.are) ∙ ahead_more u.xs c.xs x.rest;
                  size = omega (arith, u.size, c.size, length-append u.xs c.xs);
                  put = put-after u.size u.put c.put;
                  listed = subst (λ (q : ℕ). Listed s w kind q e x.rest) (sym y) x.listed;
                };
          }

      pub children_fail : {bad : NotDefinitions} → r ≡ Err bad → (o : Option (List ℕ)) → Listed s w kind b e o → o ≡ none
      children_fail t o l =
          let u = v.passed o l in
          let x = listed-first s w kind h u.listed in
          u.is ∙ ap (ahead u.xs) (x.is ∙ ap (λ (q : Option (List ℕ)). joined q x.rest) (failed g t x.here x.child))

      pub children_stuck : {i : ℕ} → i ≡ next w a → i ≤ a → (o : Option (List ℕ)) → Listed s w kind b e o → o ≡ none
      children_stuck y z o l = absurd (omega (arith, (listed-first s w kind h (v.passed o l).listed).on))

    pub children-all : e ≤ a → (o : Option (List ℕ)) → Listed s w kind b e o → RowsAre o old now n m
    children-all h o l =
        let u = v.passed o l in
        record { xs = u.xs; are = u.is ∙ ap (ahead u.xs) (listed-end s w kind h u.listed) ∙ ap some (append-nil u.xs); size = u.size; put = u.put }

-- the value at node k lists children exactly if its kind is that of their list
module _ {s w : List ℕ} {kind k x list : ℕ} {there_at : Std.Option ℕ} (z : there_at ≡ Some k) (e : x ≡ node_kind w k) (f : list ≡ cond (eqb kind value_kind) array_node object_node) where
  there : {P : Option (List ℕ) → Type 0}
      → ((j : Json) → Held s w j k → (o : Option (List ℕ)) → o ≡ (child_rows kind j >>= λ rs. some (concat rs)) → P o) → (o : Option (List ℕ)) → ChildrenAt s w kind there_at o → P o
  there {P} g o v = go v.value (subst (Found s w v.value) z v.found) v.are
    where
      go : (y : Option Json) → Found s w y (Some k) → o ≡ (must (child_rows kind) y >>= λ rs. some (concat rs)) → P o
      go none u q = absurd u.found
      go (some j) u q = g j (held-there u) o q

  pub children-other : (x ≡ list → ⊥) → (o : Option (List ℕ)) → ChildrenAt s w kind there_at o → o ≡ none
  children-other n = there (λ j h o q. q ∙ go j h (eqb kind value_kind) (eqb kind member_kind) f)
    where
      go : (j : Json) → Held s w j k → (a b : Bool) → list ≡ cond a array_node object_node
          → (cond a (as_names j >>= λ vs. some (map value_row vs)) (cond b (as_members j >>= λ ms. some (map member_row ms)) (as_pairs j >>= λ ps. some (map (pair_row kind) ps)))
          >>= λ rs. some (concat rs))
          ≡ none
      go j h true b y = rw (no_array j h (λ q. n (e ∙ q ∙ sym y)))
      go j h false true y = rw (no_object j h (λ q. n (e ∙ q ∙ sym y)))
      go j h false false y = rw (no_object j h (λ q. n (e ∙ q ∙ sym y)))

  module _ {end : ℕ} (t : x ≡ list) (p : end ≡ next w k) where
    pub children-list : (o : Option (List ℕ)) → ChildrenAt s w kind there_at o → (k < end) × Listed s w kind (k + 1) end o
    children-list = there (λ j h o q. go j h o (eqb kind value_kind) (eqb kind member_kind) refl refl f q)
      where
        go : (j : Json) → Held s w j k → (o : Option (List ℕ)) (a b : Bool) → eqb kind value_kind ≡ a → eqb kind member_kind ≡ b → list ≡ cond a array_node object_node
            → o ≡ (cond a (as_names j >>= λ vs. some (map value_row vs)) (cond b (as_members j >>= λ ms. some (map member_row ms)) (as_pairs j >>= λ ps. some (map (pair_row kind) ps)))
            >>= λ rs. some (concat rs))
            → (k < end) × Listed s w kind (k + 1) end o
        go j h o true b u v y q =
            let r = as_array j h (sym e ∙ t ∙ y) in (
              omega (arith, r.on),
              values (eqb-true kind value_kind u) h.small r.items r.level (subst₂ (λ (i n : ℕ). HoldsItems schema s w r.items r.level i n) (sym (add-one k)) (sym p) r.holds)
                  (q ∙ rw r.is (mapped value_row (each_item as_name r.items))),
            )
        go j h o false true u v y q =
            let r = as_object j h (sym e ∙ t ∙ y) in (
              omega (arith, r.on),
              fields (eqb-true kind member_kind v) h.small r.fs r.fields.level
                  (subst₂ (λ (i n : ℕ). HoldsFields schema s w r.fs r.fields.level i n) (sym (add-one k)) (sym p) r.fields.holds)
                  (q ∙ rw r.is (mapped member_row (each_field as_member r.fs))),
            )
        go j h o false false u v y q =
            let r = as_object j h (sym e ∙ t ∙ y) in (
              omega (arith, r.on),
              others (eqb-false kind value_kind u) (eqb-false kind member_kind v) h.small r.fs r.fields.level
                  (subst₂ (λ (i n : ℕ). HoldsFields schema s w r.fs r.fields.level i n) (sym (add-one k)) (sym p) r.fields.holds)
                  (q ∙ rw r.is (mapped (pair_row kind) (each_field as_pair r.fs))),
            )

    pub list_stuck : end ≤ k → (o : Option (List ℕ)) → ChildrenAt s w kind there_at o → o ≡ none
    list_stuck q o v = absurd (omega (arith, (children-list o v).0))

pub list-absent : {s w : List ℕ} {kind : ℕ} {k : Std.Option ℕ} → k ≡ None → (o : Option (List ℕ)) → ChildrenAt s w kind k o → o ≡ none
list-absent {s} {w} {kind} e o v = go v.value (subst (Found s w v.value) e v.found) v.are
  where
    go : (y : Option Json) → Found s w y None → o ≡ (must (child_rows kind) y >>= λ rs. some (concat rs)) → o ≡ none
    go none u q = q
    go (some j) u q = absurd u.found
