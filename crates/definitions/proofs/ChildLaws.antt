-- One child of a definition as one row: a value of an enum, a member, a branch or an alternative.
use Prim.Native.Nat.{ℕ, suc, ◌+◌}
use native.Mathlib.Numerals.{add-one}
use native.Mathlib.Omega.{arith}
use mathlib.Core.Path.{◌≡◌, refl, sym, ap, ◌∙◌, subst}
use mathlib.Core.Bool.{Bool, true, false}
use mathlib.Core.List.{List}
use mathlib.Core.Option.{Option, some}
use Rattle.grammar.specs.Tree.{Json}
use Rattle.text.specs.Nodes.{node_kind}
use Rattle.lookups.specs.Lookups.{string_kind}
use Rattle.rules.specs.Kinds.{value_kind, member_kind}
use Rattle.rules.specs.Definitions.{Name, TypeText, quoted, starred, keyed_member, as_type}
use Rattle.rules.specs.SchemaTable.{row, flag, list_flag, type_of}
use Rattle.rules.specs.Serving.RawTable.{packed}
use Rattle.std.specs.Prelude.{Result, Ok, Err, IsErr}
use Rattle.definitions.specs.declared.writing.NotDefinitions.{NotDefinitions}
use Rattle.definitions.specs.declared.shapes.TypeText as Text
use Rattle.definitions.specs.Places.{Held, Named, NameWord, NamedRow, Star, TypeTold, ReadsType}
use Rattle.definitions.specs.Written.{RowPut, PutsRows}
use Rattle.definitions.specs.Parts.{ValueAt, FieldAt, member_field, pair_field, value_row, member_row, ChildAt}
use Rattle.grammar.specs.Limits.{row_words}
use lib.ListN.{length, set}
use Rattle.definitions.specs.Parts.ChildAt.{value, member, pair}
use Rattle.definitions.proofs.Stores.{handed, refused, passed_on}
use Rattle.definitions.proofs.NameLaws.{is_name, no_name, key-named, member-named}

-- a row is all that is put
one-row : {P : Option (List ℕ) → Type 0} {old new own : List ℕ} {n : ℕ} → RowPut old new n own
    → ((o : Option (List ℕ)) → P o → (xs : List ℕ) × (own ≡ xs) × (length xs ≡ row_words) × (o ≡ some xs)) → PutsRows P old new n 1 (Ok (n + 1))
one-row {old = old} {new} {n = n} h f =
    record {
      same_length = h.same_length;
      few = (omega arith, omega arith);
      told = λ o p. let v = f o p in record { xs = v.0; are = v.3; size = omega (arith, v.2); put = subst (λ (xs : List ℕ). RowPut old new n xs) v.1 h };
    }

-- the held value is that of node a + 1
held_next : {s w : List ℕ} {j : Json} {a : ℕ} → Held s w j (suc a) → Held s w j (a + 1)
held_next {s} {w} {j} {a} h = subst (λ (i : ℕ). Held s w j i) (sym (add-one a)) h

value-held : {s w : List ℕ} {a b : ℕ} {f : ℕ → ℕ → List ℕ → Json → Option (List ℕ)} {o : Option (List ℕ)} → b ≡ a + 1 → (v : FieldAt s w f a o) → Held s w v.value b
value-held {s} {w} e v = subst (λ (i : ℕ). Held s w v.value i) (sym e) (held_next v.held)

-- the row of a member does not depend on how its name begins
member_row_lem : (x e : ℕ) (b : Bool) (t : TypeText)
    → member_row (keyed_member x e b t) ≡ row member_kind (keyed_member x e b t).name (type_of packed t) (list_flag t) (flag b) 0
member_row_lem x e true t = refl
member_row_lem x e false t = refl

member_wide : (x e : ℕ) (b : Bool) (t : TypeText) → length (member_row (keyed_member x e b t)) ≡ row_words
member_wide x e true t = refl
member_wide x e false t = refl

same_row : {p q r i j k : ℕ} (n : Name) → p ≡ i → q ≡ j → r ≡ k → row member_kind n p q r 0 ≡ row member_kind n i j k 0
same_row n e f g = cc

type_of_lem : {s w : List ℕ} {a : ℕ} {r x : Result Text.TypeText NotDefinitions} {o : Option (List ℕ)} → ReadsType w (a + 1) r → r ≡ x → (v : FieldAt s w member_field a o) → TypeTold (as_type v.value) x
type_of_lem {s} {o = o} h e v = subst (λ (y : Result Text.TypeText NotDefinitions). TypeTold (as_type v.value) y) e (h.told s v.value (held_next v.held))

module _ {s w old : List ℕ} {a n : ℕ} where
  module _ {t : Bool} (q : t ≡ string_kind (node_kind w a)) where
    pub value-refused : t ≡ false → {bad : NotDefinitions} → PutsRows (ValueAt s w a) old old n 1 (Err bad)
    value-refused f = refused refl (λ (o : Option (List ℕ)) (v : ValueAt s w a o). v.are ∙ rw (no_name v.held q f))

    pub value-put : {new own : List ℕ} → t ≡ true → NamedRow w a 0 value_kind own → RowPut old new n own → PutsRows (ValueAt s w a) old new n 1 (Ok (n + 1))
    value-put f m h = one-row h (λ (o : Option (List ℕ)) (v : ValueAt s w a o). let u = is_name v.held q f in (value_row u.name, m.told u.name u.named, refl, v.are ∙ rw u.is))

  module _ (kind : ℕ) {b : ℕ} {t : Bool} (e : b ≡ a + 1) (q : t ≡ string_kind (node_kind w b)) where
    pub pair-refused : t ≡ false → {bad : NotDefinitions} → PutsRows (FieldAt s w (pair_field kind) a) old old n 1 (Err bad)
    pair-refused f = refused refl (λ (o : Option (List ℕ)) (v : FieldAt s w (pair_field kind) a o). v.are ∙ rw (no_name (value-held e v) q f))

    pub pair_put : {new own : List ℕ} {r : ℕ} → t ≡ true → NameWord w b 0 packed r → NamedRow w a 0 kind own → RowPut old new n (set own 3 r) → PutsRows (FieldAt s w (pair_field kind) a) old new n 1 (Ok (n + 1))
    pair_put {r = r} f m g h =
        one-row h (λ (o : Option (List ℕ)) (v : FieldAt s w (pair_field kind) a o).
        let u = is_name (value-held e v) q f in
        let x : r ≡ packed u.name = m.told u.name u.named in
        let name = quoted v.start v.end in (
          row kind name r 0 0 0,
          ap (λ (i : List ℕ). set i 3 r) (g.told name (key-named v.keyed)),
          refl,
          v.are ∙ rw (u.is, x) refl,
        ))

  module _ {r : Result Text.TypeText NotDefinitions} (h : ReadsType w (a + 1) r) where
    pub member-refused : {bad : NotDefinitions} {x : Result ℕ NotDefinitions} → r ≡ Err bad → IsErr x → PutsRows (FieldAt s w member_field a) old old n 1 x
    member-refused e q = passed_on q refl (λ (o : Option (List ℕ)) (v : FieldAt s w member_field a o). v.are ∙ rw (type_of_lem h e v))

    pub member-put : {new own : List ℕ} {type : Text.TypeText} {starry : Bool} {list optional : ℕ} → r ≡ Ok type → Star s w a starry → list ≡ flag type.list → optional ≡ flag starry
        → NamedRow w a optional member_kind own → RowPut old new n (set (set (set own 3 type.name) 4 list) 5 optional) → PutsRows (FieldAt s w member_field a) old new n 1 (Ok (n + 1))
    member-put {type = type} {starry} {list} {optional} e g i j m d =
        one-row d (λ (o : Option (List ℕ)) (v : FieldAt s w member_field a o).
        let t : TypeTold (as_type v.value) (Ok type) = type_of_lem h e v in
        let b = starred v.key in
        let x : optional ≡ flag b = j ∙ ap flag (g.told v.start v.end v.key v.keyed) in
        let name = (keyed_member v.start v.end b t.type).name in
        let y : Named w a (flag b) name = member-named v.keyed t.type in
        let z : member_field v.start v.end v.key v.value ≡ some (member_row (keyed_member v.start v.end b t.type)) = rw t.is in (
          member_row (keyed_member v.start v.end b t.type),
          ap (λ (xs : List ℕ). set (set (set xs 3 type.name) 4 list) 5 optional) (m.told name (subst (λ (i : ℕ). Named w a i name) (sym x) y))
              ∙ same_row name t.place (i ∙ t.list) x ∙ sym (member_row_lem v.start v.end b t.type),
          member_wide v.start v.end b t.type,
          v.are ∙ z,
        ))

module _ {s w old new : List ℕ} {kind a n : ℕ} {r : Result ℕ NotDefinitions} where
  pub child-value : kind ≡ value_kind → PutsRows (ValueAt s w a) old new n 1 r → PutsRows (ChildAt s w kind a) old new n 1 r
  child-value e h = handed (omega arith) go h
    where
      go : (o : Option (List ℕ)) → ChildAt s w kind a o → ValueAt s w a o
      go o (value q v) = v
      go o (member q v) = absurd (omega arith)
      go o (pair p q v) = absurd (p e)

  pub child-member : kind ≡ member_kind → PutsRows (FieldAt s w member_field a) old new n 1 r → PutsRows (ChildAt s w kind a) old new n 1 r
  child-member e h = handed (omega arith) go h
    where
      go : (o : Option (List ℕ)) → ChildAt s w kind a o → FieldAt s w member_field a o
      go o (value q v) = absurd (omega arith)
      go o (member q v) = v
      go o (pair p q v) = absurd (q e)

  pub child-pair : (kind ≡ value_kind → ⊥) → (kind ≡ member_kind → ⊥) → PutsRows (FieldAt s w (pair_field kind) a) old new n 1 r → PutsRows (ChildAt s w kind a) old new n 1 r
  child-pair p q h = handed (omega arith) go h
    where
      go : (o : Option (List ℕ)) → ChildAt s w kind a o → FieldAt s w (pair_field kind) a o
      go o (value e v) = absurd (p e)
      go o (member e v) = absurd (q e)
      go o (pair x y v) = v
