-- The first key that repeats one before it: there is none exactly when no key is repeated, and where places rise, as they do in a text, it is the earliest.
-- The idea: a field is one key, one value and the fields after it, and the first of the three that repeats is the first of all.
use Prim.Native.Nat.{ℕ, ◌≤◌}
use native.Mathlib.Nat.{le_antisymm}
use native.Mathlib.Omega.{arith}
use mathlib.Core.Logic.{◌↔◌}
use mathlib.Core.Path.{◌≡◌, refl, sym, ap, ap₂, ◌∙◌, subst}
use mathlib.Core.Bool.{Bool, true, false, not, cond, ◌&&◌}
use mathlib.Core.List.{List, [], ◌∷◌, Memᴰ}
use mathlib.Core.Option.{Option, some, none}
use lib.ListN.{length}
use Rattle.grammar.specs.Notation.{same, all, apart}
use Rattle.grammar.specs.Tree.{Json, Json.leaf, Json.arr, Json.obj, Items, Items.no_items, Items.item, Fields, Fields.no_fields, Fields.field, start_of, end_of}
use Rattle.grammar.specs.Keys.{keys_of, keys_once, keys_once_i, keys_once_f, Repeats, Repeats.in_array, Repeats.in_object, RepeatsI, RepeatsI.in_item, RepeatsI.in_items}
use Rattle.grammar.specs.Keys.{RepeatsF, RepeatsF.again, RepeatsF.in_field, RepeatsF.in_fields, Earliest}
use Rattle.grammar.specs.Limits.{schema_levels, message_levels}
use Rattle.grammar.specs.SchemaText.{SchemaText}
use Rattle.grammar.specs.MessageText.{MessageText}
use Rattle.grammar.specs.Serving.Repeats.{first_of, repeat_at, first_repeat, first_repeat_i, first_repeat_f}
use Rattle.grammar.proofs.Booleans.{clash, none-not-some, some_is}
use Rattle.grammar.proofs.Lists.{same_true, same_refl, same_comm, all_true}
use Rattle.grammar.proofs.Order.{Inside, InsideItems, InsideFields, inside_bounds, message-inside, schema-inside}

-- no key of a list is this one
abbrev new : List ℕ → List (List ℕ) → Bool
new key ks = all (λ k. not (same key k)) ks

abbrev is_none : Option ℕ → Bool
is_none none = true
is_none (some p) = false

is_none_lem : (x : Option ℕ) → is_none x ≡ true → x ≡ none
is_none_lem none e = refl
is_none_lem (some p) e = clash e refl

-- the first of two: none if both are none, else one of them
first-none : (x y : Option ℕ) → is_none (first_of x y) ≡ is_none x && is_none y
first-none none y = refl
first-none (some p) y = refl

first-both : (x y : Option ℕ) → first_of x y ≡ none → (x ≡ none) × (y ≡ none)
first-both none y e = (refl, e)
first-both (some p) y e = none-not-some (sym e)

first_some : {A : Type 0} (x y : Option ℕ) {p : ℕ} → first_of x y ≡ some p → (x ≡ some p → A) → (x ≡ none → y ≡ some p → A) → A
first_some none y e f g = g refl e
first_some (some q) y e f g = f e

-- a key among those before it
at_none : (before : List (List ℕ)) (key : List ℕ) (p : ℕ) → is_none (repeat_at before key p) ≡ new key before
at_none before key p = go (new key before)
  where
    go : (b : Bool) → is_none (cond b none (some p)) ≡ b
    go true = refl
    go false = refl

not_new : (key : List ℕ) (ks : List (List ℕ)) → new key ks ≡ false → Memᴰ key ks
not_new key [] e = clash refl e
not_new key (k ∷ ks) e = go (same key k) refl (not_new key ks) e
  where
    go : (b : Bool) → same key k ≡ b → (new key ks ≡ false → Memᴰ key ks) → not b && new key ks ≡ false → Memᴰ key (k ∷ ks)
    go true t r f = Memᴰ.head (same_true key k t)
    go false t r f = Memᴰ.tail (r f)

at_some : (before : List (List ℕ)) (key : List ℕ) (a : ℕ) {p : ℕ} → repeat_at before key a ≡ some p → Memᴰ key before × (a ≡ p)
at_some before key a {p} e = go (new key before) refl e
  where
    go : (b : Bool) → new key before ≡ b → cond b none (some a) ≡ some p → Memᴰ key before × (a ≡ p)
    go true t f = none-not-some f
    go false t f = (not_new key before t, some_is f)

at_new : (before : List (List ℕ)) (key : List ℕ) (a : ℕ) → repeat_at before key a ≡ none → Memᴰ key before → ⊥
at_new before key a e m = clash (all_true (λ k. not (same key k)) before (sym (at_none before key a) ∙ ap is_none e) key m) (ap not (same_refl key))

-- ---- no key is repeated

abbrev clear_of : List (List ℕ) → List (List ℕ) → Bool
clear_of before ks = all (λ k. new k before) ks

cross : (a b c d : Bool) → (a && b) && (c && d) ≡ (a && c) && (b && d)
cross true true c d = refl
cross true false true d = refl
cross true false false d = refl
cross false b c d = refl

clear_none : (ks : List (List ℕ)) → clear_of [] ks ≡ true
clear_none [] = refl
clear_none (k ∷ ks) = clear_none ks

clear-more : (key : List ℕ) (before ks : List (List ℕ)) → clear_of (key ∷ before) ks ≡ new key ks && clear_of before ks
clear-more key before [] = refl
clear-more key before (k ∷ ks) = rw (same_comm k key, clear-more key before ks) (cross (not (same key k)) (new k before) (new key ks) (clear_of before ks))

-- before, value, among, clear, apart, fields
gather : (b v m c a f : Bool) → b && (v && (((m && c) && a) && f)) ≡ ((b && c) && (m && a)) && (v && f)
gather false v m c a f = refl
gather true true true true a f = refl
gather true true true false a f = refl
gather true true false true a f = refl
gather true true false false a f = refl
gather true false true true true f = refl
gather true false true true false f = refl
gather true false true false a f = refl
gather true false false true a f = refl
gather true false false false a f = refl

mutual
  value_none : (j : Json) → is_none (first_repeat j) ≡ keys_once j
  value_none (leaf a e v) = refl
  value_none (arr a e js) = items-none js
  value_none (obj a e fs) = fields-none [] fs ∙ ap (λ (b : Bool). (b && apart same (keys_of fs)) && keys_once_f fs) (clear_none (keys_of fs))

  items-none : (js : Items) → is_none (first_repeat_i js) ≡ keys_once_i js
  items-none no_items = refl
  items-none (item j js) = first-none (first_repeat j) (first_repeat_i js) ∙ ap₂ ◌&&◌ (value_none j) (items-none js)

  fields-none : (before : List (List ℕ)) (fs : Fields) → is_none (first_repeat_f before fs) ≡ (clear_of before (keys_of fs) && apart same (keys_of fs)) && keys_once_f fs
  fields-none before no_fields = refl
  fields-none before (field a e key j fs) =
      first-none (repeat_at before key a) (first_of (first_repeat j) (first_repeat_f (key ∷ before) fs))
      ∙ ap₂ ◌&&◌ (at_none before key a) (first-none (first_repeat j) (first_repeat_f (key ∷ before) fs) ∙ ap₂ ◌&&◌ (value_none j) (fields-none (key ∷ before) fs))
      ∙ ap (λ (b : Bool). new key before && (keys_once j && ((b && apart same (keys_of fs)) && keys_once_f fs))) (clear-more key before (keys_of fs))
      ∙ gather (new key before) (keys_once j) (new key (keys_of fs)) (clear_of before (keys_of fs)) (apart same (keys_of fs)) (keys_once_f fs)

pub first-once : (j : Json) → (first_repeat j ≡ none) ↔ (keys_once j ≡ true)
first-once j = ((λ e. sym (value_none j) ∙ ap is_none e), λ e. is_none_lem (first_repeat j) (value_none j ∙ e))

pub first-once-items : (js : Items) → (first_repeat_i js ≡ none) ↔ (keys_once_i js ≡ true)
first-once-items js = ((λ e. sym (items-none js) ∙ ap is_none e), λ e. is_none_lem (first_repeat_i js) (items-none js ∙ e))

-- ---- the first repeats one before it, and where there is none nothing does

mutual
  pub value_found : (j : Json) {p : ℕ} → first_repeat j ≡ some p → Repeats j p
  value_found (leaf a e v) t = none-not-some t
  value_found (arr a e js) t = in_array (items-found js t)
  value_found (obj a e fs) t = in_object (fields-found [] fs t)

  pub items-found : (js : Items) {p : ℕ} → first_repeat_i js ≡ some p → RepeatsI js p
  items-found no_items t = none-not-some t
  items-found (item j js) t = first_some (first_repeat j) (first_repeat_i js) t (λ e. in_item (value_found j e)) (λ n e. in_items (items-found js e))

  fields-found : (before : List (List ℕ)) (fs : Fields) {p : ℕ} → first_repeat_f before fs ≡ some p → RepeatsF before fs p
  fields-found before no_fields t = none-not-some t
  fields-found before (field a e key j fs) {p} t =
      first_some (repeat_at before key a) (first_of (first_repeat j) (first_repeat_f (key ∷ before) fs)) t
      (λ x. let h = at_some before key a x in subst (RepeatsF before (field a e key j fs)) h.1 (again h.0))
      (λ n x.
      first_some (first_repeat j) (first_repeat_f (key ∷ before) fs) x (λ y. in_field (value_found j y)) (λ m y. in_fields (fields-found (key ∷ before) fs y)))

mutual
  value_missed : {j : Json} {p : ℕ} → first_repeat j ≡ none → Repeats j p → ⊥
  value_missed t (in_array r) = items_missed t r
  value_missed t (in_object r) = fields_missed t r

  items_missed : {js : Items} {p : ℕ} → first_repeat_i js ≡ none → RepeatsI js p → ⊥
  items_missed t (in_item {j = j} {js = js} r) = value_missed (first-both (first_repeat j) (first_repeat_i js) t).0 r
  items_missed t (in_items {j = j} {js = js} r) = items_missed (first-both (first_repeat j) (first_repeat_i js) t).1 r

  fields_missed : {before : List (List ℕ)} {fs : Fields} {p : ℕ} → first_repeat_f before fs ≡ none → RepeatsF before fs p → ⊥
  fields_missed t (again {a} {key = key} {j = j} {fs = fs} {before = before} m) =
      at_new before key a (first-both (repeat_at before key a) (first_of (first_repeat j) (first_repeat_f (key ∷ before) fs)) t).0 m
  fields_missed t (in_field {a} {key = key} {j = j} {fs = fs} {before = before} r) =
      let h = first-both (repeat_at before key a) (first_of (first_repeat j) (first_repeat_f (key ∷ before) fs)) t in
      value_missed (first-both (first_repeat j) (first_repeat_f (key ∷ before) fs) h.1).0 r
  fields_missed t (in_fields {a} {key = key} {j = j} {fs = fs} {before = before} r) =
      let h = first-both (repeat_at before key a) (first_of (first_repeat j) (first_repeat_f (key ∷ before) fs)) t in
      fields_missed (first-both (first_repeat j) (first_repeat_f (key ∷ before) fs) h.1).1 r

-- what is not none is some place
otherwise : (x : Option ℕ) → ((p : ℕ) → x ≡ some p → ⊥) → x ≡ none
otherwise none h = refl
otherwise (some p) h = absurd (h p refl)

pub first-never : (j : Json) → (first_repeat j ≡ none) ↔ ((p : ℕ) → Repeats j p → ⊥)
first-never j = ((λ e p r. value_missed e r), λ h. otherwise (first_repeat j) (λ p e. h p (value_found j e)))

pub first-never-items : (js : Items) → (first_repeat_i js ≡ none) ↔ ((p : ℕ) → RepeatsI js p → ⊥)
first-never-items js = ((λ e p r. items_missed e r), λ h. otherwise (first_repeat_i js) (λ p e. h p (items-found js e)))

-- ---- where places rise the first is the earliest

mutual
  value-between : (n p q : ℕ) {j : Json} {x : ℕ} → Inside n p q j → Repeats j x → (start_of j ≤ x) × (x ≤ end_of j)
  value-between n p q i (in_array {a} {e} r) = items-between i.3 a e i.5 r
  value-between n p q i (in_object {a} {e} r) = fields-between i.3 a e i.5 r

  items-between : (n p q : ℕ) {js : Items} {x : ℕ} → InsideItems n p q js → RepeatsI js x → (p ≤ x) × (x ≤ q)
  items-between n p q i (in_item {j = j} r) = let z = value-between n p q i.0 r in let b = inside_bounds n p q j i.0 in (omega arith, omega arith)
  items-between n p q i (in_items {j = j} r) = let z = items-between n (end_of j) q i.1 r in let b = inside_bounds n p q j i.0 in (omega arith, omega arith)

  fields-between : (n p q : ℕ) {before : List (List ℕ)} {fs : Fields} {x : ℕ} → InsideFields n p q fs → RepeatsF before fs x → (p ≤ x) × (x ≤ q)
  fields-between n p q i (again {j = j} m) = let b = inside_bounds n p q j i.0 in (i.2, omega arith)
  fields-between n p q i (in_field {j = j} r) = let z = value-between n p q i.0 r in let b = inside_bounds n p q j i.0 in (omega arith, omega arith)
  fields-between n p q i (in_fields {j = j} r) = let z = fields-between n (end_of j) q i.1 r in let b = inside_bounds n p q j i.0 in (omega arith, omega arith)

mutual
  value-least : (n p q : ℕ) {j : Json} {x y : ℕ} → Inside n p q j → first_repeat j ≡ some x → Repeats j y → x ≤ y
  value-least n p q i t (in_array {a} {e} r) = items-least i.3 a e i.5 t r
  value-least n p q i t (in_object {a} {e} r) = fields-least i.3 a e i.5 t r

  items-least : (n p q : ℕ) {js : Items} {x y : ℕ} → InsideItems n p q js → first_repeat_i js ≡ some x → RepeatsI js y → x ≤ y
  items-least n p q i t (in_item {j = j} {js = js} r) = first_some (first_repeat j) (first_repeat_i js) t (λ e. value-least n p q i.0 e r) (λ m e. absurd (value_missed m r))
  items-least n p q {x = x} {y} i t (in_items {j = j} {js = js} r) =
      first_some (first_repeat j) (first_repeat_i js) t
      (λ e.
      let u = value-between n p q i.0 (value_found j e) in
      let v = items-between n (end_of j) q i.1 r in
      omega arith) (λ m e. items-least n (end_of j) q i.1 e r)

  fields-least : (n p q : ℕ) {before : List (List ℕ)} {fs : Fields} {x y : ℕ} → InsideFields n p q fs → first_repeat_f before fs ≡ some x → RepeatsF before fs y → x ≤ y
  fields-least n p q {x = x} i t (again {a} {key = key} {j = j} {fs = fs} {before = before} m) =
      first_some (repeat_at before key a) (first_of (first_repeat j) (first_repeat_f (key ∷ before) fs)) t (λ e. omega (arith, (at_some before key a e).1)) (λ z e. absurd (at_new before key a z m))
  fields-least n p q {x = x} {y} i t (in_field {a} {key = key} {j = j} {fs = fs} {before = before} r) =
      first_some (repeat_at before key a) (first_of (first_repeat j) (first_repeat_f (key ∷ before) fs)) t
      (λ e. let v = value-between n p q i.0 r in omega (arith, (at_some before key a e).1))
      (λ z e. first_some (first_repeat j) (first_repeat_f (key ∷ before) fs) e (λ h. value-least n p q i.0 h r) (λ h g. absurd (value_missed h r)))
  fields-least n p q {x = x} {y} i t (in_fields {a} {key = key} {j = j} {fs = fs} {before = before} r) =
      let v = fields-between n (end_of j) q i.1 r in
      let b = inside_bounds n p q j i.0 in
      first_some (repeat_at before key a) (first_of (first_repeat j) (first_repeat_f (key ∷ before) fs)) t (λ e. omega (arith, (at_some before key a e).1))
      (λ z e.
      first_some (first_repeat j) (first_repeat_f (key ∷ before) fs) e (λ h. let u = value-between n p q i.0 (value_found j h) in omega arith)
      (λ h g. fields-least n (end_of j) q i.1 g r))

-- the least place is the only one
pub earliest_only : {P : ℕ → Type 0} {p q : ℕ} → Earliest P p → Earliest P q → p ≡ q
earliest_only {p = p} {q} a b = le_antisymm (a.least q b.is) (b.least p a.is)

-- an answer that is found, that nothing comes before, and that is none only where nothing is there, is the earliest
told : {P : ℕ → Type 0} (x : Option ℕ) → ((p : ℕ) → x ≡ some p → P p) → (x ≡ none → (p : ℕ) → P p → ⊥) → ((p q : ℕ) → x ≡ some p → P q → p ≤ q) → (p : ℕ)
    → (x ≡ some p) ↔ Earliest P p
told {P} x f m l p = ((λ e. record { is = f p e; least = λ q. l p q e }), go x f m l)
  where
    go : (x : Option ℕ) → ((p : ℕ) → x ≡ some p → P p) → (x ≡ none → (p : ℕ) → P p → ⊥) → ((p q : ℕ) → x ≡ some p → P q → p ≤ q) → Earliest P p → x ≡ some p
    go none f m l e = absurd (m refl p e.is)
    go (some q) f m l e = ap some (earliest_only {P = P} (record { is = f q refl; least = λ y. l q y refl }) e)

pub message_earliest : {m : List ℕ} {j : Json} → MessageText m j → (p : ℕ) → (first_repeat j ≡ some p) ↔ Earliest (Repeats j) p
message_earliest {j = j} t p =
    told (first_repeat j) (λ q e. value_found j e) (λ e q r. value_missed e r) (λ x y e r. value-least message_levels 0 (end_of j) (message-inside t) e r) p

pub schema_earliest : {S : List ℕ} {js : Items} → SchemaText S js → (p : ℕ) → (first_repeat_i js ≡ some p) ↔ Earliest (RepeatsI js) p
schema_earliest {S} {js} t p =
    told (first_repeat_i js) (λ q e. items-found js e) (λ e q r. items_missed e r) (λ x y e r. items-least schema_levels 0 (length S) (schema-inside t) e r) p
