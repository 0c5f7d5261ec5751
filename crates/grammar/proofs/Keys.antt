-- `keys_once` says what the reference says (Repeated keys): no object anywhere inside has two fields, at different positions, with equal keys.
-- One direction of the cycle value, items, fields goes down to the object, the other gathers the objects up.
use Prim.Native.Nat.{ℕ, ◌<◌}
use mathlib.Core.Logic.{◌↔◌}
use mathlib.Core.Path.{◌≡◌, refl}
use mathlib.Core.Bool.{true}
use mathlib.Core.List.{List, []}
use lib.ListN.{length, get_or}
use Rattle.grammar.specs.Notation.{same, apart}
use Rattle.grammar.specs.Tree.{Json, Json.leaf, Json.arr, Json.obj, Items, Items.no_items, Items.item, Fields, Fields.no_fields, Fields.field}
use Rattle.grammar.specs.Keys.{keys_of, keys_once, keys_once_i, keys_once_f}
use Rattle.grammar.proofs.Booleans.{both}
use Rattle.grammar.proofs.Lists.{same_false, different, apart-true, apart_of}

mutual
  -- an object with the fields fs stands somewhere inside a value, a list of items, a list of fields
  pub data ObjectIn (fs : Fields) : Json → Type 0 where
    itself : {a e : ℕ} {gs : Fields} → fs ≡ gs → ObjectIn fs (obj a e gs)
    in_array : {a e : ℕ} {js : Items} → ObjectInItems fs js → ObjectIn fs (arr a e js)
    in_object : {a e : ℕ} {gs : Fields} → ObjectInFields fs gs → ObjectIn fs (obj a e gs)

  pub data ObjectInItems (fs : Fields) : Items → Type 0 where
    in_item : {j : Json} {js : Items} → ObjectIn fs j → ObjectInItems fs (item j js)
    in_items : {j : Json} {js : Items} → ObjectInItems fs js → ObjectInItems fs (item j js)

  pub data ObjectInFields (fs : Fields) : Fields → Type 0 where
    in_field : {a e : ℕ} {key : List ℕ} {j : Json} {gs : Fields} → ObjectIn fs j → ObjectInFields fs (field a e key j gs)
    in_fields : {a e : ℕ} {key : List ℕ} {j : Json} {gs : Fields} → ObjectInFields fs gs → ObjectInFields fs (field a e key j gs)

-- the keys at any two positions differ
abbrev pub KeysApart : Fields → Type 0
KeysApart fs = (a b : ℕ) → a < b → b < length (keys_of fs) → get_or (keys_of fs) a [] ≡ get_or (keys_of fs) b [] → ⊥

apart_keys : (fs : Fields) → apart same (keys_of fs) ≡ true → KeysApart fs
apart_keys fs e a b h g = same_false (get_or (keys_of fs) a []) (get_or (keys_of fs) b []) (apart-true same [] (keys_of fs) e a b h g)

keys_apart : (fs : Fields) → KeysApart fs → apart same (keys_of fs) ≡ true
keys_apart fs k = apart_of same [] (keys_of fs) (λ a b h g. different (get_or (keys_of fs) a []) (get_or (keys_of fs) b []) (k a b h g))

mutual
  once-value : {fs : Fields} {j : Json} → ObjectIn fs j → keys_once j ≡ true → KeysApart fs
  once-value (itself {gs = gs} h) e = rw h (apart_keys gs (both (apart same (keys_of gs)) (keys_once_f gs) e).0)
  once-value (in_array m) e = once-items m e
  once-value (in_object {gs = gs} m) e = once-fields m (both (apart same (keys_of gs)) (keys_once_f gs) e).1

  once-items : {fs : Fields} {js : Items} → ObjectInItems fs js → keys_once_i js ≡ true → KeysApart fs
  once-items (in_item {j = j} {js = js} m) e = once-value m (both (keys_once j) (keys_once_i js) e).0
  once-items (in_items {j = j} {js = js} m) e = once-items m (both (keys_once j) (keys_once_i js) e).1

  once-fields : {fs : Fields} {gs : Fields} → ObjectInFields fs gs → keys_once_f gs ≡ true → KeysApart fs
  once-fields (in_field {j = j} {gs = gs} m) e = once-value m (both (keys_once j) (keys_once_f gs) e).0
  once-fields (in_fields {j = j} {gs = gs} m) e = once-fields m (both (keys_once j) (keys_once_f gs) e).1

mutual
  value-once : (j : Json) → ((fs : Fields) → ObjectIn fs j → KeysApart fs) → keys_once j ≡ true
  value-once (leaf a e v) h = refl
  value-once (arr a e js) h = items-once js (λ fs m. h fs (in_array m))
  value-once (obj a e gs) h = rw (keys_apart gs (h gs (itself refl))) (fields-once gs (λ fs m. h fs (in_object m)))

  items-once : (js : Items) → ((fs : Fields) → ObjectInItems fs js → KeysApart fs) → keys_once_i js ≡ true
  items-once no_items h = refl
  items-once (item j js) h = rw (value-once j (λ fs m. h fs (in_item m))) (items-once js (λ fs m. h fs (in_items m)))

  fields-once : (gs : Fields) → ((fs : Fields) → ObjectInFields fs gs → KeysApart fs) → keys_once_f gs ≡ true
  fields-once no_fields h = refl
  fields-once (field a e key j gs) h = rw (value-once j (λ fs m. h fs (in_field m))) (fields-once gs (λ fs m. h fs (in_fields m)))

-- Reference, Repeated keys: of a value (Message answers 25), of the top-level objects (Schema answers 3)
pub keys_once_lem : (j : Json) → (keys_once j ≡ true) ↔ ((fs : Fields) → ObjectIn fs j → KeysApart fs)
keys_once_lem j = (λ e fs m. once-value m e, λ h. value-once j h)

pub keys_once-items : (js : Items) → (keys_once_i js ≡ true) ↔ ((fs : Fields) → ObjectInItems fs js → KeysApart fs)
keys_once-items js = (λ e fs m. once-items m e, λ h. items-once js h)
