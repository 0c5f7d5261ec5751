-- Values stand in order and nest no deeper than the text allows: what is inside a value lies between its start and its end, one thing after another, a level further in.
-- The idea: places rise along a derivation and a bracket takes a level, so by the derivation.
use Prim.Native.Nat.{ℕ, suc, ◌+◌, ◌≤◌}
use native.Mathlib.Omega.{arith}
use mathlib.Core.Path.{◌≡◌, refl}
use mathlib.Core.List.{List}
use lib.ListN.{length}
use Rattle.grammar.specs.Lexis.{Lexis}
use Rattle.grammar.specs.Tree.{Json, Json.leaf, Json.arr, Json.obj, Items, Items.no_items, Items.item, Fields, Fields.no_fields, Fields.field, start_of, end_of}
use Rattle.grammar.specs.Grammar.{Value, Value.unquoted, Value.string, Value.array, Value.object, ArrayBody, ArrayBody.no_elements, ArrayBody.some_elements}
use Rattle.grammar.specs.Grammar.{Elements, Elements.element, MoreElements, MoreElements.end_array, MoreElements.next_element, ObjectBody, ObjectBody.no_members}
use Rattle.grammar.specs.Grammar.{ObjectBody.some_members, Members, Members.member, MoreMembers, MoreMembers.end_object, MoreMembers.next_member, Objects, Objects.no_more}
use Rattle.grammar.specs.Grammar.{Objects.one_more, Text.objects, Text.one_value}
use Rattle.grammar.specs.Limits.{schema_levels, message_levels}
use Rattle.grammar.specs.SchemaText.{schema_lexis, SchemaText}
use Rattle.grammar.specs.MessageText.{message_lexis, MessageText}
use Rattle.grammar.proofs.Booleans.{clash}
use Rattle.grammar.proofs.Spans.{TokenSpans, blanks_span, chars-span, value-span, more_elements_span, more-members-span, schema_spans, message_spans}

-- a value of at most n levels from p to q, and what is inside it in order
abbrev mutual
  pub Inside : ℕ → ℕ → ℕ → Json → Type 0
  Inside n p q (leaf a e v) = (p ≤ a) × (a ≤ e) × (e ≤ q)
  Inside n p q (arr a e js) = (p ≤ a) × (a ≤ e) × (e ≤ q) × (k : ℕ) × (n ≡ suc k) × InsideItems k a e js
  Inside n p q (obj a e fs) = (p ≤ a) × (a ≤ e) × (e ≤ q) × (k : ℕ) × (n ≡ suc k) × InsideFields k a e fs

  pub InsideItems : ℕ → ℕ → ℕ → Items → Type 0
  InsideItems n p q no_items = Unit {0}
  InsideItems n p q (item j js) = Inside n p q j × InsideItems n (end_of j) q js

  pub InsideFields : ℕ → ℕ → ℕ → Fields → Type 0
  InsideFields n p q no_fields = Unit {0}
  InsideFields n p q (field a e key j fs) = Inside n p q j × InsideFields n (end_of j) q fs × (p ≤ a) × (a ≤ start_of j)

pub inside_bounds : (n p q : ℕ) (j : Json) → Inside n p q j → (p ≤ start_of j) × (start_of j ≤ end_of j) × (end_of j ≤ q)
inside_bounds n p q (leaf a e v) i = i
inside_bounds n p q (arr a e js) i = (i.0, i.1, i.2)
inside_bounds n p q (obj a e fs) i = (i.0, i.1, i.2)

module _ (G : Lexis) (L : TokenSpans G) where
  value-start : {n p q : ℕ} {l r : List ℕ} {j : Json} → Value G n p l q r j → start_of j ≡ p
  value-start (unquoted u) = refl
  value-start (string e w) = refl
  value-start (array w) = refl
  value-start (object w) = refl

  pub value-end : {n p q : ℕ} {l r : List ℕ} {j : Json} → Value G n p l q r j → end_of j ≡ q
  value-end (unquoted u) = refl
  value-end (string e w) = refl
  value-end (array w) = refl
  value-end (object w) = refl

  mutual
    value-inside : {n p q : ℕ} {l r : List ℕ} {j : Json} (lo hi : ℕ) → lo ≤ p → q ≤ hi → Value G n p l q r j → Inside n lo hi j
    value-inside lo hi h k (unquoted u) = let z = L.unquoted_span u in (h, omega arith, k)
    value-inside lo hi h k (string e w) = let z = chars-span G L w in (h, omega arith, k)
    value-inside {p = p} {q} lo hi h k (array {n = n} w) = let z = value-span G L (array w) in (h, omega arith, k, n, refl, array-inside p q (omega arith) (omega arith) w)
    value-inside {p = p} {q} lo hi h k (object {n = n} w) = let z = value-span G L (object w) in (h, omega arith, k, n, refl, object-inside p q (omega arith) (omega arith) w)

    array-inside : {n p q : ℕ} {l r : List ℕ} {js : Items} (lo hi : ℕ) → lo ≤ p → q ≤ hi → ArrayBody G n p l q r js → InsideItems n lo hi js
    array-inside lo hi h k (no_elements b) = tt
    array-inside lo hi h k (some_elements b w) = let y = blanks_span G L b in elements_inside lo hi (omega arith) k w

    elements_inside : {n p q : ℕ} {l r : List ℕ} {js : Items} (lo hi : ℕ) → lo ≤ p → q ≤ hi → Elements G n p l q r js → InsideItems n lo hi js
    elements_inside lo hi h k (element {j = j} v w) = let z = more_elements_span G L w in (value-inside lo hi h (omega arith) v, more_elements_inside (end_of j) hi (omega (arith, value-end v)) k w)

    more_elements_inside : {n p q : ℕ} {l r : List ℕ} {js : Items} (lo hi : ℕ) → lo ≤ p → q ≤ hi → MoreElements G n p l q r js → InsideItems n lo hi js
    more_elements_inside lo hi h k (end_array b) = tt
    more_elements_inside lo hi h k (next_element b c w) = let x = blanks_span G L b in let y = blanks_span G L c in elements_inside lo hi (omega arith) k w

    object-inside : {n p q : ℕ} {l r : List ℕ} {fs : Fields} (lo hi : ℕ) → lo ≤ p → q ≤ hi → ObjectBody G n p l q r fs → InsideFields n lo hi fs
    object-inside lo hi h k (no_members b) = tt
    object-inside lo hi h k (some_members b w) = let y = blanks_span G L b in members-inside lo hi (omega arith) k w

    members-inside : {n p q : ℕ} {l r : List ℕ} {fs : Fields} (lo hi : ℕ) → lo ≤ p → q ≤ hi → Members G n p l q r fs → InsideFields n lo hi fs
    members-inside lo hi h k (member {j = j} t c b d v w) =
        let u = chars-span G L c in
        let x = blanks_span G L b in
        let y = blanks_span G L d in
        let z = more-members-span G L w in
        (value-inside lo hi (omega arith) (omega arith) v, more-members-inside (end_of j) hi (omega (arith, value-end v)) k w, h, omega (arith, value-start v))

    more-members-inside : {n p q : ℕ} {l r : List ℕ} {fs : Fields} (lo hi : ℕ) → lo ≤ p → q ≤ hi → MoreMembers G n p l q r fs → InsideFields n lo hi fs
    more-members-inside lo hi h k (end_object b) = tt
    more-members-inside lo hi h k (next_member b c w) = let x = blanks_span G L b in let y = blanks_span G L c in members-inside lo hi (omega arith) k w

  objects-inside : {n p : ℕ} {l : List ℕ} {js : Items} (lo hi : ℕ) → lo ≤ p → p + length l ≤ hi → Objects G n p l js → InsideItems n lo hi js
  objects-inside lo hi h k (no_more b) = tt
  objects-inside lo hi h k (one_more {j = j} b v w) =
      let y = blanks_span G L b in
      let z = value-span G L v in
      (value-inside lo hi (omega arith) (omega arith) v, objects-inside (end_of j) hi (omega (arith, value-end v)) (omega arith) w)

pub message-inside : {m : List ℕ} {j : Json} → MessageText m j → Inside message_levels 0 (end_of j) j
message-inside (objects s w) = clash s refl
message-inside {j = j} (one_value s b v c) = value-inside message_lexis message_spans 0 (end_of j) (omega arith) (omega (arith, value-end message_lexis message_spans v)) v

pub schema-inside : {S : List ℕ} {js : Items} → SchemaText S js → InsideItems schema_levels 0 (length S) js
schema-inside {S} (objects s w) = objects-inside schema_lexis schema_spans 0 (length S) (omega arith) (omega arith) w
schema-inside (one_value s b v c) = clash refl s
