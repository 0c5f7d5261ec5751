-- A reading's values stand in order and nest: of two of them, the later starts no earlier, and comes after the earlier one's end or is inside it. Two for each level nest at most.
-- The idea: a message's values stand in order (grammar proofs/Order), and a reading takes them in that order, an outer one first, with one record more at an alternate.
use Prim.Native.Nat.{ℕ, suc, ◌+◌, ◌*◌, ◌≤◌, ◌<◌}
use native.Mathlib.Omega.{arith}
use mathlib.Core.Path.{◌≡◌, refl, sym, subst}
use mathlib.Core.Bool.{Bool, true, false, cond, ◌&&◌}
use mathlib.Core.Logic.{◌⊎◌, inl, inr}
use mathlib.Core.List.{List, [], ◌∷◌, ◌++◌}
use lib.Dec.{ltb, leb}
use borrow.Author.Tests.{ltb-true, ltb-false, le-ltb, lt-leb}
use Rattle.grammar.specs.Limits.{message_levels}
use Rattle.grammar.specs.Tree.Scalar.{str}
use Rattle.grammar.specs.Tree.{Json, Json.leaf, Json.arr, Json.obj, Items, Fields, start_of, end_of}
use Rattle.grammar.proofs.Order.{Inside, InsideItems, InsideFields, inside_bounds, message-inside}
use Rattle.rules.specs.Envelope.{Asked}
use Rattle.rules.specs.Readings.{Typed, typed, Reads}
use Rattle.rules.specs.Readings.Reads.{built_in, enum, struct, no_type, union, alternate, array as array_of}
use Rattle.rules.specs.Readings.{ReadsItems.no_item, ReadsItems.one_item, ReadsFields.no_field, ReadsFields.one_field}
use Rattle.rules.specs.Rows.{type_ref}
use Rattle.rules.specs.MessageAnswers.{Readable}
use Rattle.rules.specs.Serving.Order.{starts_at, ends_at, Before, Nested, spanning}
use Rattle.rules.proofs.SoundFacts.{SoundFacts, sound-facts}
use Rattle.rules.proofs.ReadingParts.{extra_record, extra_few, extra_alternate, extra_of_kind}
use Rattle.rules.proofs.Arguments.{Below, asked-arguments, arguments-inside}

-- all lie from p to q
abbrev Between : ℕ → ℕ → List Typed → Type 0
Between p q [] = Unit {0}
Between p q (t ∷ ts) = (p ≤ starts_at t) × (starts_at t ≤ ends_at t) × (ends_at t ≤ q) × Between p q ts

wider : (p q p' q' : ℕ) → p' ≤ p → q ≤ q' → (ts : List Typed) → Between p q ts → Between p' q' ts
wider p q p' q' h k [] b = tt
wider p q p' q' h k (t ∷ ts) b = (omega (arith, b.0), b.1, omega (arith, b.2), wider p q p' q' h k ts b.3)

-- one around all, and two parts one after another
around : (t : Typed) (us : List Typed) → Between (starts_at t) (ends_at t) us → Before t us
around t [] b = tt
around t (u ∷ us) b = ((b.0, inr b.2), around t us b.3)

after : (t : Typed) (p q : ℕ) (us : List Typed) → starts_at t ≤ ends_at t → ends_at t ≤ p → Between p q us → Before t us
after t p q [] h k b = tt
after t p q (u ∷ us) h k b = ((omega (arith, b.0), inl (omega (arith, b.0))), after t p q us h k b.3)

before-both : (t : Typed) (us vs : List Typed) → Before t us → Before t vs → Before t (us ++ vs)
before-both t [] vs a b = b
before-both t (u ∷ us) vs a b = (a.0, before-both t us vs a.1 b)

between-both : (p q : ℕ) (us vs : List Typed) → Between p q us → Between p q vs → Between p q (us ++ vs)
between-both p q [] vs a b = b
between-both p q (u ∷ us) vs a b = (a.0, a.1, a.2, between-both p q us vs a.3 b)

in_turn : (p o q : ℕ) (us vs : List Typed) → Between p o us → Nested us → Between o q vs → Nested vs → Nested (us ++ vs)
in_turn p o q [] vs a m b n = n
in_turn p o q (u ∷ us) vs a m b n = (before-both u us vs m.0 (after u o q vs a.1 a.2 b), in_turn p o q us vs a.3 m.1 b n)

-- how many span a place: each at most once, and those that all lie before it or after it not at all
one_at_most : (t : Bool) → cond t 1 0 ≤ 1
one_at_most true = omega arith
one_at_most false = omega arith

span-after : (place : ℕ) (t : Typed) → place < starts_at t → leb (starts_at t) place && ltb place (ends_at t) ≡ false
span-after place t h = rw (lt-leb (starts_at t) place h)

span-before : (place : ℕ) (t : Typed) → ends_at t ≤ place → leb (starts_at t) place && ltb place (ends_at t) ≡ false
span-before place t h = rw (le-ltb place (ends_at t) h) (go (leb (starts_at t) place))
  where
    go : (b : Bool) → b && false ≡ false
    go true = refl
    go false = refl

none-span : (place p q : ℕ) (ts : List Typed) → (place < p) ⊎ (q ≤ place) → Between p q ts → spanning place ts ≡ 0
none-span place p q [] h b = refl
none-span place p q (t ∷ ts) (inl h) b = rw (span-after place t (omega (arith, b.0))) (let z = none-span place p q ts (inl h) b.3 in omega arith)
none-span place p q (t ∷ ts) (inr h) b = rw (span-before place t (omega (arith, b.2))) (let z = none-span place p q ts (inr h) b.3 in omega arith)

spanning-both : (place : ℕ) (ts us : List Typed) → spanning place (ts ++ us) ≡ spanning place ts + spanning place us
spanning-both place [] us = omega arith
spanning-both place (t ∷ ts) us = let z = spanning-both place ts us in omega arith

in_one : (place d p o q : ℕ) (ts us : List Typed) → Between p o ts → Between o q us → spanning place ts ≤ d → spanning place us ≤ d → spanning place (ts ++ us) ≤ d
in_one place d p o q ts us a b h k = go (ltb place o) refl
  where
    go : (t : Bool) → ltb place o ≡ t → spanning place (ts ++ us) ≤ d
    go true e = omega (arith, spanning-both place ts us, none-span place o q us (inl (ltb-true place o e)) b)
    go false e = omega (arith, spanning-both place ts us, none-span place p o ts (inr (ltb-false place o e)) a)

-- a list of values in order, at most d of which span any place
pub record Ordered (d p q : ℕ) (ts : List Typed) : Type 0 where
  between : Between p q ts
  nested : Nested ts
  shallow : (place : ℕ) → spanning place ts ≤ d

up_to : (c d : ℕ) {p q : ℕ} {ts : List Typed} → c ≤ d → Ordered c p q ts → Ordered d p q ts
up_to c d h o = record { between = o.between; nested = o.nested; shallow = λ place. omega (arith, o.shallow place) }

one : (j : Json) {d p q t f : ℕ} → p ≤ start_of j → start_of j ≤ end_of j → end_of j ≤ q → {ts : List Typed} → Ordered d (start_of j) (end_of j) ts → Ordered (suc d) p q (typed j t f ∷ ts)
one j {d} {p} {q} {t} {f} h i k {ts} o = record {
  between = (h, i, k, wider (start_of j) (end_of j) p q h k ts o.between);
  nested = (around (typed j t f) ts o.between, o.nested);
  shallow = λ place. omega (arith, o.shallow place, one_at_most (leb (start_of j) place && ltb place (end_of j)));
}

empty : (d p q : ℕ) → Ordered d p q []
empty d p q = record { between = tt; nested = tt; shallow = λ place. omega arith }

joined : (d p o q : ℕ) → p ≤ o → o ≤ q → {ts us vs : List Typed} → Ordered d p o ts → Ordered d o q us → vs ≡ ts ++ us → Ordered d p q vs
joined d p o q h k {ts} {us} a b e = subst (Ordered d p q) (sym e) (record {
  between = between-both p q ts us (wider p o p q (omega arith) k ts a.between) (wider o q p q h (omega arith) us b.between);
  nested = in_turn p o q ts us a.between a.nested b.between b.nested;
  shallow = λ place. in_one place d p o q ts us a.between b.between (a.shallow place) (b.shallow place);
})

-- a value is inside any span that holds its start and its end
narrower : (n p q p' q' : ℕ) (j : Json) → p' ≤ start_of j → end_of j ≤ q' → Inside n p q j → Inside n p' q' j
narrower n p q p' q' (leaf a e v) h k i = (h, i.1, k)
narrower n p q p' q' (arr a e js) h k i = (h, i.1, k, i.3, i.4, i.5)
narrower n p q p' q' (obj a e fs) h k i = (h, i.1, k, i.3, i.4, i.5)

module _ (S T : List ℕ) where
  -- what is read of a value, of items, of fields
  abbrev OfValue : Json → ℕ → List Typed → Type 0
  OfValue j t ts = (n p q : ℕ) → Inside n p q j → Ordered (2 * n + 1 + extra_record S T t) p q ts

  abbrev OfItems : Items → List Typed → Type 0
  OfItems js ts = (n p q : ℕ) → p ≤ q → InsideItems n p q js → Ordered (2 * n + 2) p q ts

  abbrev OfFields : Fields → List Typed → Type 0
  OfFields fs ts = (n p q : ℕ) → p ≤ q → InsideFields n p q fs → Ordered (2 * n + 2) p q ts

  alone : (j : Json) (t f : ℕ) → OfValue j t (typed j t f ∷ [])
  alone j t f n p q i = let s = inside_bounds n p q j i in up_to 1 (2 * n + 1 + extra_record S T t) (omega arith) (one j s.0 s.1 s.2 (empty 0 (start_of j) (end_of j)))

  by-alternative : (j : Json) (t u : ℕ) {ts : List Typed} → extra_record S T t ≡ 1 → extra_record S T u ≡ 0 → OfValue j u ts → OfValue j t (typed j t 0 ∷ ts)
  by-alternative j t u x y g n p q i =
      let s = inside_bounds n p q j i in
      up_to (suc (2 * n + 1 + extra_record S T u)) (2 * n + 1 + extra_record S T t) (omega arith)
      (one j s.0 s.1 s.2 (g n (start_of j) (end_of j) (narrower n p q (start_of j) (end_of j) j (omega arith) (omega arith) i)))

  of_object : (a e t : ℕ) (fs : Fields) {ts : List Typed} → OfFields fs ts → OfValue (obj a e fs) t (typed (obj a e fs) t 0 ∷ ts)
  of_object a e t fs g n p q i =
      up_to (suc (2 * i.3 + 2)) (2 * n + 1 + extra_record S T t) (omega (arith, i.4)) (one (obj a e fs) i.0 i.1 i.2 (g i.3 a e i.1 i.5))

  of_array : (a e t : ℕ) (js : Items) {ts : List Typed} → OfItems js ts → OfValue (arr a e js) t (typed (arr a e js) t 1 ∷ ts)
  of_array a e t js g n p q i =
      up_to (suc (2 * i.3 + 2)) (2 * n + 1 + extra_record S T t) (omega (arith, i.4)) (one (arr a e js) i.0 i.1 i.2 (g i.3 a e i.1 i.5))

  -- a value, and then the others
  one_more : (j : Json) (t n p q : ℕ) {ts us vs : List Typed} → Inside n p q j → OfValue j t ts → (end_of j ≤ q → Ordered (2 * n + 2) (end_of j) q us) → vs ≡ ts ++ us
      → Ordered (2 * n + 2) p q vs
  one_more j t n p q i g k e =
      let s = inside_bounds n p q j i in
      let o = g n p (end_of j) (narrower n p q p (end_of j) j s.0 (omega arith) i) in
      joined (2 * n + 2) p (end_of j) q (omega (arith, s.0, s.1)) s.2 (up_to (2 * n + 1 + extra_record S T t) (2 * n + 2) (omega (arith, extra_few S T t)) o) (k s.2) e

  module _ (F : SoundFacts S T) where
    value-ordered : {passes : Bool} {j : Json} {t f : ℕ} {ts : List Typed} → Reads passes S T j t f ts → OfValue j t ts
    value-ordered h = elim h as (λ j t f ts d. OfValue j t ts) (λ js t ts d. OfItems js ts) (λ ms fs ts d. OfFields fs ts) [
      | built_in {j} {t} h ↦ alone j t 0
      | enum {a} {e} {t} {cs = cs} r z k v n ↦ alone (leaf a e (str cs)) t 0
      | struct {a} {e} {t} {fs} r z k g n (h → ih) ↦ of_object a e t fs ih
      | no_type {a} {e} {fs} (h → ih) ↦ of_object a e 0 fs ih
      | union {a} {e} {t} {fs} r z k g b q n (h → ih) ↦ of_object a e t fs ih
      | alternate {j} {t} {c} r z k m (h → ih) ↦ let o = F.has_kind r c k m in by-alternative j t (type_ref T c) (extra_alternate S T t r z k) (extra_of_kind S T o.0 (type_ref T c) o.1) ih
      | array_of {a} {e} {t} {js} (h → ih) ↦ of_array a e t js ih
      | no_item ↦ λ n p q h i. empty (2 * n + 2) p q
      | one_item {t} {j} (h → ih) (g → ih') e ↦ λ n p q h i. one_more j t n p q i.0 ih (λ s. ih' n (end_of j) q s i.1) e
      | no_field ↦ λ n p q h i. empty (2 * n + 2) p q
      | one_field {m = m} {j = j} i o (h → ih) (g → ih') e ↦ λ n p q h i. one_more j (type_ref T m) n p q i.0 ih (λ s. ih' n (end_of j) q s i.1) e
    ]

module _ {S T m : List ℕ} {a : Asked} {ts : List Typed} (r : Readable S T m a ts) where
  below : Below message_levels a.value
  below = arguments-inside message_levels 0 (end_of r.value) (omega arith) (message-inside r.is_text) (asked-arguments r.asks)

  reading-ordered : Ordered (2 * below.levels + 1 + extra_record S T a.ref) below.from below.to ts
  reading-ordered = value-ordered S T (sound-facts S T r.sound_table) r.reads below.levels below.from below.to below.inside

  pub reading-nested : Nested ts
  reading-nested = reading-ordered.nested

  -- at most two records for each level span any place
  pub reading-shallow : (place : ℕ) → spanning place ts ≤ 2 * message_levels
  reading-shallow place = omega (arith, reading-ordered.shallow place, below.fewer, extra_few S T a.ref)
