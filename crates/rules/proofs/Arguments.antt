-- The arguments that a message asks to have read: the value of one of its fields or, where they are absent, the empty object; then its command's name is a field.
-- So they have fewer bytes and fewer levels than the message, and stand in order as it does.
use Prim.Native.Nat.{ℕ, suc, ◌≤◌, ◌<◌}
use native.Mathlib.Omega.{arith}
use mathlib.Core.Path.{◌≡◌, refl, sym, subst, ap}
use mathlib.Core.Bool.{Bool, true, false, cond}
use mathlib.Core.List.{List, [], ◌∷◌}
use mathlib.Core.Option.{Option, none, some}
use Rattle.grammar.specs.Notation.{text, same, all}
use Rattle.grammar.specs.Tree.{Json, Json.leaf, Json.arr, Json.obj, Fields, Fields.no_fields, Fields.field, end_of}
use Rattle.grammar.specs.Keys.{keys_of}
use Rattle.grammar.proofs.Booleans.{none-not-some, some_is}
use Rattle.grammar.proofs.Spans.{fewest_bytes, fewest_fields, some_byte}
use Rattle.grammar.proofs.Order.{Inside, InsideFields}
use Rattle.rules.specs.Values.{◌>>=◌, value_at, as_string, any_of}
use Rattle.rules.specs.Envelope.{Envelope, as_arguments, as_call, envelope, Asked, Asks, Asks.command}

-- the value of a field
pub data FieldValue (j : Json) : Fields → Type 0 where
  here : {a e : ℕ} {key : List ℕ} {fs : Fields} → FieldValue j (field a e key j fs)
  later : {a e : ℕ} {key : List ℕ} {i : Json} {fs : Fields} → FieldValue j fs → FieldValue j (field a e key i fs)

under-key : (k : List ℕ) (fs : Fields) (j : Json) → value_at k fs ≡ some j → FieldValue j fs
under-key k no_fields j h = none-not-some h
under-key k (field a e key v fs) j h = go (same key k) (under-key k fs j) h
  where
    go : (t : Bool) → (value_at k fs ≡ some j → FieldValue j fs) → cond t (some v) (value_at k fs) ≡ some j → FieldValue j (field a e key v fs)
    go true f h = subst (λ (x : Json). FieldValue x (field a e key v fs)) (some_is h) here
    go false f h = later (f h)

-- the arguments of a message
pub data Arguments : Json → Json → Type 0 where
  given : {a e : ℕ} {fs : Fields} {j : Json} → FieldValue j fs → Arguments (obj a e fs) j
  absent : {a e : ℕ} {fs : Fields} {name : Json} → FieldValue name fs → Arguments (obj a e fs) (obj 0 0 no_fields)

said-by : (n : Option (List ℕ)) (a : Option Json) (f : Bool) (x : Envelope) → (n >>= λ name. a >>= λ y. some (record { name = name; out_of_band = f; arguments = y })) ≡ some x → a ≡ some x.arguments
said-by none a f x e = none-not-some e
said-by (some n) none f x e = none-not-some e
said-by (some n) (some y) f x e = ap (λ (v : Envelope). some v.arguments) (some_is e)

module _ (p q : ℕ) (fs : Fields) where
  as_arguments_lem : {name : Json} (a : Option Json) (y : Json) → FieldValue name fs → ((j : Json) → a ≡ some j → FieldValue j fs) → as_arguments a ≡ some y → Arguments (obj p q fs) y
  as_arguments_lem none y n f h = subst (Arguments (obj p q fs)) (some_is h) (absent n)
  as_arguments_lem (some (leaf a e v)) y n f h = none-not-some h
  as_arguments_lem (some (arr a e js)) y n f h = none-not-some h
  as_arguments_lem (some (obj a e gs)) y n f h = given (f y h)

  as_call_lem : (n o a : Option Json) (x : Envelope) → ((j : Json) → n ≡ some j → FieldValue j fs) → ((j : Json) → o ≡ some j → FieldValue j fs) → ((j : Json) → a ≡ some j → FieldValue j fs)
      → as_call n o a ≡ some x → Arguments (obj p q fs) x.arguments
  as_call_lem none none a x f g h e = none-not-some e
  as_call_lem (some j) none a x f g h e = as_arguments_lem a x.arguments (f j refl) h (said-by (as_string j) (as_arguments a) false x e)
  as_call_lem none (some j) a x f g h e = as_arguments_lem a x.arguments (g j refl) h (said-by (as_string j) (as_arguments a) true x e)
  as_call_lem (some j) (some k) a x f g h e = none-not-some e

  as_envelope : (t : Bool) (n o a : List ℕ) (x : Envelope) → cond t (as_call (value_at n fs) (value_at o fs) (value_at a fs)) none ≡ some x → Arguments (obj p q fs) x.arguments
  as_envelope true n o a x e = as_call_lem (value_at n fs) (value_at o fs) (value_at a fs) x (under-key n fs) (under-key o fs) (under-key a fs) e
  as_envelope false n o a x e = none-not-some e

envelope-arguments : (v : Json) (x : Envelope) → envelope v ≡ some x → Arguments v x.arguments
unfolding envelope
envelope-arguments (leaf a e v) x h = none-not-some h
envelope-arguments (arr a e js) x h = none-not-some h
envelope-arguments (obj a e fs) x h =
    as_envelope a e fs (all (any_of (text "execute" ∷ text "exec-oob" ∷ text "arguments" ∷ text "id" ∷ [])) (keys_of fs)) (text "execute") (text "exec-oob") (text "arguments") x h

pub asked-arguments : {S T : List ℕ} {v : Json} {a : Asked} → Asks S T v a → Arguments v a.value
asked-arguments {v = v} (command {v = x} e n u z) = subst (λ (y : Asked). Arguments v y.value) (sym z) (envelope-arguments v x e)

-- they have fewer bytes
field-bytes : {j : Json} {fs : Fields} → FieldValue j fs → suc (fewest_bytes j) ≤ fewest_fields fs
field-bytes here = omega arith
field-bytes (later f) = let z = field-bytes f in omega arith

pub arguments-bytes : {v y : Json} → Arguments v y → suc (fewest_bytes y) < fewest_bytes v
arguments-bytes (given f) = let z = field-bytes f in omega arith
arguments-bytes (absent {name = name} f) = let z = field-bytes f in omega (arith, some_byte name)

-- fewer levels, and places in order
pub record Below (m : ℕ) (y : Json) : Type 0 where
  pub levels : ℕ
  pub from : ℕ
  pub to : ℕ
  pub fewer : levels < m
  pub inside : Inside levels from to y

field-inside : {j : Json} {fs : Fields} (n p q : ℕ) → FieldValue j fs → InsideFields n p q fs → Below (suc n) j
field-inside n p q here i = record { levels = n; from = p; to = q; fewer = omega arith; inside = i.0 }
field-inside n p q (later {i = v} f) i = field-inside n (end_of v) q f i.1

pub arguments-inside : {v y : Json} (m p q : ℕ) → 1 < m → Inside m p q v → Arguments v y → Below m y
arguments-inside m p q h i (given {a} {e} {j = j} f) = subst (λ (k : ℕ). Below k j) (sym i.4) (field-inside i.3 a e f i.5)
arguments-inside m p q h i (absent f) = record { levels = 1; from = 0; to = 0; fewer = h; inside = (omega arith, omega arith, omega arith, 0, refl, tt) }
