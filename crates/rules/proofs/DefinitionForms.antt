-- What holds of the bodies that an object's fields give holds of the definition that they give.
-- The idea: a property of what may be absent is handed on by each step of the table of keys.
use Prim.Native.Nat.{ℕ}
use mathlib.Core.Path.{◌≡◌, refl}
use mathlib.Core.Bool.{Bool, true, false, cond}
use mathlib.Core.List.{List, [], ◌∷◌}
use mathlib.Core.Option.{Option, none, some}
use Rattle.grammar.specs.Notation.{text, all}
use Rattle.grammar.specs.Tree.{Json, Fields}
use Rattle.grammar.specs.Keys.{keys_of}
use Rattle.rules.specs.Values.{◌>>=◌, value_at, any_of}
use Rattle.rules.specs.Definitions.{Name, Body, Definition, as_name, may, only, enum_body, struct_body, union_body, alternate_body, command_body, kind_key, as_definition}
use Rattle.rules.specs.Serving.RawTable.{IfThere}
use Rattle.rules.proofs.Lists.{none-not-some}

-- what holds of a value holds of what follows from it
pub if_then : {A B : Type 0} (P : A → Type 0) (Q : B → Type 0) (o : Option A) (f : A → Option B) → IfThere P o → ((a : A) → P a → IfThere Q (f a)) → IfThere Q (o >>= f)
if_then P Q none f p k = tt
if_then P Q (some a) f p k = k a p

pub if_may : {A : Type 0} (P : Json → Type 0) (Q : A → Type 0) (shape : Json → Option A) (o : Option Json) → IfThere P o → ((j : Json) → P j → IfThere Q (shape j)) → IfThere (IfThere Q) (may shape o)
if_may P Q shape none p k = tt
if_may P Q shape (some j) p k = if_then Q (IfThere Q) (shape j) _ (k j p) (λ a q. q)

-- nothing is asked of it; it is itself
pub trivial : {A : Type 0} (o : Option A) → IfThere (λ _. Unit {0}) o
trivial none = tt
trivial (some x) = tt

pub itself : {A : Type 0} (o : Option A) → IfThere (λ x. o ≡ some x) o
itself none = tt
itself (some x) = refl

-- it is there
pub of_some : {A : Type 0} (P : A → Type 0) (o : Option A) {x : A} → IfThere P o → o ≡ some x → P x
of_some P none p e = none-not-some e
of_some P (some y) {x} p e = let z : x ≡ y = cc in rw z p

-- a definition's name and its body
abbrev pub Both : (Name → Type 0) → (Body → Type 0) → Definition → Type 0
Both N B d = N d.name × B d.body

-- the name stands under the kind key, the body is the kind's
module _ (fs : Fields) (N : Name → Type 0) (B : Body → Type 0) (name_of : (k : List ℕ) → IfThere (λ (j : Json). IfThere N (as_name j)) (value_at k fs)) where
  by_only : (ks : List (List ℕ)) (n : Name) (o : Option Body) → N n → IfThere B o → IfThere (Both N B) (only ks fs n o)
  by_only ks n none p q = tt
  by_only ks n (some b) p q = go (all (any_of ks) (keys_of fs))
    where
      go : (t : Bool) → IfThere (Both N B) (cond t (some (record { name = n; body = b })) none)
      go true = (p, q)
      go false = tt

  by_key : (k : List ℕ) (others : List (List ℕ)) (o : Option Body) (otherwise : Option Definition) → IfThere B o → IfThere (Both N B) otherwise → IfThere (Both N B) (kind_key k fs others o otherwise)
  by_key k others o otherwise p q = go (value_at k fs) refl (name_of k)
    where
      go : (v : Option Json) → value_at k fs ≡ v → IfThere (λ (j : Json). IfThere N (as_name j)) v → IfThere (Both N B) (kind_key k fs others o otherwise)
      go none e m = rw e q
      go (some j) e m = rw e (if_then N (Both N B) (as_name j) _ m (λ n t. by_only (k ∷ others) n o t p))

  pub if_definition : IfThere B (enum_body fs) → IfThere B (struct_body fs) → IfThere B (union_body fs) → IfThere B (alternate_body fs) → IfThere B (command_body fs) → IfThere (Both N B) (as_definition fs)
  if_definition e s u a c =
      by_key (text "enum") (text "data" ∷ []) (enum_body fs) _ e
      (by_key (text "struct") (text "data" ∷ text "base" ∷ []) (struct_body fs) _ s
      (by_key (text "union") (text "base" ∷ text "discriminator" ∷ text "data" ∷ []) (union_body fs) _ u
      (by_key (text "alternate") (text "data" ∷ []) (alternate_body fs) _ a
      (by_key (text "command") (text "data" ∷ text "returns" ∷ text "allow-oob" ∷ []) (command_body fs) none c tt))))
