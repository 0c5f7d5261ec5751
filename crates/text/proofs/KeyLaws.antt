-- What nodes cannot be: no scalar and no key is an object, and a range without nodes has no fields.
use Prim.Native.Nat.{ℕ, zero, suc, ◌≤◌, ◌<◌}
use native.Mathlib.Omega.{arith}
use mathlib.Core.Path.{◌≡◌, refl}
use mathlib.Core.Bool.{Bool, true, false, cond}
use mathlib.Core.Logic.{⊎_elim, ◌⊎◌, inl, inr}
use mathlib.Core.List.{List}
use Rattle.grammar.specs.Tree.{Scalar, Fields}
use Rattle.grammar.specs.Tree.Fields.{no_fields, field}
use Rattle.grammar.specs.Serving.Machine.{Dialect}
use Rattle.strings.specs.Strings.{plain_string}
use Rattle.tokens.specs.NodeKinds.{object_node, plain_key_node, other_key_node}
use Rattle.tokens.specs.Tokens.{scalar_node, key_node}
use Rattle.tokens.proofs.ScalarNodes.{scalar_kind_lem}
use Rattle.text.specs.Nodes.{HoldsFields}
pub use Rattle.text.proofs.Frames.{goes_on}

pub lt_or_ge : (a b : ℕ) → (a < b) ⊎ (b ≤ a)
lt_or_ge a zero = inr (omega arith)
lt_or_ge zero (suc b) = inl (omega arith)
lt_or_ge (suc a) (suc b) = ⊎_elim (λ p. inl (omega arith)) (λ p. inr (omega arith)) (lt_or_ge a b)

pub scalar-no_object : (s : List ℕ) (a e : ℕ) (v : Scalar) → scalar_node s a e v ≡ object_node → ⊥
scalar-no_object s a e v h = omega (arith, (scalar_kind_lem s a e v).1)

pub key-no_object : (s : List ℕ) (a e : ℕ) → key_node s a e ≡ object_node → ⊥
key-no_object s a e h = go (plain_string s a e) h
  where
    go : (b : Bool) → ◌≡◌ {A = ℕ} (cond b plain_key_node other_key_node) object_node → ⊥
    go true h = omega arith
    go false h = omega arith

module _ (D : Dialect) (s w : List ℕ) where
  pub no_keys : (fs : Fields) (l k n : ℕ) → n ≤ k → HoldsFields D s w fs l k n → fs ≡ no_fields
  no_keys no_fields l k n h x = refl
  no_keys (field a e cs j fs) l k n h x = absurd (omega (arith, x.0))
