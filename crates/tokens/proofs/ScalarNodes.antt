-- The kind of the node of a value without brackets is below those of arrays and objects.
use Prim.Native.Nat.{ℕ, ◌<◌}
use mathlib.Core.Bool.{Bool, true, false, cond}
use mathlib.Core.List.{List}
use native.Mathlib.Omega.{arith}
use Rattle.grammar.specs.Tree.{Scalar}
use Rattle.grammar.specs.Tree.Scalar.{null, bool, num, str}
use Rattle.strings.specs.Strings.{plain_string}
use Rattle.tokens.specs.NodeKinds.{plain_string_node, other_string_node, array_node}
use Rattle.tokens.specs.Tokens.{scalar_node}

pub scalar_kind_lem : (s : List ℕ) (a e : ℕ) (v : Scalar) → (0 < scalar_node s a e v) × (scalar_node s a e v < array_node)
scalar_kind_lem s a e null = (omega arith, omega arith)
scalar_kind_lem s a e (bool true) = (omega arith, omega arith)
scalar_kind_lem s a e (bool false) = (omega arith, omega arith)
scalar_kind_lem s a e (num true t) = (omega arith, omega arith)
scalar_kind_lem s a e (num false t) = (omega arith, omega arith)
scalar_kind_lem s a e (str cs) = go (plain_string s a e)
  where
    go : (b : Bool) → (0 < cond b plain_string_node other_string_node) × (cond b plain_string_node other_string_node < array_node)
    go true = (omega arith, omega arith)
    go false = (omega arith, omega arith)
