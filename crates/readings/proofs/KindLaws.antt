-- The JSON kinds of nodes, and whether a built-in takes the value at a node.
-- The idea: a node's words say the value's kind and, of a number, where its token stands.
use Prim.Native.Nat.{ℕ, ◌-◌}
use mathlib.Core.Path.{◌≡◌, refl, sym, ap, ap₂, ◌∙◌}
use mathlib.Core.Bool.{Bool, true, false, cond}
use mathlib.Core.List.{List, ◌∷◌}
use mathlib.Core.Option.{Option, none, some}
use native.Mathlib.Omega.{arith}
use lib.Dec.{leb}
use lib.ListN.{get_or, take, drop}
use Rattle.grammar.specs.Tree.{Scalar, Json, Kind, kind_of, scalar_kind}
use Rattle.grammar.specs.Tree.Scalar.{null, bool, num, str}
use Rattle.grammar.specs.Tree.Json.{leaf, arr, obj}
use Rattle.grammar.specs.Tree.Kind.{string, number}
use Rattle.grammar.specs.Integers.{negative, unsigned_part, decimal}
use Rattle.grammar.specs.Serving.Machine.Message.{message}
use Rattle.rules.specs.Types.{Range, ranges, in_range, number_fits, takes, value_in_range, built_in_takes}
use Rattle.strings.specs.Strings.{plain_string}
use Rattle.tokens.specs.NodeKinds.{integer_node, other_number_node, plain_string_node, other_string_node}
use Rattle.tokens.specs.Tokens.{scalar_node}
use Rattle.text.specs.Nodes.{Holds, node_end, node_kind, node_start}
use Rattle.std.specs.Prelude as Code
use Rattle.builtins.specs.declared.json.JsonKind.{JsonKind}
use Rattle.std.specs.Option.{option_eq}
use denote.Enum.Bare.{sameb}
use Rattle.rules.proofs.Grid.{same_kind_lem, other-kind}
use Rattle.builtins.specs.declared.json.JsonKind.TheVariants.{Number}
use Rattle.builtins.specs.contracts.json.JsonKind.{the_type}
use Rattle.builtins.specs.Kinds.{kind_in, kind_as, takes_if}
use Rattle.builtins.proofs.KindLaws.{same_in}
use Rattle.readings.specs.Parts.{kind_of_node, NumberFits, BuiltInTakes}

-- the kind of a node's kind
node_kind-scalar : (m : List ℕ) (a e : ℕ) (v : Scalar) → kind_of_node (scalar_node m a e v) ≡ some (scalar_kind v)
node_kind-scalar m a e null = refl
node_kind-scalar m a e (bool true) = refl
node_kind-scalar m a e (bool false) = refl
node_kind-scalar m a e (num true t) = refl
node_kind-scalar m a e (num false t) = refl
node_kind-scalar m a e (str cs) = go (plain_string m a e)
  where
    go : (b : Bool) → kind_of_node (cond b plain_string_node other_string_node) ≡ some string
    go true = refl
    go false = refl

pub node_kind-is : (m w : List ℕ) (j : Json) (l k : ℕ) → Holds message m w j l k → kind_of_node (node_kind w k) ≡ some (kind_of j)
node_kind-is m w (leaf a e v) l k h = rw h.0.has_kind (node_kind-scalar m a e v)
node_kind-is m w (arr a e js) l k h = rw h.0.has_kind
node_kind-is m w (obj a e fs) l k h = rw h.0.has_kind

-- a number at a node
module _ (m w : List ℕ) {k b : ℕ} where
  pub number-free : none ≡ get_or (none ∷ ranges) b none → NumberFits m w k b true
  number-free p = record { told = λ a e l i token h. rw (← p) }

  module _ {low high : ℕ} (p : ◌≡◌ {A = Option Range} (some (record { low = low; high = high })) (get_or (none ∷ ranges) b none)) {c : ℕ} (n : c ≡ node_kind w k) where
    pub number-other : (c ≡ integer_node → ⊥) → NumberFits m w k b false
    number-other f = record { told = λ a e l i token h. go i token (n ∙ h.0.has_kind) }
      where
        go : (i : Bool) (token : List ℕ) → c ≡ cond i integer_node other_number_node → false ≡ number_fits (get_or (none ∷ ranges) b none) i token
        go true token z = absurd (f z)
        go false token z = rw (← p)

    pub number-within : c ≡ integer_node → {s z : ℕ} → s ≡ node_start w k → z ≡ node_end w k → {r : Bool}
        → r ≡ leb (decimal 0 (unsigned_part (take (z - s) (drop s m)))) (cond (negative (take (z - s) (drop s m))) low high) → NumberFits m w k b r
    unfolding in_range
    number-within f {s} {z} u v {r} g = record {
      told = λ a e l i token h. go i token (sym (n ∙ h.0.has_kind) ∙ f)
          (h.2 ∙ ap₂ (λ (y t : ℕ). take (t - y) (drop y m)) (sym (u ∙ h.0.has_start)) (sym (v ∙ h.0.has_end)));
    }
      where
        go : (i : Bool) (token : List ℕ) → ◌≡◌ {A = ℕ} (cond i integer_node other_number_node) integer_node → token ≡ take (z - s) (drop s m) → r ≡ number_fits (get_or (none ∷ ranges) b none) i token
        go true token y t = g ∙ rw (← p, t)
        go false token y t = absurd (omega arith)

-- a value at a node
pub kind_at : (m w : List ℕ) (k : ℕ) {c : Kind} {x : ℕ} → some c ≡ kind_of_node x → x ≡ node_kind w k → (j : Json) (l : ℕ) → Holds message m w j l k → kind_of j ≡ c
kind_at m w k {c} n o j l h = let e : some c ≡ some (kind_of j) = n ∙ ap kind_of_node o ∙ node_kind-is m w j l k h in cc

module _ (m w : List ℕ) {k x : ℕ} (o : x ≡ node_kind w k) where
  pub no_kind : none ≡ kind_of_node x → {b : ℕ} → BuiltInTakes m w k b false
  no_kind n {b} = record { told = λ j l h. let e : none ≡ some (kind_of j) = n ∙ ap kind_of_node o ∙ node_kind-is m w j l k h in cc }

  module _ {c : Kind} (n : some c ≡ kind_of_node x) {b : ℕ} {t : Bool} (g : t ≡ takes b c) where
    pub not_taken : t ≡ false → BuiltInTakes m w k b false
    unfolding built_in_takes
    not_taken f = record { told = λ j l h. rw (kind_at m w k n o j l h, ← g, f) }

    pub taken : t ≡ true → (c ≡ number → ⊥) → BuiltInTakes m w k b true
    unfolding built_in_takes
    taken f d = record { told = λ j l h. rw (kind_at m w k n o j l h, ← g, f) (go j (kind_at m w k n o j l h)) }
      where
        go : (j : Json) → kind_of j ≡ c → true ≡ value_in_range b j
        go (leaf a e null) z = refl
        go (leaf a e (bool i)) z = refl
        go (leaf a e (num i token)) z = absurd (d (sym z))
        go (leaf a e (str cs)) z = refl
        go (arr a e js) z = refl
        go (obj a e fs) z = refl

    pub number-taken : t ≡ true → c ≡ number → {r : Bool} → NumberFits m w k b r → BuiltInTakes m w k b r
    unfolding built_in_takes
    number-taken f d {r} u = record { told = λ j l h. rw (kind_at m w k n o j l h, ← g, f) (go j l h (kind_at m w k n o j l h ∙ d)) }
      where
        go : (j : Json) (l : ℕ) → Holds message m w j l k → kind_of j ≡ number → r ≡ value_in_range b j
        go (leaf a e null) l h z = cc
        go (leaf a e (bool i)) l h z = cc
        go (leaf a e (num i token)) l h z = u.told a e l i token h
        go (leaf a e (str cs)) l h z = cc
        go (arr a e js) l h z = cc
        go (obj a e fs) l h z = cc

  -- where there may be no kind
  module _ (kind : Code.Option JsonKind) (n : kind_as kind ≡ kind_of_node x) {b : ℕ} {t : Bool} (g : t ≡ takes_if b kind) where
    pub if_not_taken : t ≡ false → BuiltInTakes m w k b false
    if_not_taken f = go kind n g
      where
        go : (i : Code.Option JsonKind) → kind_as i ≡ kind_of_node x → t ≡ takes_if b i → BuiltInTakes m w k b false
        go Code.None n g = no_kind n
        go (Code.Some c) n g = not_taken n g f

    pub if_taken : t ≡ true → option_eq (sameb the_type) kind (Code.Some Number) ≡ false → BuiltInTakes m w k b true
    if_taken f = go kind n g
      where
        go : (i : Code.Option JsonKind) → kind_as i ≡ kind_of_node x → t ≡ takes_if b i → option_eq (sameb the_type) i (Code.Some Number) ≡ false → BuiltInTakes m w k b true
        go Code.None n g e = cc
        go (Code.Some c) n g e = taken n g f (other-kind (kind_in c) number (sym (same_in c Number) ∙ e))

    pub if_number_taken : t ≡ true → option_eq (sameb the_type) kind (Code.Some Number) ≡ true → {r : Bool} → NumberFits m w k b r → BuiltInTakes m w k b r
    if_number_taken f e {r} u = go kind n g e
      where
        go : (i : Code.Option JsonKind) → kind_as i ≡ kind_of_node x → t ≡ takes_if b i → option_eq (sameb the_type) i (Code.Some Number) ≡ true → BuiltInTakes m w k b r
        go Code.None n g e = cc
        go (Code.Some c) n g e = number-taken n g f (same_kind_lem (kind_in c) number (sym (same_in c Number) ∙ e)) u
