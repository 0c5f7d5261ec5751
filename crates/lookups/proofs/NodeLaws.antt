-- Which values are strings, by the kinds of their nodes; and what a string's or a key's node says that it means.
use Prim.Native.Nat.{ℕ}
use mathlib.Core.Path.{◌≡◌, refl, sym, ap, ◌∙◌, subst₂}
use mathlib.Core.Bool.{Bool, true, false, cond}
use mathlib.Core.List.{List}
use Rattle.grammar.specs.Notation.{same}
use Rattle.grammar.specs.Tree.{Scalar, Json, kind_of}
use Rattle.grammar.specs.Tree.Scalar.{null, bool, num, str}
use Rattle.grammar.specs.Tree.Json.{leaf, arr, obj}
use Rattle.grammar.specs.Tree.Kind.{string}
use Rattle.grammar.specs.Serving.Machine.{Dialect}
use Rattle.rules.specs.Types.{same_kind}
use Rattle.strings.specs.Strings.{plain_string, Means}
use Rattle.strings.specs.Meanings.{MeansName}
use Rattle.tokens.specs.NodeKinds.{plain_string_node, other_string_node, plain_key_node, other_key_node}
use Rattle.tokens.specs.Tokens.{scalar_node, key_node}
use Rattle.text.specs.Nodes.{Node, Holds, node_end, node_kind, node_start}
use Rattle.lookups.specs.Lookups.{string_kind, plain_kind, NodeMeans}

scalar_string_lem : (s : List ℕ) (a e : ℕ) (v : Scalar) → string_kind (scalar_node s a e v) ≡ same_kind (kind_of (leaf a e v)) string
scalar_string_lem s a e null = refl
scalar_string_lem s a e (bool true) = refl
scalar_string_lem s a e (bool false) = refl
scalar_string_lem s a e (num true t) = refl
scalar_string_lem s a e (num false t) = refl
scalar_string_lem s a e (str cs) = go (plain_string s a e)
  where
    go : (b : Bool) → string_kind (cond b plain_string_node other_string_node) ≡ true
    go true = refl
    go false = refl

module _ (D : Dialect) (s w : List ℕ) where
  -- a value is a string exactly when its node's kind says so
  pub string_node_lem : (j : Json) (l k : ℕ) → Holds D s w j l k → string_kind (node_kind w k) ≡ same_kind (kind_of j) string
  string_node_lem (leaf a e v) l k h = ap string_kind h.0.has_kind ∙ scalar_string_lem s a e v
  string_node_lem (arr a e js) l k h = ap string_kind h.0.has_kind
  string_node_lem (obj a e fs) l k h = ap string_kind h.0.has_kind

  pub plain_string_lem : (a e : ℕ) → plain_kind (cond (plain_string s a e) plain_string_node other_string_node) ≡ true → plain_string s a e ≡ true
  plain_string_lem a e t = go (plain_string s a e) t
    where
      go : (b : Bool) → plain_kind (cond b plain_string_node other_string_node) ≡ true → b ≡ true
      go true q = refl
      go false q = q

  pub plain-key : (a e : ℕ) → plain_kind (key_node s a e) ≡ true → plain_string s a e ≡ true
  plain-key a e t = go (plain_string s a e) t
    where
      go : (b : Bool) → plain_kind (cond b plain_key_node other_key_node) ≡ true → b ≡ true
      go true q = refl
      go false q = q

  module _ {k a e : ℕ} {plain r : Bool} {name : List ℕ} (pa : a ≡ node_start w k) (pe : e ≡ node_end w k) (pp : plain ≡ plain_kind (node_kind w k)) (h : MeansName D s a e plain name r) where
    -- the token from x to y whose node this is
    token-means : (x y kind : ℕ) (cs : List ℕ) → Node w k kind x y → Means D s x y cs → (plain_kind kind ≡ true → plain_string s x y ≡ true) → r ≡ same cs name
    token-means x y kind cs n m p =
        let ux = sym (pa ∙ n.has_start) in
        let uy = sym (pe ∙ n.has_end) in
        h.told cs (subst₂ (λ (i j : ℕ). Means D s i j cs) ux uy m)
        (λ t. subst₂ (λ (i j : ℕ). plain_string s i j ≡ true) ux uy (p (sym (pp ∙ ap plain_kind n.has_kind) ∙ t)))

    pub node_means : NodeMeans D s w k name r
    node_means =
        record {
          key = λ cs u. token-means u.start u.end (key_node s u.start u.end) cs u.node_is u.means (plain-key u.start u.end);
          string = λ x y l cs u. token-means x y (scalar_node s x y (str cs)) cs u.0 u.2 (plain_string_lem x y);
        }
