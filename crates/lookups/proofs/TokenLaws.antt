-- What the words of a node say of the key or string there: where it stands, what it means, and whether its bytes are its code points.
use Prim.Native.Nat.{ℕ, ◌+◌, ◌-◌}
use mathlib.Core.Path.{◌≡◌, sym, ap, ap₂, ◌∙◌, subst, subst₂}
use mathlib.Core.Bool.{Bool, true}
use mathlib.Core.List.{List}
use lib.ListN.{take, drop}
use Rattle.grammar.specs.Notation.{same}
use Rattle.grammar.specs.Tree.Scalar.{str}
use Rattle.grammar.specs.Serving.Machine.Message.{message}
use Rattle.strings.specs.declared.dialects.Dialect.TheVariants.{Message}
use Rattle.std.specs.Prelude.{Option}
use Rattle.strings.specs.Strings.{plain_string, Means}
use Rattle.strings.specs.Meanings.{inside}
use Rattle.strings.specs.Decoding.{Decodes}
use Rattle.strings.proofs.Comparisons.{plain-means}
use Rattle.tokens.specs.Tokens.{scalar_node, key_node}
use Rattle.text.specs.Nodes.{Node, node_end, node_kind, node_start}
use Rattle.lookups.specs.Lookups.{plain_kind, MeaningAt, NodeMeans, InnerBytes, NodeDecodes}
use Rattle.lookups.specs.Lookups.MeaningAt.{a_key, a_string}
use Rattle.lookups.proofs.NodeLaws.{plain_string_lem, plain-key}

pub meaning_is : {m w : List ℕ} {k : ℕ} {name cs : List ℕ} {r : Bool} → NodeMeans message m w k name r → MeaningAt m w k cs → r ≡ same cs name
meaning_is {cs = cs} n (a_key u) = n.key cs u
meaning_is {cs = cs} n (a_string a e l u) = n.string a e l cs u

pub record Token (m w : List ℕ) (k : ℕ) (cs : List ℕ) : Type 0 where
  pub means : Means message m (node_start w k) (node_end w k) cs
  pub plain : plain_kind (node_kind w k) ≡ true → plain_string m (node_start w k) (node_end w k) ≡ true

pub token : {m w : List ℕ} {k : ℕ} {cs : List ℕ} → MeaningAt m w k cs → Token m w k cs
token {m} {w} {k} {cs} = elim [
  | a_key u ↦ at u.start u.end (key_node m u.start u.end) u.node_is u.means (plain-key message m w u.start u.end)
  | a_string i j l u ↦ at i j (scalar_node m i j (str cs)) u.0 u.2 (plain_string_lem message m w i j)
]
  where
    at : (i j n : ℕ) → Node w k n i j → Means message m i j cs → (plain_kind n ≡ true → plain_string m i j ≡ true) → Token m w k cs
    at i j n u v p = record {
      means = subst₂ (λ (y z : ℕ). Means message m y z cs) (sym u.has_start) (sym u.has_end) v;
      plain = λ t. subst₂ (λ (y z : ℕ). plain_string m y z ≡ true) (sym u.has_start) (sym u.has_end) (p (sym (ap plain_kind u.has_kind) ∙ t));
    }

module _ {m w : List ℕ} {k a : ℕ} (pa : a ≡ node_start w k) where
  pub token-bytes : {n i e : ℕ} {bytes : List ℕ} → e ≡ node_end w k → i ≡ a + 1 → n ≡ e - a - 2 → bytes ≡ take n (drop i m) → InnerBytes m w k bytes
  token-bytes pe q p h = record {
    told = λ cs u t. let v = token u in
        h ∙ ap₂ (λ (y z : ℕ). take y (drop z m)) p q ∙ ap₂ (λ (y z : ℕ). inside m y z) pa pe ∙ sym (plain-means Message v.means (v.plain t));
  }

  pub token_decodes : {bytes : List ℕ} {r : Option ℕ} → Decodes message m a bytes r → NodeDecodes m w k bytes r
  token_decodes h = record {
    fits = h.fits;
    told = λ cs u. h.told (node_end w k) cs (subst (λ (y : ℕ). Means message m y (node_end w k) cs) (sym pa) (token u).means);
  }
