-- The children of a row, looked at in turn: those that are left decide.
-- The idea: a key or a string is compared with a name by what it means, and the first child that fits is the answer.
use Prim.Native.Nat.{ℕ, ◌+◌, ◌-◌, ◌<◌, ◌≤◌}
use mathlib.Core.Path.{◌≡◌, refl, sym, ap, ◌∙◌}
use mathlib.Core.Bool.{Bool, true, false}
use mathlib.Core.List.{List}
use Rattle.grammar.specs.Notation.{same}
use Rattle.grammar.specs.Serving.Machine.Message.{message}
use Rattle.rules.specs.Rows.{children, name_of}
use Rattle.rules.specs.SchemaTable.{member_in}
use Rattle.rules.specs.Sound.{sound}
use Rattle.rows.specs.Rows.{Follows, First, Counted}
use Rattle.rows.proofs.ChildLaws.{LinkLeft, link-starts, link_hit, link_on, link-ends}
use Rattle.text.specs.Nodes.{node_kind}
use Rattle.lookups.specs.Lookups.{plain_kind, MeaningAt, NodeMeans, InnerBytes}
use Rattle.lookups.proofs.TokenLaws.{meaning_is}
use Rattle.children.specs.Children.{RowNamed, ChildNamed, ChildScanned}

-- a walk over a row's children: what is left to look at for a name
pub record NameLeft (S T cs : List ℕ) (r c n : ℕ) : Type 0 where
  pub left : sound S T ≡ true → LinkLeft (member_in S T cs (children T r)) S T cs c n

module _ (S T cs : List ℕ) {r : ℕ} where
  pub name_start : {a n : ℕ} → First T r a → Counted T r n → NameLeft S T cs r a n
  name_start p q = record { left = λ o. link-starts S T cs p q }

module _ {S T cs : List ℕ} {r c n : ℕ} (v : NameLeft S T cs r c n) where
  pub name_end : n ≤ 0 → ChildNamed S T cs r 0
  name_end h = record { told = λ o. link-ends (v.left o) h }

  module _ (h : 0 < n) {t : Bool} (g : RowNamed S T cs c t) where
    pub name_hit : t ≡ true → ChildNamed S T cs r (c + 1)
    name_hit q = record { told = λ o. link_hit (v.left o) h refl (g.told o) q }

    pub name-on : t ≡ false → {c' : ℕ} → Follows T c c' → NameLeft S T cs r c' (n - 1)
    name-on q f = record { left = λ o. link_on (v.left o) h refl (g.told o) q f }

-- and for what a key or a string means
pub record ChildLeft (S T m w : List ℕ) (r k c n : ℕ) : Type 0 where
  pub left : (cs : List ℕ) → MeaningAt m w k cs → NameLeft S T cs r c n

module _ (S T m w : List ℕ) {r k : ℕ} where
  pub child-start : {a n : ℕ} → First T r a → Counted T r n → ChildLeft S T m w r k a n
  child-start p q = record { left = λ cs u. name_start S T cs p q }

module _ {S T m w : List ℕ} {r k c n : ℕ} (v : ChildLeft S T m w r k c n) where
  pub child-end : n ≤ 0 → ChildScanned S T m w r k 0
  child-end h = record { told = λ cs o u. (name_end (v.left cs u) h).told o }

  module _ (h : 0 < n) {name : List ℕ} (p : name ≡ name_of S T c) {t : Bool} (g : NodeMeans message m w k name t) where
    named : {cs : List ℕ} → MeaningAt m w k cs → RowNamed S T cs c t
    named {cs} u = record { told = λ o. meaning_is g u ∙ ap (same cs) p }

    pub child_hit : t ≡ true → ChildScanned S T m w r k (c + 1)
    child_hit q = record { told = λ cs o u. (name_hit (v.left cs u) h (named u) q).told o }

    pub child-on : t ≡ false → {c' : ℕ} → Follows T c c' → ChildLeft S T m w r k c' (n - 1)
    child-on q f = record { left = λ cs u. name-on (v.left cs u) h (named u) q f }

-- a plain key or string means its bytes
pub scan-plain : {S T m w : List ℕ} {r k kind x : ℕ} {plain : Bool} {bytes : List ℕ} → kind ≡ node_kind w k → plain ≡ plain_kind kind → plain ≡ true → InnerBytes m w k bytes
    → ChildNamed S T bytes r x → ChildScanned S T m w r k x
scan-plain {S} {T} {r = r} pk pp t g p = record {
  told = λ cs o u. p.told o ∙ ap (λ (l : List ℕ). member_in S T l (children T r)) (g.told cs u (sym (pp ∙ ap plain_kind pk) ∙ t));
}
